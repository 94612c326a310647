-- The numbers of the matches of a text are those of the model's equations and variables.
use Rattle.std.proofs.Common.{◌≡◌, ℕ, zero, suc, ◌+◌, cond, List, [], ◌∷◌, ◌++◌, length, Option, Some, None, Result, Ok, Err, arith, refl, sym, ap, subst, ◌∙◌}
use Rattle.std.specs.Prelude.{slice_get}
use Rattle.std.specs.List.{AllByRecursion as Each}
use Rattle.std.proofs.lemmas.Option.{same_Some}
use Rattle.emp_ast.specs.declared.model.Model.{Model}
use Rattle.gms_grammar.specs.declared.fault.ModelFault.{ModelFault}
use Rattle.gms_grammar.specs.declared.fault.ModelFault.TheVariants.{Undefined}
use Rattle.gms_read.specs.declared.draft.Definition.{Definition}
use Rattle.gms_read.specs.declared.draft.Draft.{Draft}
use Rattle.gms_read.specs.declared.draft.DraftEquation.{DraftEquation}
use Rattle.gms_read.specs.declared.draft.DraftVariable.{DraftVariable}
use Rattle.gms_read.specs.Rules.{or_else, is_none, undefined_from, crossing_from, finished_variables, finished_equation, finished_equations, finished, finish_by}
use Rattle.gms_matches.specs.Matches.{IsWithin, matches_in}
use Rattle.gms_matches.specs.Laws.{TextsHaveMatches}
use Rattle.gms_matches.proofs.Grows.{matches_are_within}

variables_length : (vs : List DraftVariable) → length (finished_variables vs) ≡ length vs
variables_length [] = refl
variables_length (v ∷ vs) = ap suc (variables_length vs)

some_none : {P : Type 0} (f : ModelFault) → ◌≡◌ {A = Option ModelFault} (Some f) None → P
some_none f e = absurd (cc)

equations_length : (k : ℕ) (es : List DraftEquation) → undefined_from k es ≡ None → length (finished_equations es) ≡ length es
equations_length k [] n = refl
equations_length k (e ∷ es) n = go e.name e.definition (equations_length (k + 1) es) n
  where
    go : (name : List ℕ) (o : Option Definition) → (undefined_from (k + 1) es ≡ None → length (finished_equations es) ≡ length es) → cond (is_none o) (Some (Undefined (record { at = k }) e.name)) (undefined_from (k + 1) es) ≡ None → length (finished_equation name o ++ finished_equations es) ≡ suc (length es)
    go name None more n = some_none _ n
    go name (Some d) more n = ap suc (more n)

finished_is : (o p : Option ModelFault) (d : Draft) (m : Model) → finish_by (or_else o p) d ≡ Ok m → (o ≡ None) × (finished d ≡ m)
finished_is (Some f) p d m e = absurd (let z : ◌≡◌ {A = Result Model ModelFault} (Err f) (Ok m) = e in cc)
finished_is None (Some f) d m e = absurd (let z : ◌≡◌ {A = Result Model ModelFault} (Err f) (Ok m) = e in cc)
finished_is None None d m e = (refl, let z : ◌≡◌ {A = Result Model ModelFault} (Ok (finished d)) (Ok m) = e in cc)

each_at : {X : Type 0} (P : X → Type 0) (xs : List X) (i : ℕ) (x : X) → Each P xs → slice_get xs i ≡ Some x → P x
each_at P [] i x h e = absurd (let z : ◌≡◌ {A = Option _} None (Some x) = e in cc)
each_at P (y ∷ xs) zero x h e = subst P (same_Some y x e) h.0
each_at P (y ∷ xs) (suc i) x h e = each_at P xs i x h.1 e

pub texts_have_matches : TextsHaveMatches
texts_have_matches text m ms h i q at =
    let f = finished_is (undefined_from 0 h.draft.equations) (crossing_from 0 h.draft.variables) h.draft m h.is in
    let e : length m.equations ≡ length h.draft.equations = ap (λ x. length x.equations) (sym f.1) ∙ equations_length 0 h.draft.equations f.0 in
    let v : length m.variables ≡ length h.draft.variables = ap (λ x. length x.variables) (sym f.1) ∙ variables_length h.draft.variables in
    let w = each_at (IsWithin h.draft) (matches_in text h.draft h.statements) i q (matches_are_within text h.statements h.draft h.drafted) (ap (λ x. slice_get x i) (sym h.matches) ∙ at) in
    let a = w.0 in
    let b = w.1 in
    (omega (arith, a, e), omega (arith, b, v))
