-- Each model that some text stands for is sound.
use Rattle.std.proofs.Common.{◌≡◌, ℕ, ◌+◌, ◌≤◌, Bool, true, false, cond, List, [], ◌∷◌, ◌++◌, map, length, All, Option, Some, None, Result, Ok, Err, refl, sym, ap, subst, ◌∙◌, arith}
use Rattle.std.specs.List.{AllByRecursion as Each}
use Rattle.std.proofs.lemmas.Bool.{true≢false}
use Rattle.std.proofs.lemmas.List.Elements.{All-from_recursion}
use Rattle.emp_ast.specs.declared.model.Equation.{Equation}
use Rattle.emp_ast.specs.declared.model.Variable.{Variable}
use Rattle.emp_ast.specs.declared.model.Model.{Model}
use Rattle.gms_grammar.specs.declared.kind.Kind.{Kind}
use Rattle.gms_grammar.specs.declared.lexeme.Lexeme.{Lexeme}
use Rattle.gms_read.specs.declared.draft.Definition.{Definition}
use Rattle.gms_read.specs.declared.draft.DraftEquation.{DraftEquation}
use Rattle.gms_read.specs.declared.draft.Draft.{Draft}
use Rattle.gms_read.specs.declared.draft.DraftVariable.{DraftVariable}
use Rattle.gms_grammar.specs.declared.limit.Limit.{Limit}
use Rattle.gms_grammar.specs.declared.limit.Limit.TheVariants.{Below, At, Above}
use Rattle.gms_grammar.specs.declared.fault.ModelFault.{ModelFault}
use Rattle.gms_grammar.specs.declared.fault.ModelFault.TheVariants.{Undefined}
use Rattle.gms_grammar.specs.Nesting.{too_deep_from}
use Rattle.gms_grammar.specs.Grammar.{Statement, solve, IsSolveOf, is_solve, is_mcp, IsFileOf, last, then}
use Rattle.gms_read.specs.Rules.{Step, and_then, or_else, is_none, after, after_all, nothing_yet, undefined_from, crosses, crossing_from, end_of, finished_variables, finished_equation, finished_equations, or_empty, finished, finish_by, finish, whole_meaning_by}
use Rattle.emp_ast.specs.Names.{variable_names}
use Rattle.gms_print.specs.ReadsBack.{HasText}
use Rattle.gms_print.proofs.Sound.{IsFree, SoundEquation, SoundEnd as SoundModelEnd, low_limit, high_limit, SoundVariable, SoundGoal, all_names, Sound}
use Rattle.gms_print.proofs.GoodTexts.{each_parts, IsGood, good_lexemes, SoundLimit, statement_rises, good_statement}
use Rattle.gms_print.proofs.Drafts.{names_of, equation_names_of, model_names, draft_names, Apart, apart_pairs, SoundLimits, SoundSides, SoundEquations, IsSound, SoundStep, SoundEnd, sound_start, after_sound, solve_sound}

-- ---- statements of a file
then_end : (r : Step) (following : Draft → Step) → SoundStep r → ((d : Draft) → IsSound d → SoundEnd (following d)) → SoundEnd (and_then r following)
then_end (Ok d) following h k = k d h
then_end (Err f) following h k = tt

ends_alone : (r : Step) → SoundEnd r → SoundEnd (and_then r (λ e. Ok e))
ends_alone (Ok e) h = h
ends_alone (Err f) h = tt

last_end : {kind : Kind} (text : List ℕ) (d : Draft) (ts : List Lexeme) (s : Statement) → IsSolveOf kind ts s → IsSound d → SoundEnd (after_all text d (s ∷ []))
last_end text d ts s (is_solve k t u e z us goal i j l m n o) h = ends_alone (after text d (solve t goal)) (solve_sound text d t goal h)
last_end text d ts s (is_mcp k t u e z i j l m n) h = ends_alone (after text d (solve t None)) (solve_sound text d t None h)

file_sound : {kind : Kind} (text : List ℕ) (ts : List Lexeme) (ss : List Statement) → IsFileOf kind ts ss → Each (IsGood text) ts → too_deep_from 0 ts ≡ None → (d : Draft) → IsSound d → SoundEnd (after_all text d ss)
file_sound text ts ss (last us zs s i z) g l d h = last_end text d us s i h
file_sound text ts ss (then us vs s more i f) g l d h =
    let p = each_parts (IsGood text) us vs g in
    let r = statement_rises us s i 0 vs (omega arith) l in
    then_end (after text d s) (λ e. after_all text e more)
    (after_sound text d s h (good_statement text us s i p.0 (omega (arith, r.0))))
    (λ e k. file_sound text vs more f p.1 r.1 e k)

-- ---- the end of a text
some_none : {P : Type 0} (f : ModelFault) → ◌≡◌ {A = Option ModelFault} (Some f) None → P
some_none f e = absurd (cc)

all_defined : (count k : ℕ) (es : List DraftEquation) → SoundEquations count es → undefined_from k es ≡ None → Each (SoundEquation count) (finished_equations es)
all_defined count k [] h n = tt
all_defined count k (e ∷ es) h n = go e.name e.definition h.0 (all_defined count (k + 1) es h.1) n
  where
    go : (name : List ℕ) (o : Option Definition) → SoundSides count o → (undefined_from (k + 1) es ≡ None → Each (SoundEquation count) (finished_equations es)) → cond (is_none o) (Some (Undefined (record { at = k }) e.name)) (undefined_from (k + 1) es) ≡ None → Each (SoundEquation count) (finished_equation name o ++ finished_equations es)
    go name None s more n = some_none _ n
    go name (Some d) s more n = (record { left = s.0; right = s.1 }, more n)

defined_names : (k : ℕ) (es : List DraftEquation) → undefined_from k es ≡ None → map (λ (e : Equation). e.name) (finished_equations es) ≡ equation_names_of es
defined_names k [] n = refl
defined_names k (e ∷ es) n = go e.name e.definition (defined_names (k + 1) es) n
  where
    go : (name : List ℕ) (o : Option Definition) → (undefined_from (k + 1) es ≡ None → map (λ (e : Equation). e.name) (finished_equations es) ≡ equation_names_of es) → cond (is_none o) (Some (Undefined (record { at = k }) e.name)) (undefined_from (k + 1) es) ≡ None → map (λ (e : Equation). e.name) (finished_equation name o ++ finished_equations es) ≡ name ∷ equation_names_of es
    go name None more n = some_none _ n
    go name (Some d) more n = ap (λ ns. name ∷ ns) (more n)

defined_few : (es : List DraftEquation) → length (finished_equations es) ≤ length es
defined_few [] = omega arith
defined_few (e ∷ es) = let h = go e.name e.definition (defined_few es) in omega (arith, h)
  where
    go : (name : List ℕ) (o : Option Definition) → length (finished_equations es) ≤ length es → length (finished_equation name o ++ finished_equations es) ≤ length es + 1
    go name None h = omega arith
    go name (Some d) h = omega arith

sound_end : (l : Limit) → SoundLimit l → SoundModelEnd (end_of l)
sound_end Below h = tt
sound_end (At f) h = h
sound_end Above h = tt

still_ordered : (low high : Limit) → crosses low high ≡ false → crosses (low_limit (end_of low)) (high_limit (end_of high)) ≡ false
still_ordered Above high h = absurd (true≢false h)
still_ordered Below Below h = absurd (true≢false h)
still_ordered Below (At g) h = refl
still_ordered Below Above h = refl
still_ordered (At f) Below h = absurd (true≢false h)
still_ordered (At f) (At g) h = h
still_ordered (At f) Above h = refl

no_fault : (b : Bool) (f : ModelFault) (o : Option ModelFault) → cond b (Some f) o ≡ None → (b ≡ false) × (o ≡ None)
no_fault true f o h = some_none f h
no_fault false f o h = (refl, h)

variables_sound : (k : ℕ) (vs : List DraftVariable) → Each SoundLimits vs → crossing_from k vs ≡ None → Each SoundVariable (finished_variables vs)
variables_sound k [] h n = tt
variables_sound k (v ∷ vs) h n =
    let p = no_fault (crosses v.low v.high) _ (crossing_from (k + 1) vs) n in
    (record { low = sound_end v.low h.0.0; high = sound_end v.high h.0.1; ordered = still_ordered v.low v.high p.0 }, variables_sound (k + 1) vs h.1 p.1)

finished_names : (vs : List DraftVariable) → map (λ (v : Variable). v.name) (finished_variables vs) ≡ names_of vs
finished_names [] = refl
finished_names (v ∷ vs) = ap (λ ns. v.name ∷ ns) (finished_names vs)

finished_length : (vs : List DraftVariable) → length (finished_variables vs) ≡ length vs
finished_length [] = refl
finished_length (v ∷ vs) = omega (arith, finished_length vs)

model_name : (o : Option (List ℕ)) → is_none o ≡ false → model_names o ≡ or_empty o ∷ []
model_name None h = absurd (true≢false h)
model_name (Some n) h = refl

same_names : (d : Draft) → is_none d.model ≡ false → undefined_from 0 d.equations ≡ None → draft_names d ≡ all_names (finished d)
same_names d h u =
    ap (λ ms. names_of d.variables ++ equation_names_of d.equations ++ ms) (model_name d.model h)
    ∙ sym (ap (λ ns. ns ++ equation_names_of d.equations ++ or_empty d.model ∷ []) (finished_names d.variables))
    ∙ sym (ap (λ es. variable_names (finished d) ++ es ++ or_empty d.model ∷ []) (defined_names 0 d.equations u))

finished_sound : (d : Draft) → IsSound d → is_none d.model ≡ false → undefined_from 0 d.equations ≡ None → crossing_from 0 d.variables ≡ None → Sound (finished d)
finished_sound d s m u c =
    let e = same_names d m u in
    let size : length d.variables ≡ length (finished_variables d.variables) = sym (finished_length d.variables) in
    record {
      free = subst (All IsFree) e (All-from_recursion IsFree (draft_names d) s.names.free);
      apart = apart_pairs (all_names (finished d)) (subst Apart e s.names.apart);
      few_variables = subst (λ n. n ≤ 512) size s.few_variables;
      few_equations = omega (arith, defined_few d.equations, s.few_equations);
      variables = All-from_recursion SoundVariable (finished_variables d.variables) (variables_sound 0 d.variables s.limits c);
      equations = subst (λ n. All (SoundEquation n) (finished_equations d.equations)) size (All-from_recursion (SoundEquation (length d.variables)) (finished_equations d.equations) (all_defined (length d.variables) 0 d.equations s.equations u));
      goal = subst (λ n. SoundGoal n d.goal) size s.goal;
    }

finish_sound : (d : Draft) (m : Model) → IsSound d → is_none d.model ≡ false → finish d ≡ Ok m → Sound m
finish_sound d m s h e = go (undefined_from 0 d.equations) (crossing_from 0 d.variables) refl refl e
  where
    go : (u c : Option ModelFault) → undefined_from 0 d.equations ≡ u → crossing_from 0 d.variables ≡ c → finish_by (or_else u c) d ≡ Ok m → Sound m
    go (Some f) c p q e = absurd (let z : ◌≡◌ {A = Result Model ModelFault} (Err f) (Ok m) = e in cc)
    go None (Some f) p q e = absurd (let z : ◌≡◌ {A = Result Model ModelFault} (Err f) (Ok m) = e in cc)
    go None None p q e = subst Sound (let z : ◌≡◌ {A = Result Model ModelFault} (Ok (finished d)) (Ok m) = e in cc) (finished_sound d s h p q)

-- ---- texts
pub sound_model : (m : Model) → HasText m → Sound m
sound_model m h = go (after_all h.text nothing_yet h.is.statements) (file_sound h.text h.is.has.lexemes h.is.statements h.is.has.file (good_lexemes h.text h.is.has.lexemes h.is.has.has) h.is.has.level nothing_yet sound_start) h.is.is
  where
    go : (r : Step) → SoundEnd r → whole_meaning_by r ≡ Ok m → Sound m
    go (Ok d) s e = finish_sound d m s.0 s.1 e
    go (Err f) s e = absurd (let z : ◌≡◌ {A = Result Model ModelFault} (Err f) (Ok m) = e in cc)
