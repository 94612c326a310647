-- The values by all variables, one by one.
use Rattle.std.proofs.Common.{◌≡◌, ℕ, ◌+◌, ◌<◌, ◌≤◌, Bool, true, false, cond, List, [], ◌∷◌, ◌++◌, length, drop, sym, ap, ◌∙◌, append_assoc}
use Rattle.std.proofs.lemmas.List.{drop_more, drop_all, append-nil}
use Rattle.emp_num.specs.Whole.{whole}
use Rattle.emp_num.specs.declared.frac.Frac.{Frac}
use Rattle.emp_ast.specs.declared.model.Model.{Model}
use Rattle.emp_ast.specs.declared.annot.Annot.{Annot}
use Rattle.emp_ast.specs.Parties.{is_defined}
use Rattle.emp_poly.specs.Written.{entry}
use Rattle.emp_problem.specs.Left.{no_variable}
use Rattle.emp_subst.specs.Fill.{spread_from, spread}

spread_step : (m : Model) (a : Annot) (values : List Frac) (n next : ℕ) (b : Bool) → n < length m.variables → is_defined m a n ≡ b → spread_from m a values n next (drop n m.variables) ≡ cond b (whole 0 ∷ spread_from m a values (n + 1) next (drop (n + 1) m.variables)) (entry values next ∷ spread_from m a values (n + 1) (next + 1) (drop (n + 1) m.variables))
spread_step m a values n next b l is =
    ap (spread_from m a values n next) (drop_more m.variables n no_variable l)
    ∙ ap (λ c. cond c (whole 0 ∷ spread_from m a values (n + 1) next (drop (n + 1) m.variables)) (entry values next ∷ spread_from m a values (n + 1) (next + 1) (drop (n + 1) m.variables))) is

pub spread_zero : (m : Model) (a : Annot) (values out new : List Frac) (n next : ℕ) → n < length m.variables → is_defined m a n ≡ true → new ≡ out ++ whole 0 ∷ [] → out ++ spread_from m a values n next (drop n m.variables) ≡ spread m a values → new ++ spread_from m a values (n + 1) next (drop (n + 1) m.variables) ≡ spread m a values
spread_zero m a values out new n next l is e h =
    ap (λ ys. ys ++ spread_from m a values (n + 1) next (drop (n + 1) m.variables)) e
    ∙ (append_assoc out (whole 0 ∷ []) (spread_from m a values (n + 1) next (drop (n + 1) m.variables)) ∙ (ap (λ ys. out ++ ys) (sym (spread_step m a values n next true l is)) ∙ h))

pub spread_value : (m : Model) (a : Annot) (values out new : List Frac) (n next : ℕ) → n < length m.variables → is_defined m a n ≡ false → new ≡ out ++ entry values next ∷ [] → out ++ spread_from m a values n next (drop n m.variables) ≡ spread m a values → new ++ spread_from m a values (n + 1) (next + 1) (drop (n + 1) m.variables) ≡ spread m a values
spread_value m a values out new n next l is e h =
    ap (λ ys. ys ++ spread_from m a values (n + 1) (next + 1) (drop (n + 1) m.variables)) e
    ∙ (append_assoc out (entry values next ∷ []) (spread_from m a values (n + 1) (next + 1) (drop (n + 1) m.variables)) ∙ (ap (λ ys. out ++ ys) (sym (spread_step m a values n next false l is)) ∙ h))

pub spread_done : (m : Model) (a : Annot) (values out : List Frac) (n next : ℕ) → length m.variables ≤ n → out ++ spread_from m a values n next (drop n m.variables) ≡ spread m a values → out ≡ spread m a values
spread_done m a values out n next l h = sym (append-nil out) ∙ (ap (λ xs. out ++ spread_from m a values n next xs) (sym (drop_all n m.variables l)) ∙ h)
