-- Lists that are written one after another.
use Rattle.std.proofs.Common.{◌≡◌, ℕ, zero, suc, ◌+◌, ◌<◌, ◌≤◌, List, [], ◌∷◌, ◌++◌, length, drop, get_or, map, flat_map, refl, sym, ap, ◌∙◌, arith, append_assoc, append-nil}
use Rattle.std.proofs.lemmas.List.{drop_more, drop_all, get_or-map}
use Rattle.emp_ast.specs.declared.model.Variable.{Variable}
use Rattle.emp_ast.specs.declared.model.Equation.{Equation}

-- ---- names
pub variable_there : (vs : List Variable) (v : Variable) (at : ℕ) → at < length vs → v ≡ get_or vs at v → get_or (map (λ v. v.name) vs) at [] ≡ v.name
variable_there vs v at h e = get_or-map (λ v. v.name) vs at v [] h ∙ ap (λ v. v.name) (sym e)

pub equation_there : (es : List Equation) (q : Equation) (at : ℕ) → at < length es → q ≡ get_or es at q → get_or (map (λ q. q.name) es) at [] ≡ q.name
equation_there es q at h e = get_or-map (λ q. q.name) es at q [] h ∙ ap (λ q. q.name) (sym e)

none_there : {X : Type 0} (f : X → List ℕ) (xs : List X) (at : ℕ) → length xs ≤ at → get_or (map f xs) at [] ≡ []
none_there f [] at h = refl
none_there f (x ∷ xs) zero h = absurd (omega arith)
none_there f (x ∷ xs) (suc at) h = none_there f xs at (omega arith)

pub no_variable : (vs : List Variable) (at : ℕ) → length vs ≤ at → get_or (map (λ v. v.name) vs) at [] ≡ []
no_variable vs at h = none_there (λ v. v.name) vs at h

pub no_equation : (es : List Equation) (at : ℕ) → length es ≤ at → get_or (map (λ q. q.name) es) at [] ≡ []
no_equation es at h = none_there (λ q. q.name) es at h

pub ruleset naming = (variable_there, equation_there, no_variable, no_equation, append-nil)

-- ---- lists
-- what is still to be written of a list, behind the values before the index
module _ {X : Type 0} (f : X → List ℕ) (xs : List X) (i : ℕ) (out whole : List ℕ) where
  pub flat_more : (x : X) (new : List ℕ) → i < length xs → new ≡ out ++ f (get_or xs i x) → out ++ flat_map f (drop i xs) ≡ whole → new ++ flat_map f (drop (i + 1) xs) ≡ whole
  flat_more x new h e g =
      ap (λ t. t ++ flat_map f (drop (i + 1) xs)) e
      ∙ (append_assoc out (f (get_or xs i x)) (flat_map f (drop (i + 1) xs))
      ∙ (ap (λ t. out ++ flat_map f t) (sym (drop_more xs i x h)) ∙ g))

  pub flat_end : length xs ≤ i → out ++ flat_map f (drop i xs) ≡ whole → out ≡ whole
  flat_end h g = sym (append-nil out) ∙ (ap (λ t. out ++ flat_map f t) (sym (drop_all i xs h)) ∙ g)

pub ruleset flat = (append_assoc)
