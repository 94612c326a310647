-- The block of a firm: what it owns, its equation, and that nothing is priced.
use Rattle.std.proofs.Common.{◌≡◌, ◌⊎◌, inl, inr, ℕ, ◌<◌, Bool, true, false, ◌&&◌, ◌||◌, not, eqb, List, [], ◌∷◌, Some, refl, sym, ap, ap₂, ◌∙◌}
use Rattle.std.specs.List.{slice_get, list_any}
use Rattle.std.proofs.lemmas.Bool.{false≢true, eq-eqb, ne_eqb, eqb-true, or_cases}
use Rattle.emp_num.specs.Point.{Point}
use Rattle.emp_ast.specs.declared.tree.EquId.{EquId}
use Rattle.emp_ast.specs.declared.model.Equation.{Equation}
use Rattle.emp_ast.specs.declared.model.Model.{Model}
use Rattle.emp_ast.specs.declared.annot.Annot.{Annot}
use Rattle.emp_ast.specs.Meets.{MeetsEquation}
use Rattle.emp_ast.specs.Parties.{block, names_equation, block_owns, owns, equations_by, equations, has_dual, block_functions, defines, constraints}
use Rattle.emp_ast.specs.Rivals.{IsRival}
use Rattle.emp_ast.specs.Equilibrium.{is_priced}
use Rattle.emp_make.specs.Markets.{quantity, firm_block, IsMarketAnnot}

or_right : (x : Bool) → (x || true) ≡ true
or_right true = refl
or_right false = refl

-- ---- own variables: the profit and the quantity
owns_is : (firms k v : ℕ) (m : Model) (a : Annot) → IsMarketAnnot firms a → k < firms → owns m a (block k) v ≡ (eqb k v || (eqb (quantity firms k) v || false))
owns_is firms k v m a h below = ap (λ b. block_owns b v) (h.blocks k below)

pub own_quantity : (firms k : ℕ) (m : Model) (a : Annot) → IsMarketAnnot firms a → k < firms → owns m a (block k) (quantity firms k) ≡ true
own_quantity firms k m a h below =
    owns_is firms k (quantity firms k) m a h below ∙ (ap (λ b. eqb k (quantity firms k) || (b || false)) (eq-eqb (quantity firms k) (quantity firms k) refl) ∙ or_right (eqb k (quantity firms k)))

pub own_cases : (firms k v : ℕ) (m : Model) (a : Annot) → IsMarketAnnot firms a → k < firms → owns m a (block k) v ≡ true → (k ≡ v) ⊎ (quantity firms k ≡ v)
own_cases firms k v m a h below own = first (or_cases (eqb k v) (eqb (quantity firms k) v || false) (sym (owns_is firms k v m a h below) ∙ own))
  where
    second : (eqb (quantity firms k) v ≡ true) ⊎ (false ≡ true) → (k ≡ v) ⊎ (quantity firms k ≡ v)
    second (inl e) = inr (eqb-true (quantity firms k) v e)
    second (inr e) = absurd (false≢true e)

    first : (eqb k v ≡ true) ⊎ ((eqb (quantity firms k) v || false) ≡ true) → (k ≡ v) ⊎ (quantity firms k ≡ v)
    first (inl e) = inl (eqb-true k v e)
    first (inr e) = second (or_cases (eqb (quantity firms k) v) false e)

pub not_own : (firms k v : ℕ) (m : Model) (a : Annot) → IsMarketAnnot firms a → k < firms → (k ≡ v → ⊥) → (quantity firms k ≡ v → ⊥) → owns m a (block k) v ≡ false
not_own firms k v m a h below not_profit not_quantity =
    owns_is firms k v m a h below ∙ ap₂ (λ x y. x || (y || false)) (ne_eqb k v not_profit) (ne_eqb (quantity firms k) v not_quantity)

-- ---- each rival of the firm meets its equation, which either defines the profit or is a constraint
first_named : (k : ℕ) (es : List EquId) → names_equation (record { at = k } ∷ es) k ≡ true
first_named k es = ap (λ x. x || names_equation es k) (eq-eqb k k refl)

named : (firms k : ℕ) (m : Model) (a : Annot) → IsMarketAnnot firms a → k < firms → names_equation (equations m a (block k)) k ≡ true
named firms k m a h below = ap (λ b. names_equation (equations_by a b) k) (h.blocks k below) ∙ first_named k _

no_functions : (firms k : ℕ) (a : Annot) → IsMarketAnnot firms a → k < firms → block_functions a (block k) ≡ []
no_functions firms k a h below = let at : slice_get a.blocks k ≡ Some (firm_block firms k) = h.blocks k below in rw at refl

pub meets_own : (firms k : ℕ) (m : Model) (a : Annot) (p r : Point) (q : Equation) → IsMarketAnnot firms a → k < firms → slice_get m.equations k ≡ Some q → IsRival m a (block k) p r → MeetsEquation r q
meets_own firms k m a p r q h below at rival = go (defines m a (block k) k) refl
  where
    go : (b : Bool) → defines m a (block k) k ≡ b → MeetsEquation r q
    go true e = rival.deviation.definition k q at e
    go false e =
        rival.constraints k q at
        (ap₂ (λ x y. x && not y && not (names_equation (block_functions a (block k)) k)) (named firms k m a h below) e ∙ ap (λ fs. not (names_equation fs k)) (no_functions firms k a h below))

-- ---- prices
none_passes : (es : List EquId) (test : EquId → Bool) → ((e : EquId) → test e ≡ false) → list_any test es ≡ false
none_passes [] test h = refl
none_passes (e ∷ es) test h = ap₂ (λ x y. x || y) (h e) (none_passes es test h)

pub not_priced : (firms k : ℕ) (m : Model) (a : Annot) → IsMarketAnnot firms a → is_priced m a k ≡ false
not_priced firms k m a h =
    none_passes (constraints m a (block k)) (λ e. has_dual a e.at || names_equation a.visols e.at) (λ e. ap₂ (λ ds vs. list_any (λ d. eqb d.1.at e.at) ds || names_equation vs e.at) h.duals h.visols)
