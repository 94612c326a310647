-- Quotients of rows.
use Rattle.std.proofs.Common.{ℕ, ◌+◌, ◌<◌, ◌≤◌, ◌≡◌, ℤ, pos, List, [], ◌∷◌, ◌++◌, take, get_or, length, int_div, refl, ap, sym, ◌∙◌, to_z-of_z}
use Rattle.std.proofs.lemmas.List.{take_more, take_all}
use Rattle.emp_algebra.specs.Vector.{quotients}

pub quotients-append : (r s : List ℤ) (g : ℤ) → quotients (r ++ s) g ≡ quotients r g ++ quotients s g
quotients-append [] s g = refl
quotients-append (z ∷ r) s g = ap (λ q. (int_div z g) ∷ q) (quotients-append r s g)

-- one more quotient
pub quotients-more : (out r : List ℤ) (i : ℕ) (g q : ℤ) → out ≡ quotients (take i r) g → i < length r → q ≡ int_div (get_or r i (pos 0)) g → out ++ q ∷ [] ≡ quotients (take (i + 1) r) g
quotients-more out r i g q e h k =
    ap (λ l. l ++ q ∷ []) e ∙ (ap (λ z. quotients (take i r) g ++ z ∷ []) k ∙ (sym (quotients-append (take i r) (get_or r i (pos 0) ∷ []) g) ∙ ap (λ l. quotients l g) (sym (take_more r i (pos 0) h))))

pub quotients-all : (r : List ℤ) (i : ℕ) (g : ℤ) → length r ≤ i → quotients (take i r) g ≡ quotients r g
quotients-all r i g h = ap (λ l. quotients l g) (take_all i r h)

pub ruleset dividing = (to_z-of_z, quotients-more, quotients-all)
