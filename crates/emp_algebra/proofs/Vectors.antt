-- The laws of lists of whole numbers as vectors.
use Rattle.std.proofs.Common.{◌≡◌, ℕ, zero, suc, ◌<◌, ℤ, pos, ◌+ℤ◌, ◌-ℤ◌, ◌*ℤ◌, List, [], ◌∷◌, All, length, set, arith, refl, sym, ap, ap₂, ◌∙◌}
use Rattle.std.proofs.lemmas.List.Elements.{All-head, All-tail}
use lib.IntN.{zero-*ℤ, *ℤ-zero}
use Rattle.std.proofs.lemmas.Int.{ints}
use Rattle.emp_algebra.proofs.Ring.{var, lit, ◌⊕◌, ◌⊖◌, ◌⊗◌, by_ring}
use Rattle.emp_algebra.specs.Vector.{cell, dot, scale, add_rows}

pub dot-scale : (k : ℤ) (r xs : List ℤ) → dot (scale k r) xs ≡ k *ℤ dot r xs
dot-scale k [] xs = sym (*ℤ-zero k)
dot-scale k (a ∷ r) [] = sym (*ℤ-zero k)
dot-scale k (a ∷ r) (x ∷ xs) =
    ap (λ z. k *ℤ a *ℤ x +ℤ z) (dot-scale k r xs) ∙ by_ring (k ∷ a ∷ x ∷ dot r xs ∷ []) (var 0 ⊗ var 1 ⊗ var 2 ⊕ var 0 ⊗ var 3) (var 0 ⊗ (var 1 ⊗ var 2 ⊕ var 3)) refl

pub dot-add_rows : (r s xs : List ℤ) → dot (add_rows r s) xs ≡ dot r xs +ℤ dot s xs
dot-add_rows [] s xs = omega (arith, ints)
dot-add_rows (a ∷ r) [] xs = omega (arith, ints)
dot-add_rows (a ∷ r) (b ∷ s) [] = refl
dot-add_rows (a ∷ r) (b ∷ s) (x ∷ xs) =
    ap (λ z. (a +ℤ b) *ℤ x +ℤ z) (dot-add_rows r s xs) ∙ by_ring (a ∷ b ∷ x ∷ dot r xs ∷ dot s xs ∷ []) ((var 0 ⊕ var 1) ⊗ var 2 ⊕ (var 3 ⊕ var 4)) (var 0 ⊗ var 2 ⊕ var 3 ⊕ (var 1 ⊗ var 2 ⊕ var 4)) refl

pub dot-zeros : (r xs : List ℤ) → All (λ a. a ≡ pos 0) r → dot r xs ≡ pos 0
dot-zeros [] xs h = refl
dot-zeros (a ∷ r) [] h = refl
dot-zeros (a ∷ r) (x ∷ xs) h =
    ap₂ (λ y z. y *ℤ x +ℤ z) (All-head (λ a. a ≡ pos 0) a r h) (dot-zeros r xs (All-tail (λ a. a ≡ pos 0) a r h)) ∙ rw zero-*ℤ refl

-- a change of one cell, and of one coordinate
pub dot-set_cell : (r xs : List ℤ) (j : ℕ) (b : ℤ) → j < length r → dot (set r j b) xs ≡ dot r xs +ℤ (b -ℤ cell r j) *ℤ cell xs j
dot-set_cell (a ∷ r) [] zero b h = by_ring (b ∷ a ∷ []) (lit (pos 0)) (lit (pos 0) ⊕ (var 0 ⊖ var 1) ⊗ lit (pos 0)) refl
dot-set_cell (a ∷ r) (x ∷ xs) zero b h = by_ring (a ∷ b ∷ x ∷ dot r xs ∷ []) (var 1 ⊗ var 2 ⊕ var 3) (var 0 ⊗ var 2 ⊕ var 3 ⊕ (var 1 ⊖ var 0) ⊗ var 2) refl
dot-set_cell (a ∷ r) [] (suc j) b h = by_ring (b ∷ cell r j ∷ []) (lit (pos 0)) (lit (pos 0) ⊕ (var 0 ⊖ var 1) ⊗ lit (pos 0)) refl
dot-set_cell (a ∷ r) (x ∷ xs) (suc j) b h =
    ap (λ z. a *ℤ x +ℤ z) (dot-set_cell r xs j b (omega arith)) ∙ by_ring ((a *ℤ x) ∷ dot r xs ∷ ((b -ℤ cell r j) *ℤ cell xs j) ∷ []) (var 0 ⊕ (var 1 ⊕ var 2)) (var 0 ⊕ var 1 ⊕ var 2) refl
dot-set_cell [] xs j b h = absurd (omega arith)

pub dot_comm : (r xs : List ℤ) → dot r xs ≡ dot xs r
dot_comm [] [] = refl
dot_comm [] (x ∷ xs) = refl
dot_comm (a ∷ r) [] = refl
dot_comm (a ∷ r) (x ∷ xs) = ap (λ z. a *ℤ x +ℤ z) (dot_comm r xs) ∙ by_ring (a ∷ x ∷ dot xs r ∷ []) (var 0 ⊗ var 1 ⊕ var 2) (var 1 ⊗ var 0 ⊕ var 2) refl

pub dot-set_coordinate : (r xs : List ℤ) (j : ℕ) (y : ℤ) → j < length xs → dot r (set xs j y) ≡ dot r xs +ℤ cell r j *ℤ (y -ℤ cell xs j)
dot-set_coordinate r xs j y h =
    dot_comm r (set xs j y) ∙ (dot-set_cell xs r j y h ∙ (ap (λ z. z +ℤ (y -ℤ cell xs j) *ℤ cell r j) (dot_comm xs r) ∙ by_ring (dot r xs ∷ (y -ℤ cell xs j) ∷ cell r j ∷ []) (var 0 ⊕ var 1 ⊗ var 2) (var 0 ⊕ var 2 ⊗ var 1) refl))

pub length-scale : (k : ℤ) (r : List ℤ) → length (scale k r) ≡ length r
length-scale k [] = refl
length-scale k (a ∷ r) = ap suc (length-scale k r)

pub cell-scale : (k : ℤ) (r : List ℤ) (j : ℕ) → cell (scale k r) j ≡ k *ℤ cell r j
cell-scale k [] j = by_ring (k ∷ []) (lit (pos 0)) (var 0 ⊗ lit (pos 0)) refl
cell-scale k (a ∷ r) zero = refl
cell-scale k (a ∷ r) (suc j) = cell-scale k r j
