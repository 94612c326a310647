-- The combination of a system's quantities with factors, at a base vector; and when such a combination is a constant.
use Rattle.std.proofs.Common.{◌≡◌, ℕ, zero, suc, ◌+◌, ◌<◌, ◌≤◌, ℤ, pos, negsuc, ◌+ℤ◌, ◌-ℤ◌, ◌*ℤ◌, List, [], ◌∷◌, length, map, get_or, set, replicate, All, arith, refl, ap, subst, ◌∙◌}
use Rattle.std.proofs.lemmas.List.{length-set, length-replicate}
use Rattle.std.proofs.lemmas.List.Elements.{All-nil, All-cons, All-from_get_or}
use lib.IntN.{*ℤ-zero}
use Rattle.std.proofs.lemmas.Int.{ints}
use Rattle.emp_algebra.proofs.Ring.{var, lit, ◌⊕◌, ◌⊗◌, by_ring}
use Rattle.emp_algebra.proofs.Vectors.{dot-scale, dot-add_rows, dot-zeros, dot-set_coordinate, dot_comm, length-scale}
use Rattle.emp_algebra.specs.Vector.{cell, dot, scale, add_rows}
use Rattle.emp_algebra.specs.Deciding.{FactorFits, total_cells, total_constant}
use Rattle.emp_rows.specs.declared.affine.Affine.{Affine}
use Rattle.emp_rows.specs.declared.system.Kind.{Kind}
use Rattle.emp_rows.specs.declared.system.Kind.TheVariants.{Zero}
use Rattle.emp_rows.specs.declared.system.RowSystem.{RowSystem}
use Rattle.emp_cert.specs.declared.tree.Turn.{Turn}
use Rattle.emp_cert.specs.Paths.{is_on}
use Rattle.emp_cert.specs.Deciders.{sort_on, weighed, weighted}
use Rattle.emp_dict.specs.Dictionary.{affine_value}

-- the quantities' values times c, at the base vector xs over c
abbrev pub values : List Affine → ℤ → List ℤ → List ℤ
values qs c xs = map (λ q. affine_value q c xs) qs

pub sum_is : (s : RowSystem) (p : List Turn) (k : ℕ) (qs : List Affine) (ts : List Kind) (fs : List ℤ) (c : ℤ) (xs : List ℤ) → length ts ≡ length qs → length fs ≡ length qs → total_constant (weighted s p k qs ts fs) *ℤ c +ℤ dot (total_cells (weighted s p k qs ts fs)) xs ≡ dot fs (values qs c xs)
sum_is s p k [] [] [] c xs e f = omega (arith, ints)
sum_is s p k [] [] (f ∷ fs) c xs e g = absurd (omega arith)
sum_is s p k [] (t ∷ ts) fs c xs e g = absurd (omega arith)
sum_is s p k (q ∷ qs) [] fs c xs e g = absurd (omega arith)
sum_is s p k (q ∷ qs) (t ∷ ts) [] c xs e g = absurd (omega arith)
sum_is s p k (q ∷ qs) (t ∷ ts) (f ∷ fs) c xs e g =
    let ws = weighted s p (k + 1) qs ts fs in
    let split : dot (add_rows (scale f q.cells) (total_cells ws)) xs ≡ f *ℤ dot q.cells xs +ℤ dot (total_cells ws) xs = dot-add_rows (scale f q.cells) (total_cells ws) xs ∙ ap (λ z. z +ℤ dot (total_cells ws) xs) (dot-scale f q.cells xs) in
    ap (λ z. (f *ℤ q.constant +ℤ total_constant ws) *ℤ c +ℤ z) split
    ∙ (by_ring (f ∷ q.constant ∷ total_constant ws ∷ c ∷ dot q.cells xs ∷ dot (total_cells ws) xs ∷ [])
    ((var 0 ⊗ var 1 ⊕ var 2) ⊗ var 3 ⊕ (var 0 ⊗ var 4 ⊕ var 5))
    (var 0 ⊗ (var 1 ⊗ var 3 ⊕ var 4) ⊕ (var 2 ⊗ var 3 ⊕ var 5))
    refl
    ∙ ap (λ z. f *ℤ affine_value q c xs +ℤ z) (sum_is s p (k + 1) qs ts fs c xs (omega arith) (omega arith)))

-- ---- no more cells than base variables
length-add_rows : (n : ℕ) (r s : List ℤ) → length r ≤ n → length s ≤ n → length (add_rows r s) ≤ n
length-add_rows n [] s h k = k
length-add_rows n (a ∷ r) [] h k = h
length-add_rows zero (a ∷ r) (b ∷ s) h k = absurd (omega arith)
length-add_rows (suc n) (a ∷ r) (b ∷ s) h k = let q = length-add_rows n r s (omega arith) (omega arith) in omega arith

pub short : (s : RowSystem) (p : List Turn) (n k : ℕ) (qs : List Affine) (ts : List Kind) (fs : List ℤ) → ((i : ℕ) (d : Affine) → i < length qs → length (get_or qs i d).cells ≤ n) → length (total_cells (weighted s p k qs ts fs)) ≤ n
short s p n k [] ts fs h = omega arith
short s p n k (q ∷ qs) [] fs h = omega arith
short s p n k (q ∷ qs) (t ∷ ts) [] h = omega arith
short s p n k (q ∷ qs) (t ∷ ts) (f ∷ fs) h =
    length-add_rows n (scale f q.cells) (total_cells (weighted s p (k + 1) qs ts fs)) (let l = h 0 q (omega arith) in let e = length-scale f q.cells in omega arith) (short s p n (k + 1) qs ts fs (λ i d b. h (suc i) d (omega arith)))

pub add_short : (n : ℕ) (k : ℤ) (r s : List ℤ) → length r ≤ n → length s ≤ n → length (add_rows (scale k r) (scale (negsuc 0) s)) ≤ n
add_short n k r s h l = length-add_rows n (scale k r) (scale (negsuc 0) s) (let e = length-scale k r in omega arith) (let e = length-scale (negsuc 0) s in omega arith)

-- ---- an affine function that is a constant at every base vector is that constant
zeros_are : (n : ℕ) → All (λ a. a ≡ pos 0) (replicate n (pos 0))
zeros_are zero = All-nil (λ a. a ≡ pos 0)
zeros_are (suc n) = All-cons (λ a. a ≡ pos 0) (pos 0) (replicate n (pos 0)) refl (zeros_are n)

dot_zeros_right : (r : List ℤ) (n : ℕ) → dot r (replicate n (pos 0)) ≡ pos 0
dot_zeros_right r n = dot_comm r (replicate n (pos 0)) ∙ dot-zeros (replicate n (pos 0)) r (zeros_are n)

cell_zeros : (n j : ℕ) → cell (replicate n (pos 0)) j ≡ pos 0
cell_zeros zero j = refl
cell_zeros (suc n) zero = refl
cell_zeros (suc n) (suc j) = cell_zeros n j

abbrev pub IsConstantly : ℕ → ℤ → List ℤ → ℤ → Type 0
IsConstantly n a r k = (c : ℤ) (xs : List ℤ) → length xs ≡ n → a *ℤ c +ℤ dot r xs ≡ k *ℤ c

pub constant_is : (n : ℕ) (a : ℤ) (r : List ℤ) (k : ℤ) → IsConstantly n a r k → a ≡ k
constant_is n a r k h = let e = h (pos 1) (replicate n (pos 0)) (length-replicate n (pos 0)) in let z = dot_zeros_right r n in omega (arith, ints)

cell_is : (n : ℕ) (a : ℤ) (r : List ℤ) (k : ℤ) → IsConstantly n a r k → (j : ℕ) → j < n → cell r j ≡ pos 0
cell_is n a r k h j b =
    let l : length (replicate n (pos 0)) ≡ n = length-replicate n (pos 0) in
    let e = h (pos 0) (set (replicate n (pos 0)) j (pos 1)) (length-set (replicate n (pos 0)) j (pos 1) ∙ l) in
    let d : dot r (set (replicate n (pos 0)) j (pos 1)) ≡ dot r (replicate n (pos 0)) +ℤ cell r j *ℤ (pos 1 -ℤ cell (replicate n (pos 0)) j) = dot-set_coordinate r (replicate n (pos 0)) j (pos 1) (omega arith) in
    let z = dot_zeros_right r n in
    let u : pos 1 -ℤ cell (replicate n (pos 0)) j ≡ pos 1 = ap (λ y. pos 1 -ℤ y) (cell_zeros n j) in
    let w : cell r j *ℤ (pos 1 -ℤ cell (replicate n (pos 0)) j) ≡ cell r j = ap (λ y. cell r j *ℤ y) u ∙ by_ring (cell r j ∷ []) (var 0 ⊗ lit (pos 1)) (var 0) refl in
    let ka : a *ℤ pos 0 ≡ pos 0 = *ℤ-zero a in
    let kk : k *ℤ pos 0 ≡ pos 0 = *ℤ-zero k in
    omega (arith, ints)

pub cells_are : (n : ℕ) (a : ℤ) (r : List ℤ) (k : ℤ) → length r ≤ n → IsConstantly n a r k → All (λ x. x ≡ pos 0) r
cells_are n a r k l h = All-from_get_or (λ x. x ≡ pos 0) r (pos 0) (λ j b. cell_is n a r k h j (omega arith))

-- ---- factors that fit
pub fits_all : (s : RowSystem) (p : List Turn) (k : ℕ) (qs : List Affine) (ts : List Kind) (fs : List ℤ) → ((i : ℕ) → i < length qs → FactorFits (sort_on (is_on s p (k + i)) (get_or ts i Zero)) (cell fs i)) → All (λ w. FactorFits w.kind w.factor) (weighted s p k qs ts fs)
fits_all s p k [] ts fs h = All-nil (λ w. FactorFits w.kind w.factor)
fits_all s p k (q ∷ qs) [] fs h = All-nil (λ w. FactorFits w.kind w.factor)
fits_all s p k (q ∷ qs) (t ∷ ts) [] h = All-nil (λ w. FactorFits w.kind w.factor)
fits_all s p k (q ∷ qs) (t ∷ ts) (f ∷ fs) h =
    All-cons (λ w. FactorFits w.kind w.factor) (weighed s p k q t f) (weighted s p (k + 1) qs ts fs) (subst (λ m. FactorFits (sort_on (is_on s p m) t) f) (omega arith) (h 0 (omega arith)))
    (fits_all s p (k + 1) qs ts fs (λ i b. subst (λ m. FactorFits (sort_on (is_on s p m) (get_or ts i Zero)) (cell fs i)) (omega arith) (h (suc i) (omega arith))))
