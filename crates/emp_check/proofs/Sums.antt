-- What the sums of a leaf are.
use Rattle.std.proofs.Common.{◌≡◌, ℕ, zero, suc, ◌+◌, ◌<◌, ◌≤◌, Bool, true, false, cond, ◌&&◌, ℤ, pos, negsuc, ◌+ℤ◌, ◌-ℤ◌, ◌*ℤ◌, List, [], ◌∷◌, length, map, Option, Some, None, option_and_then, arith, refl, ap, ◌∙◌, subst}
use Rattle.std.proofs.lemmas.Int.{ints}
use Rattle.emp_algebra.specs.Vector.{cell, dot, add_rows, is_zero}
use Rattle.emp_algebra.proofs.Order.{linear}
use Rattle.emp_rows.specs.declared.affine.Affine.{Affine}
use Rattle.emp_rows.specs.declared.system.RowSystem.{RowSystem}
use Rattle.emp_check.specs.declared.outcome.Tested.{Tested}
use Rattle.emp_check.specs.declared.outcome.Tested.TheVariants.{Fine, Wrong, Wide}
use Rattle.emp_rows.specs.Values.{is_narrow}
use Rattle.emp_check.specs.Tests.{and_then, number, moved, stepped, summed, leaf_sum, zero_test, columns_test, objective_of}

pub numbers : Option ℕ → List Affine → List ℤ
numbers at qs = map (number at) qs

-- ---- tests that are passed
pub both : (a b : Tested) → and_then a b ≡ Fine → (a ≡ Fine) × (b ≡ Fine)
both Fine b e = (refl, e)
both (Wrong w) b e = cc
both Wide b e = cc

pub zero_passed : (o : Option ℤ) → zero_test o ≡ Fine → o ≡ Some (pos 0)
zero_passed None e = cc
zero_passed (Some (pos zero)) e = refl
zero_passed (Some (pos (suc n))) e = cc
zero_passed (Some (negsuc n)) e = cc

pub columns_passed : (s : RowSystem) (w : Option ℤ) (fs : List ℤ) (j n : ℕ) → columns_test s w fs j n ≡ Fine → (i m : ℕ) → m ≡ j + i → i < n → leaf_sum s w fs (Some m) ≡ Some (pos 0)
columns_passed s w fs j zero e i m h l = absurd (omega arith)
columns_passed s w fs j (suc n) e zero m h l =
    let k : j ≡ m = omega arith in
    subst (λ (x : ℕ). leaf_sum s w fs (Some x) ≡ Some (pos 0)) k (zero_passed (leaf_sum s w fs (Some j)) (both (zero_test (leaf_sum s w fs (Some j))) (columns_test s w fs (j + 1) n) e).0)
columns_passed s w fs j (suc n) e (suc i) m h l =
    columns_passed s w fs (j + 1) n (both (zero_test (leaf_sum s w fs (Some j))) (columns_test s w fs (j + 1) n) e).1 i m (omega arith) (omega arith)

-- ---- sums
more : (minus : Bool) (t p d z : ℤ) → z ≡ moved minus (moved minus t p) d → z ≡ moved minus t (p +ℤ d)
more true t p d z e = e ∙ omega (arith, linear)
more false t p d z e = e ∙ omega (arith, linear)

none : (minus : Bool) (t z : ℤ) → Some t ≡ Some z → z ≡ moved minus t (pos 0)
none true t z e = let f : t ≡ z = cc in omega (arith, linear)
none false t z e = let f : t ≡ z = cc in omega (arith, linear)

-- where the factor is 0 nothing is added
unmoved : (minus : Bool) (t f v : ℤ) → is_zero f ≡ true → t ≡ moved minus t (f *ℤ v)
unmoved true t (pos zero) v e = omega (arith, ints)
unmoved false t (pos zero) v e = omega (arith, ints)
unmoved minus t (pos (suc n)) v e = cc
unmoved minus t (negsuc n) v e = cc

pub stepped_is : (minus : Bool) (t f v u : ℤ) → stepped minus t f v ≡ Some u → u ≡ moved minus t (f *ℤ v)
stepped_is minus t f v u e = go (is_zero f) (is_narrow (f *ℤ v) && is_narrow (moved minus t (f *ℤ v))) refl e
  where
    go : (a b : Bool) → is_zero f ≡ a → cond a (Some t) (cond b (Some (moved minus t (f *ℤ v))) None) ≡ Some u → u ≡ moved minus t (f *ℤ v)
    go true b h g = let k : u ≡ t = cc in k ∙ unmoved minus t f v h
    go false true h g = cc
    go false false h g = cc

pub summed_is : (minus : Bool) (at : Option ℕ) (t : ℤ) (fs : List ℤ) (qs : List Affine) (z : ℤ) → summed minus at t fs qs ≡ Some z → z ≡ moved minus t (dot fs (map (number at) qs))
summed_is minus at t [] qs z e = none minus t z e
summed_is minus at t (f ∷ fs) [] z e = none minus t z e
summed_is minus at t (f ∷ fs) (q ∷ qs) z e = go (stepped minus t f (number at q)) refl e (λ u h. summed_is minus at u fs qs z h)
  where
    go : (o : Option ℤ) → stepped minus t f (number at q) ≡ o → option_and_then (λ u. summed minus at u fs qs) o ≡ Some z → ((u : ℤ) → summed minus at u fs qs ≡ Some z → z ≡ moved minus u (dot fs (map (number at) qs))) → z ≡ moved minus t (f *ℤ number at q +ℤ dot fs (map (number at) qs))
    go None k h ih = cc
    go (Some u) k h ih =
        more minus t (f *ℤ number at q) (dot fs (map (number at) qs)) z (ih u h ∙ ap (λ x. moved minus x (dot fs (map (number at) qs))) (stepped_is minus t f (number at q) u k))

pub plain_sum : (s : RowSystem) (fs : List ℤ) (at : Option ℕ) (z : ℤ) → leaf_sum s None fs at ≡ Some z → z ≡ dot fs (map (number at) s.quantities)
plain_sum s fs at z e = summed_is false at (pos 0) fs s.quantities z e ∙ omega (arith, linear)

pub weighted_sum : (s : RowSystem) (w : ℤ) (fs : List ℤ) (at : Option ℕ) (z : ℤ) → leaf_sum s (Some w) fs at ≡ Some z → z ≡ w *ℤ number at (objective_of s.objective) -ℤ dot fs (map (number at) s.quantities)
weighted_sum s w fs at z e = go (is_narrow (w *ℤ number at (objective_of s.objective))) e
  where
    go : (b : Bool) → option_and_then (λ t. summed true at t fs s.quantities) (cond b (Some (w *ℤ number at (objective_of s.objective))) None) ≡ Some z → z ≡ w *ℤ number at (objective_of s.objective) -ℤ dot fs (map (number at) s.quantities)
    go true h = summed_is true at (w *ℤ number at (objective_of s.objective)) fs s.quantities z h
    go false h = cc

-- ---- rows
pub cell-add_rows : (r t : List ℤ) (j : ℕ) → cell (add_rows r t) j ≡ cell r j +ℤ cell t j
cell-add_rows [] t j = omega (arith, ints)
cell-add_rows (a ∷ r) [] j = omega (arith, ints)
cell-add_rows (a ∷ r) (b ∷ t) zero = refl
cell-add_rows (a ∷ r) (b ∷ t) (suc j) = cell-add_rows r t j

pub length-add_rows : (r t : List ℤ) (n : ℕ) → length r ≤ n → length t ≤ n → length (add_rows r t) ≤ n
length-add_rows [] t n h k = k
length-add_rows (a ∷ r) [] n h k = h
length-add_rows (a ∷ r) (b ∷ t) zero h k = absurd (omega arith)
length-add_rows (a ∷ r) (b ∷ t) (suc n) h k = omega (arith, length-add_rows r t n (omega arith) (omega arith))
