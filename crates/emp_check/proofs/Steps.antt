-- Steps of the sums.
use Rattle.std.proofs.Common.{◌≡◌, ℕ, suc, ◌+◌, ◌-◌, ◌<◌, ◌≤◌, Bool, true, false, cond, ◌&&◌, ℤ, pos, neg_ℤ, ◌-ℤ◌, ◌*ℤ◌, ◌<ℤ◌, ◌≤ℤ◌, List, length, get_or, drop, Option, Some, None, option_and_then, arith, refl, ap, ap₂, ◌∙◌}
use Rattle.std.proofs.lemmas.Int.{ints, to_z-of_z, quot-rem, rem_below, quot_fits}
use Rattle.std.specs.Int.RustNames.{int_div, int_rem}
use Rattle.emp_algebra.proofs.Order.{linear, mul_le_right}
use Rattle.emp_algebra.proofs.Ring.{◌⊖◌, ◌⊗◌, ring3}
use Rattle.std.proofs.lemmas.List.{drop_more, drop_all}
use Rattle.emp_num.specs.Exact.{IsNarrow, IsWide}
use Rattle.emp_rows.specs.declared.affine.Affine.{Affine}
use Rattle.emp_rows.specs.declared.system.Kind.{Kind}
use Rattle.emp_rows.specs.declared.system.Kind.TheVariants.{Zero}
use Rattle.emp_rows.specs.declared.system.RowSystem.{RowSystem}
use Rattle.emp_cert.specs.declared.tree.Turn.{Turn}
use Rattle.emp_check.specs.declared.outcome.Tested.{Tested}
use Rattle.emp_check.specs.declared.outcome.Tested.TheVariants.{Fine, Wrong, Wide}
use Rattle.emp_rows.specs.RowPoints.{no_row}
use Rattle.emp_rows.proofs.Tests.{narrow_true, wide_false, zero_true, zero_false, negative_true, negative_false}
use Rattle.emp_cert.specs.Paths.{is_on}
use Rattle.emp_rows.specs.Values.{is_narrow, is_negative}
use Rattle.emp_check.specs.Tests.{number, moved, stepped, summed, and_then, leaf_sum, zero_test, columns_test, factor_test, factors_test}

pub stepped_zero : (minus : Bool) (t f v : ℤ) → f ≡ pos 0 → stepped minus t f v ≡ Some t
stepped_zero minus t f v e = ap (λ a. cond a (Some t) (cond (is_narrow (f *ℤ v) && is_narrow (moved minus t (f *ℤ v))) (Some (moved minus t (f *ℤ v))) None)) (zero_true f e)

some_step : (minus : Bool) (t f v : ℤ) → (f ≡ pos 0 → ⊥) → stepped minus t f v ≡ cond (is_narrow (f *ℤ v) && is_narrow (moved minus t (f *ℤ v))) (Some (moved minus t (f *ℤ v))) None
some_step minus t f v e = ap (λ a. cond a (Some t) (cond (is_narrow (f *ℤ v) && is_narrow (moved minus t (f *ℤ v))) (Some (moved minus t (f *ℤ v))) None)) (zero_false f e)

pub stepped_ok : (minus : Bool) (t f v : ℤ) → (f ≡ pos 0 → ⊥) → IsNarrow (f *ℤ v) → IsNarrow (moved minus t (f *ℤ v)) → stepped minus t f v ≡ Some (moved minus t (f *ℤ v))
stepped_ok minus t f v e h k = some_step minus t f v e ∙ ap₂ (λ a b. cond (a && b) (Some (moved minus t (f *ℤ v))) None) (narrow_true (f *ℤ v) h) (narrow_true (moved minus t (f *ℤ v)) k)

pub stepped_wide : (minus : Bool) (t f v : ℤ) → (f ≡ pos 0 → ⊥) → IsWide (f *ℤ v) → stepped minus t f v ≡ None
stepped_wide minus t f v e h = some_step minus t f v e ∙ ap (λ a. cond (a && is_narrow (moved minus t (f *ℤ v))) (Some (moved minus t (f *ℤ v))) None) (wide_false (f *ℤ v) h)

pub stepped_out : (minus : Bool) (t f v : ℤ) → (f ≡ pos 0 → ⊥) → IsNarrow (f *ℤ v) → IsWide (moved minus t (f *ℤ v)) → stepped minus t f v ≡ None
stepped_out minus t f v e h k = some_step minus t f v e ∙ ap₂ (λ a b. cond (a && b) (Some (moved minus t (f *ℤ v))) None) (narrow_true (f *ℤ v) h) (wide_false (moved minus t (f *ℤ v)) k)

pub ruleset stepping = (to_z-of_z, narrow_true, wide_false, stepped_zero, stepped_ok, stepped_wide, stepped_out)

pub summed-drop : (minus : Bool) (at : Option ℕ) (t : ℤ) (fs : List ℤ) (qs : List Affine) (i : ℕ) → i < length fs → length fs ≡ length qs → summed minus at t (drop i fs) (drop i qs) ≡ option_and_then (λ u. summed minus at u (drop (i + 1) fs) (drop (i + 1) qs)) (stepped minus t (get_or fs i (pos 0)) (number at (get_or qs i no_row)))
summed-drop minus at t fs qs i h e =
    let k : i < length qs = omega arith in
    rw (drop_more fs i (pos 0) h, drop_more qs i no_row k) refl

pub summed-all : (minus : Bool) (at : Option ℕ) (t : ℤ) (fs : List ℤ) (qs : List Affine) (i : ℕ) → length fs ≤ i → summed minus at t (drop i fs) (drop i qs) ≡ Some t
summed-all minus at t fs qs i h = rw (drop_all i fs h) refl

pub ruleset summing = (to_z-of_z, summed-drop, summed-all)

pub ruleset testing = (to_z-of_z, zero_true, zero_false, negative_true, negative_false)

-- ---- one test more
pub go_on : (a b : Tested) → a ≡ Fine → and_then a b ≡ b
go_on a b e = ap (λ (t : Tested). and_then t b) e

pub stop : (a b : Tested) → (a ≡ Fine → ⊥) → and_then a b ≡ a
stop Fine b h = absurd (h refl)
stop (Wrong w) b h = refl
stop Wide b h = refl

pub columns-drop : (s : RowSystem) (w : Option ℤ) (fs : List ℤ) (j n : ℕ) → j < n → columns_test s w fs j (n - j) ≡ and_then (zero_test (leaf_sum s w fs (Some j))) (columns_test s w fs (j + 1) (n - (j + 1)))
columns-drop s w fs j n h = let e : n - j ≡ suc (n - (j + 1)) = omega arith in ap (columns_test s w fs j) e

pub columns-all : (s : RowSystem) (w : Option ℤ) (fs : List ℤ) (j n : ℕ) → n ≤ j → columns_test s w fs j (n - j) ≡ Fine
columns-all s w fs j n h = let e : n - j ≡ 0 = omega arith in ap (columns_test s w fs j) e

pub factors-drop : (s : RowSystem) (p : List Turn) (ts : List Kind) (fs : List ℤ) (i : ℕ) → i < length fs → length ts ≡ length fs → factors_test s p (i + 1) (drop i ts) (drop i fs) ≡ and_then (factor_test (is_on s p (i + 1)) (get_or ts i Zero) (get_or fs i (pos 0))) (factors_test s p (i + 1 + 1) (drop (i + 1) ts) (drop (i + 1) fs))
factors-drop s p ts fs i h e =
    let k : i < length ts = omega arith in
    rw (drop_more fs i (pos 0) h, drop_more ts i Zero k) refl

pub factors-all : (s : RowSystem) (p : List Turn) (ts : List Kind) (fs : List ℤ) (i : ℕ) → length fs ≤ i → length ts ≡ length fs → factors_test s p (i + 1) (drop i ts) (drop i fs) ≡ Fine
factors-all s p ts fs i h e = let k : length ts ≤ i = omega arith in rw (drop_all i ts k) refl

pub ruleset columning = (to_z-of_z, go_on, stop, columns-drop, columns-all)

pub ruleset factoring = (to_z-of_z, go_on, stop, factors-drop, factors-all)

-- ---- quotients: t over b, rounded toward zero, with b above 0
rest_below : (t b : ℤ) → pos 0 <ℤ b → (int_rem t b <ℤ b) × ((neg_ℤ b) <ℤ int_rem t b)
rest_below t b h = let k = rem_below t b (omega (arith, ints)) in (omega (arith, ints), omega (arith, ints))

pub quot_under : (z t b : ℤ) → pos 0 <ℤ b → int_div t b <ℤ z → is_negative (z *ℤ b -ℤ t) ≡ false
quot_under z t b h k =
    let r = rest_below t b h in
    let m = mul_le_right (pos 1) (z -ℤ int_div t b) b (omega (arith, linear)) (omega (arith, linear)) in
    let e : (z -ℤ int_div t b) *ℤ b ≡ z *ℤ b -ℤ int_div t b *ℤ b = ring3 (λ z q b. (z ⊖ q) ⊗ b) (λ z q b. z ⊗ b ⊖ q ⊗ b) refl z (int_div t b) b in
    let o : pos 1 *ℤ b ≡ b = omega (arith, ints) in
    negative_false (z *ℤ b -ℤ t) (omega (arith, linear, quot-rem t b, r.0, r.1, m, e, o))

pub quot_over : (z t b : ℤ) → pos 0 <ℤ b → z <ℤ int_div t b → is_negative (z *ℤ b -ℤ t) ≡ true
quot_over z t b h k =
    let r = rest_below t b h in
    let m = mul_le_right (pos 1) (int_div t b -ℤ z) b (omega (arith, linear)) (omega (arith, linear)) in
    let e : (int_div t b -ℤ z) *ℤ b ≡ int_div t b *ℤ b -ℤ z *ℤ b = ring3 (λ z q b. (q ⊖ z) ⊗ b) (λ z q b. q ⊗ b ⊖ z ⊗ b) refl z (int_div t b) b in
    let o : pos 1 *ℤ b ≡ b = omega (arith, ints) in
    negative_true (z *ℤ b -ℤ t) (omega (arith, linear, quot-rem t b, r.0, r.1, m, e, o))

even : (z t b : ℤ) → int_div t b ≤ℤ z → z ≤ℤ int_div t b → z *ℤ b -ℤ t ≡ neg_ℤ (int_rem t b)
even z t b k l = let s : z ≡ int_div t b = omega (arith, linear) in let e : z *ℤ b ≡ int_div t b *ℤ b = ap (λ x. x *ℤ b) s in omega (arith, linear, quot-rem t b)

pub quot_even_over : (z t b : ℤ) → int_div t b ≤ℤ z → z ≤ℤ int_div t b → pos 0 <ℤ int_rem t b → is_negative (z *ℤ b -ℤ t) ≡ true
quot_even_over z t b k l r = let e = even z t b k l in negative_true (z *ℤ b -ℤ t) (omega (arith, linear, e))

pub quot_even_under : (z t b : ℤ) → int_div t b ≤ℤ z → z ≤ℤ int_div t b → int_rem t b ≤ℤ pos 0 → is_negative (z *ℤ b -ℤ t) ≡ false
quot_even_under z t b k l r = let e = even z t b k l in negative_false (z *ℤ b -ℤ t) (omega (arith, linear, e))

pub ruleset dividing = (to_z-of_z, quot_fits, quot_under, quot_over, quot_even_over, quot_even_under)
