-- Tests of numbers and of values, step by step.
use Rattle.std.proofs.Common.{◌≡◌, ℕ, zero, suc, ◌+◌, ◌<◌, ◌≤◌, ◌^◌, Bool, true, false, ℤ, pos, negsuc, ◌≤ℤ◌, ◌<ℤ◌, unsigned_abs, List, length, get_or, drop, Option, Some, None, arith, refl, ap}
use Rattle.std.proofs.lemmas.Bool.{lt-ltb, le-ltb}
use Rattle.std.proofs.lemmas.Int.{ints, to_z-of_z}
use Rattle.std.proofs.lemmas.List.{drop_more, drop_all}
use Rattle.emp_num.specs.Exact.{IsNarrow, IsWide}
use Rattle.emp_num.specs.declared.frac.Frac.{Frac}
use Rattle.emp_rows.specs.declared.affine.Affine.{Affine}
use Rattle.emp_rows.specs.declared.system.Kind.{Kind}
use Rattle.emp_rows.specs.declared.system.Kind.TheVariants.{Zero}
use Rattle.emp_rows.specs.declared.system.RowSystem.{RowSystem}
use Rattle.emp_rows.specs.RowPoints.{no_row}
use Rattle.emp_algebra.specs.Vector.{is_zero}
use Rattle.emp_rows.specs.Values.{is_narrow, is_negative, measured, both, kind_holds, kinds_hold, pair_holds, pairs_hold}

pub narrow_true : (z : ℤ) → IsNarrow z → is_narrow z ≡ true
narrow_true z h = lt-ltb (unsigned_abs z) (2 ^ 126) h

pub wide_false : (z : ℤ) → IsWide z → is_narrow z ≡ false
wide_false z h = le-ltb (unsigned_abs z) (2 ^ 126) h

pub zero_true : (z : ℤ) → z ≡ pos 0 → is_zero z ≡ true
zero_true z e = ap is_zero e

pub zero_false : (z : ℤ) → (z ≡ pos 0 → ⊥) → is_zero z ≡ false
zero_false (pos zero) h = absurd (h refl)
zero_false (pos (suc n)) h = refl
zero_false (negsuc n) h = refl

pub negative_true : (z : ℤ) → z <ℤ pos 0 → is_negative z ≡ true
negative_true (pos n) h = absurd (omega (arith, ints))
negative_true (negsuc n) h = refl

pub negative_false : (z : ℤ) → pos 0 ≤ℤ z → is_negative z ≡ false
negative_false (pos n) h = refl
negative_false (negsuc n) h = absurd (omega (arith, ints))

pub ruleset testing = (to_z-of_z, zero_true, zero_false, negative_true, negative_false)

-- ---- one test more
pub both_true : (a b : Option Bool) → a ≡ Some true → both a b ≡ b
both_true a b e = ap (λ (t : Option Bool). both t b) e

pub both_false : (a b : Option Bool) → a ≡ Some false → both a b ≡ Some false
both_false a b e = ap (λ (t : Option Bool). both t b) e

pub both_none : (a b : Option Bool) → a ≡ None → both a b ≡ None
both_none a b e = ap (λ (t : Option Bool). both t b) e

pub kinds-drop : (rate : Bool) (qs : List Affine) (ts : List Kind) (fs : List Frac) (i : ℕ) → i < length qs → length ts ≡ length qs → kinds_hold rate (drop i qs) (drop i ts) fs ≡ both (kind_holds (get_or ts i Zero) (measured rate (get_or qs i no_row) fs)) (kinds_hold rate (drop (i + 1) qs) (drop (i + 1) ts) fs)
kinds-drop rate qs ts fs i h e =
    let k : i < length ts = omega arith in
    rw (drop_more qs i no_row h, drop_more ts i Zero k) refl

pub kinds-all : (rate : Bool) (qs : List Affine) (ts : List Kind) (fs : List Frac) (i : ℕ) → length qs ≤ i → kinds_hold rate (drop i qs) (drop i ts) fs ≡ Some true
kinds-all rate qs ts fs i h = rw (drop_all i qs h) refl

pub ruleset kinding = (to_z-of_z, both_true, both_false, both_none, kinds-drop, kinds-all)

pub pairs-drop : (s : RowSystem) (fs : List Frac) (ps : List (ℕ × ℕ)) (i : ℕ) (d : ℕ × ℕ) → i < length ps → pairs_hold s fs (drop i ps) ≡ both (pair_holds s fs (get_or ps i d)) (pairs_hold s fs (drop (i + 1) ps))
pairs-drop s fs ps i d h = rw (drop_more ps i d h) refl

pub pairs-all : (s : RowSystem) (fs : List Frac) (ps : List (ℕ × ℕ)) (i : ℕ) → length ps ≤ i → pairs_hold s fs (drop i ps) ≡ Some true
pairs-all s fs ps i h = rw (drop_all i ps h) refl

pub ruleset pairing = (to_z-of_z, both_true, both_false, both_none, pairs-drop, pairs-all)

pub ruleset joining = (to_z-of_z, both_true, both_false, both_none)
