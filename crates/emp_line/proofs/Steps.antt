-- Tests for wide numbers.
use Rattle.std.proofs.Common.{zero, suc, ◌^◌, ◌≡◌, ◌≢◌, ℤ, pos, negsuc, ◌+ℤ◌, ◌*ℤ◌, unsigned_abs, Bool, true, false, ◌||◌, refl, ap, ◌∙◌, le-leb, leb-false}
use Rattle.std.proofs.lemmas.Bool.{lt-leb}
use Rattle.emp_num.specs.Exact.{IsNarrow, IsWide}
use Rattle.emp_algebra.specs.Vector.{is_zero}
use Rattle.emp_line.specs.Pivot.{is_wide, Factors, step_wide}

pub wide_yes : (z : ℤ) → IsWide z → is_wide z ≡ true
wide_yes z h = le-leb (2 ^ 126) (unsigned_abs z) h

pub wide_no : (z : ℤ) → IsNarrow z → is_wide z ≡ false
wide_no z h = lt-leb (2 ^ 126) (unsigned_abs z) h

pub narrow_from : (z : ℤ) → is_wide z ≡ false → IsNarrow z
narrow_from z e = leb-false (2 ^ 126) (unsigned_abs z) e

pub or-true : (x : Bool) → (x || true) ≡ true
or-true true = refl
or-true false = refl

pub or_left : (x y : Bool) → (x || y) ≡ false → x ≡ false
or_left true y h = h
or_left false y h = refl

pub or_right : (x y : Bool) → (x || y) ≡ false → y ≡ false
or_right true y h = cc
or_right false y h = h

pub wide_left : (f : Factors) (a b : ℤ) → IsWide (f.own *ℤ a) → step_wide f a b ≡ true
wide_left f a b h = ap (λ x. x || is_wide (f.other *ℤ b) || is_wide (f.own *ℤ a +ℤ f.other *ℤ b)) (wide_yes (f.own *ℤ a) h)

pub wide_right : (f : Factors) (a b : ℤ) → IsWide (f.other *ℤ b) → step_wide f a b ≡ true
wide_right f a b h =
    ap (λ x. is_wide (f.own *ℤ a) || x || is_wide (f.own *ℤ a +ℤ f.other *ℤ b)) (wide_yes (f.other *ℤ b) h) ∙ ap (λ x. x || is_wide (f.own *ℤ a +ℤ f.other *ℤ b)) (or-true (is_wide (f.own *ℤ a)))

pub wide_sum : (f : Factors) (a b : ℤ) → IsWide (f.own *ℤ a +ℤ f.other *ℤ b) → step_wide f a b ≡ true
wide_sum f a b h =
    ap (λ x. is_wide (f.own *ℤ a) || is_wide (f.other *ℤ b) || x) (wide_yes (f.own *ℤ a +ℤ f.other *ℤ b) h) ∙ or-true (is_wide (f.own *ℤ a) || is_wide (f.other *ℤ b))

pub none_wide : (f : Factors) (a b : ℤ) → IsNarrow (f.own *ℤ a) → IsNarrow (f.other *ℤ b) → IsNarrow (f.own *ℤ a +ℤ f.other *ℤ b) → step_wide f a b ≡ false
none_wide f a b h k l =
    ap (λ x. x || is_wide (f.other *ℤ b) || is_wide (f.own *ℤ a +ℤ f.other *ℤ b)) (wide_no (f.own *ℤ a) h) ∙ (ap (λ x. x || is_wide (f.own *ℤ a +ℤ f.other *ℤ b)) (wide_no (f.other *ℤ b) k) ∙ wide_no (f.own *ℤ a +ℤ f.other *ℤ b) l)

pub zero_yes : (z : ℤ) → z ≡ pos 0 → is_zero z ≡ true
zero_yes z e = ap is_zero e

pub zero_no : (z : ℤ) → z ≢ pos 0 → is_zero z ≡ false
zero_no (pos zero) h = absurd (h refl)
zero_no (pos (suc n)) h = refl
zero_no (negsuc n) h = refl
