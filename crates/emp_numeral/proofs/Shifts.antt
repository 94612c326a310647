-- Numbers times powers of ten by their signed exponents.
use Rattle.std.proofs.Common.{◌≡◌, inl, inr, ℕ, zero, suc, ◌+◌, ◌-◌, ◌*◌, ◌^◌, ◌<◌, ◌≤◌, ℤ, pos, negsuc, neg_ℤ, ◌-ℤ◌, ◌*ℤ◌, unsigned_abs, Bool, true, false, Result, Ok, Err, arith, sym, ap, ◌∙◌, subst}
use Rattle.std.proofs.lemmas.Int.{ints}
use lib.IntN.{zero-*ℤ, *ℤ-one}
use native.Mathlib.Nat.{pow-le-pow_right}
use Rattle.emp_num.specs.FracSpec.{IsQuotient}
use Rattle.emp_numeral.specs.Numeral.{signed, FormedLarge, DecimalGives, FormGives}
use Rattle.emp_num.specs.declared.frac.Frac.{Frac}
use Rattle.emp_numeral.specs.declared.numeral.NumeralFault.{NumeralFault}
use Rattle.emp_numeral.specs.declared.numeral.NumeralFault.TheVariants.{Form, Wide}

-- ---- one direction
pub down_ok : (m n : ℕ) (r : Frac) → m < 2 ^ 126 → IsQuotient r (pos m) (pos (10 ^ n)) → 10 ^ n < 2 ^ 126 → DecimalGives m (neg_ℤ (pos n)) (Ok r)
down_ok m zero r h q k =
    let e : m ≡ m * 10 ^ 0 = omega arith in
    (subst (λ t. IsQuotient r (pos t) (pos 1)) e q, inr (h, omega arith, k))
down_ok m (suc n) r h q k = (q, inr (h, h, k))

pub down_wide : (m n : ℕ) → 0 < m → 2 ^ 126 ≤ 10 ^ n → DecimalGives m (neg_ℤ (pos n)) (Err Wide)
down_wide m zero h k = absurd (omega arith)
down_wide m (suc n) h k = (h, inr (inr k))

pub up_ok : (m n : ℕ) (r : Frac) → m < 2 ^ 126 → IsQuotient r (pos (m * 10 ^ n)) (pos 1) → m * 10 ^ n < 2 ^ 126 → DecimalGives m (pos n) (Ok r)
up_ok m n r h q k = (q, inr (h, k, omega arith))

pub up_wide : (m n : ℕ) → 0 < m → 2 ^ 126 ≤ m * 10 ^ n → DecimalGives m (pos n) (Err Wide)
up_wide m n h k = (h, inr (inl k))

pub ruleset shifting = (down_ok, down_wide, up_ok, up_wide)

-- ---- the exponent less the places
pub below_zero : (b : Bool) (m n k : ℕ) (r : Result Frac NumeralFault) → b ≡ true → DecimalGives m (neg_ℤ (pos (n + k))) r → DecimalGives m (signed b n -ℤ pos k) r
below_zero false m n k r e h = cc
below_zero true m n k r e h =
    let s : neg_ℤ (pos (n + k)) ≡ neg_ℤ (pos n) -ℤ pos k = omega (arith, ints) in
    subst (λ z. DecimalGives m z r) s h

pub more_places : (b : Bool) (m n k : ℕ) (r : Result Frac NumeralFault) → b ≡ false → n < k → DecimalGives m (neg_ℤ (pos (k - n))) r → DecimalGives m (signed b n -ℤ pos k) r
more_places true m n k r e l h = cc
more_places false m n k r e l h =
    let s : neg_ℤ (pos (k - n)) ≡ pos n -ℤ pos k = omega (arith, ints) in
    subst (λ z. DecimalGives m z r) s h

pub less_places : (b : Bool) (m n k : ℕ) (r : Result Frac NumeralFault) → b ≡ false → k ≤ n → DecimalGives m (pos (n - k)) r → DecimalGives m (signed b n -ℤ pos k) r
less_places true m n k r e l h = cc
less_places false m n k r e l h =
    let s : pos (n - k) ≡ pos n -ℤ pos k = omega (arith, ints) in
    subst (λ z. DecimalGives m z r) s h

pub ruleset directing = (below_zero, more_places, less_places)

-- ---- numbers far off
high : (n : ℕ) → 38 ≤ n → 2 ^ 126 ≤ 10 ^ n
high n h = omega (arith, pow-le-pow_right {n = 10} (omega arith) h)

far : (m : ℕ) (s : ℤ) → 0 < m → 38 ≤ unsigned_abs s → FormedLarge m s
far m (pos n) h k =
    let e : 10 ^ n * m ≡ m * 10 ^ n = omega arith in
    inr (inl (omega (arith, high n k, scale_up m (10 ^ n) h)))
  where
    scale_up : (a b : ℕ) → 0 < a → b ≤ a * b
    scale_up (suc a) b h = omega arith
    scale_up zero b h = absurd (omega arith)
far m (negsuc n) h k = inr (inr (high (suc n) k))

size_far : (b : Bool) (n k : ℕ) → 2 ^ 126 ≤ n → k < 2 ^ 64 → 38 ≤ unsigned_abs (signed b n -ℤ pos k)
size_far true n k h l = omega (arith, ints)
size_far false n k h l = omega (arith, ints)

pub far_wide : (m : ℕ) (b : Bool) (n k : ℕ) → 0 < m → 2 ^ 126 ≤ n → k < 2 ^ 64 → DecimalGives m (signed b n -ℤ pos k) (Err Wide)
far_wide m b n k h l u = (h, far m (signed b n -ℤ pos k) h (size_far b n k l u))

pub mantissa_wide : (m : ℕ) (s : ℤ) → 2 ^ 126 ≤ m → DecimalGives m s (Err Wide)
mantissa_wide m s h = (omega arith, inl h)

pub zero_gives : (m : ℕ) (s : ℤ) (r : Frac) → m ≡ 0 → IsQuotient r (pos 0) (pos 1) → DecimalGives m s (Ok r)
unfolding lib.IntN.one
zero_gives m (pos n) r e q =
    let none : 0 ≡ m * 10 ^ n = omega (arith, ap (λ x. x * 10 ^ n) e) in
    (subst (λ t. IsQuotient r (pos t) (pos 1)) none q, inl e)
zero_gives m (negsuc n) r e q =
    let num : r.num ≡ pos 0 = sym (*ℤ-one r.num) ∙ (q ∙ zero-*ℤ r.den) in
    (ap (λ z. z *ℤ pos (10 ^ suc n)) num ∙ (zero-*ℤ (pos (10 ^ suc n)) ∙ sym (ap (λ x. pos x *ℤ r.den) e ∙ zero-*ℤ r.den)), inl e)

pub ruleset deciding = (far_wide, mantissa_wide, zero_gives)

-- ---- the form
pub form_true : (b : Bool) (m : ℕ) (s : ℤ) (r : Result Frac NumeralFault) → b ≡ true → DecimalGives m s r → FormGives b m s r
form_true true m s r e h = h
form_true false m s r e h = cc

pub form_false : (b : Bool) (m : ℕ) (s : ℤ) → b ≡ false → FormGives b m s (Err Form)
form_false false m s e = tt
form_false true m s e = cc

pub ruleset reading = (form_true, form_false)
