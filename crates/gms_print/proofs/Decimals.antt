-- The digits of a rest over a denominator.
use Rattle.std.proofs.Common.{◌≡◌, ◌≢◌, ℕ, zero, suc, ◌+◌, ◌-◌, ◌*◌, ◌/◌, ◌%◌, ◌^◌, ◌<◌, ◌≤◌, ℤ, pos, negsuc, ◌<ℤ◌, ◌≤ℤ◌, unsigned_abs, true, nat_lt, List, [], ◌∷◌, ◌++◌, length, All, codes, decimal, arith, refl, sym, ap, subst, ◌∙◌, append_assoc, append-nil, length-append, mod-lt, ne_eqb, to_z-of_z}
use Prim.Native.Nat.{◌∣◌}
use Rattle.std.proofs.Math.Nat.{div-add-mod, div-lt_iff_lt-mul, pow-suc, pow-le-pow_right, dvd-mul_right, dvd-mul_left_of_dvd, dvd-add_iff_right}
use Rattle.std.proofs.lemmas.Nat.{pow-add}
use Rattle.std.proofs.lemmas.Nat.Gcd.{le_of_dvd}
use Rattle.std.proofs.lemmas.Int.{ints}
use Rattle.std.proofs.lemmas.Bool.{lt-ltb}
use Rattle.std.proofs.lemmas.List.Elements.{All-push, All-nil}
use Rattle.emp_num.specs.declared.frac.Frac.{Frac}
use Rattle.emp_numeral.specs.Numeral.{digit, value_from, trimmed}
use Rattle.emp_numeral.proofs.Numerals.{power_above as pow_above}
use Rattle.emp_numeral.proofs.Digits.{trimmed_other}
use Rattle.gms_print.specs.Canonical.{IsDecimal, IsNumeral, sign_text, with_fraction}
use Rattle.gms_print.specs.Decimals.{Adds, HasPlaces, AreDigits, pointed, IsFraction}

pub digit_below : (rest den : ℕ) → rest < den → rest * 10 / den < 10
digit_below rest den h = (div-lt_iff_lt-mul (omega arith)).1 (omega arith)

-- ---- digits so far
pub record Progress (rest den left places : ℕ) (start out : List ℕ) : Type 0 where
  pub digits : List ℕ
  pub is : out ≡ start ++ digits
  pub all : All (λ b. digit b ≡ true) digits
  pub value : rest * 10 ^ length digits ≡ den * value_from 0 digits + left
  pub ends : left ≡ 0 → trimmed digits ≡ digits
  pub count : length digits + places ≡ 40
  pub below : left < den

pub progress_start : (rest den : ℕ) (start : List ℕ) → rest < den → Progress rest den rest 40 start start
progress_start rest den start h = record {
  digits = [];
  is = sym (append-nil start);
  all = All-nil (λ b. digit b ≡ true);
  value = omega arith;
  ends = λ _. refl;
  count = refl;
  below = h;
}

value_from_push : (n : ℕ) (bs : List ℕ) (b : ℕ) → value_from n (bs ++ b ∷ []) ≡ value_from n bs * 10 + (b - 48)
value_from_push n [] b = refl
value_from_push n (x ∷ bs) b = value_from_push (n * 10 + (x - 48)) bs b

is_digit : (q : ℕ) → q < 10 → digit (48 + q) ≡ true
is_digit q h =
    let low : nat_lt 47 (48 + q) ≡ true = lt-ltb 47 (48 + q) (omega arith) in
    let high : nat_lt (48 + q) 58 ≡ true = lt-ltb (48 + q) 58 (omega arith) in
    rw (low, high) refl

more_value : (n p v den left q r : ℕ) → n * p ≡ den * v + left → den * q + r ≡ left * 10 → n * (p * 10) ≡ den * (v * 10 + q) + r
more_value n p v den left q r e f = omega (arith, ap (λ x. x * 10) e, f)

quotient_some : (left den : ℕ) → 0 < left → left * 10 % den ≡ 0 → left * 10 / den ≢ 0
quotient_some left den h e f =
    let split = div-add-mod (left * 10) den in
    let none : den * (left * 10 / den) ≡ den * 0 = ap (λ x. den * x) f in
    omega (arith, split, none)

pub progress_more : (rest den left places : ℕ) (start out : List ℕ) → 0 < left → 0 < places → Progress rest den left places start out → Progress rest den (left * 10 % den) (places - 1) start (out ++ (48 + left * 10 / den) ∷ [])
progress_more rest den left places start out h k g =
    let q = left * 10 / den in
    let b = 48 + q in
    let small : q < 10 = digit_below left den g.below in
    let len : length (g.digits ++ b ∷ []) ≡ suc (length g.digits) = length-append g.digits (b ∷ []) ∙ omega arith in
    let power : rest * 10 ^ suc (length g.digits) ≡ rest * (10 ^ length g.digits * 10) = ap (λ x. rest * x) (pow-suc 10 (length g.digits)) in
    let size : b - 48 ≡ q = omega arith in
    record {
      digits = g.digits ++ b ∷ [];
      is = ap (λ t. t ++ b ∷ []) g.is ∙ append_assoc start g.digits (b ∷ []);
      all = All-push (λ b. digit b ≡ true) g.digits b g.all (is_digit q small);
      value = rw (len, value_from_push 0 g.digits b) (power ∙ (more_value rest (10 ^ length g.digits) (value_from 0 g.digits) den left q (left * 10 % den) g.value (div-add-mod (left * 10) den) ∙ ap (λ x. den * (value_from 0 g.digits * 10 + x) + left * 10 % den) (sym size)));
      ends = λ e. trimmed_other g.digits b (ne_eqb b 48 (λ f. quotient_some left den h e (omega arith)));
      count = let c = g.count in rw len (omega arith);
      below = mod-lt (left * 10) (omega arith);
    }

-- ---- the end
divides_more : (den k n : ℕ) → k ≤ n → den ∣ 10 ^ k → den ∣ 10 ^ n
divides_more den k n h d =
    let e : 10 ^ n ≡ 10 ^ (n - k) * 10 ^ k = ap (λ x. 10 ^ x) (omega arith) ∙ pow-add 10 (n - k) k in
    rw e (dvd-mul_left_of_dvd den d (10 ^ (n - k)))

-- digits enough leave no rest
no_rest : (rest den left k n v : ℕ) → k ≤ n → den ∣ 10 ^ k → rest * 10 ^ n ≡ den * v + left → left < den → left ≡ 0
no_rest rest den zero k n v h d e l = refl
no_rest rest den (suc left) k n v h d e l =
    let whole : den ∣ den * v + suc left = subst (λ x. den ∣ x) e (dvd-mul_left_of_dvd den (divides_more den k n h d) rest) in
    let part : den ∣ suc left = (dvd-add_iff_right den (dvd-mul_right den v)).1 whole in
    absurd (omega (arith, le_of_dvd (omega arith) part))

no_left : (rest den left places : ℕ) (start out : List ℕ) → (0 < left → 0 < places → ⊥) → Progress rest den left places start out → HasPlaces den → left ≡ 0
no_left rest den zero places start out stop g h = refl
no_left rest den (suc left) zero start out stop g h =
    let f = h.few in
    let c = g.count in
    no_rest rest den (suc left) h.places (length g.digits) (value_from 0 g.digits) (omega arith) h.divides g.value g.below
no_left rest den (suc left) (suc places) start out stop g h = absurd (stop (omega arith) (omega arith))

pub progress_end : (rest den left places : ℕ) (start out : List ℕ) → (0 < left → 0 < places → ⊥) → Progress rest den left places start out → HasPlaces den → Adds (AreDigits rest den) start out
progress_end rest den left places start out stop g h =
    let none = no_left rest den left places start out stop g h in
    record {
      text = g.digits;
      fact = record { all = g.all; ends = g.ends none; value = g.value ∙ omega arith };
      is = g.is;
    }

value_from_whole : (n : ℕ) (bs : List ℕ) → value_from n bs ≡ n * 10 ^ length bs + value_from 0 bs
value_from_whole n [] = omega arith
value_from_whole n (b ∷ bs) =
    let left = value_from_whole (n * 10 + (b - 48)) bs in
    let right = value_from_whole (0 * 10 + (b - 48)) bs in
    let power : n * 10 ^ suc (length bs) ≡ n * (10 ^ length bs * 10) = ap (λ x. n * x) (pow-suc 10 (length bs)) in
    omega (arith, left, right, power)

pointed_fraction : (whole bs : List ℕ) → whole ++ pointed bs ≡ with_fraction whole bs
pointed_fraction whole [] = append-nil whole
pointed_fraction whole (b ∷ bs) = sym (append_assoc whole (codes ".") (b ∷ bs))

whole_value : (num den p v : ℕ) → num % den * p ≡ den * v → num * p ≡ den * (num / den * p + v)
whole_value num den p v e = omega (arith, ap (λ x. x * p) (div-add-mod num den), e)

pub whole_fraction : (num den : ℕ) (start out : List ℕ) → 0 < den → Adds (IsFraction (num % den) den) (start ++ decimal (num / den)) out → Adds (IsDecimal num den) start out
whole_fraction num den start out h g = record {
  text = decimal (num / den) ++ g.text;
  fact = record {
    whole = num / den;
    fraction = g.fact.digits;
    digits = g.fact.are.all;
    ends = g.fact.are.ends;
    value = whole_value num den (10 ^ length g.fact.digits) (value_from 0 g.fact.digits) g.fact.are.value ∙ ap (λ x. den * x) (sym (value_from_whole (num / den) g.fact.digits));
    is = ap (λ t. decimal (num / den) ++ t) g.fact.is ∙ pointed_fraction (decimal (num / den)) g.fact.digits;
  };
  is = g.is ∙ append_assoc start (decimal (num / den)) g.text;
}

-- ---- denominators that no decimal has
pub not_large : (den : ℕ) → HasPlaces den → den ≤ 10000000000000000000000000000000000000
not_large den h =
    let bound : 10 ^ h.places ≤ 10 ^ 37 = pow-le-pow_right (omega arith) h.few in
    let below : den ≤ 10 ^ h.places = le_of_dvd (pow_above h.places) h.divides in
    omega (arith, bound, below)

-- ---- signs
pub sign_below : (z : ℤ) → z <ℤ pos 0 → sign_text z ≡ 45 ∷ []
sign_below (pos n) h = absurd (omega (arith, ints))
sign_below (negsuc n) h = refl

pub sign_above : (z : ℤ) → pos 0 ≤ℤ z → sign_text z ≡ []
sign_above (pos n) h = refl
sign_above (negsuc n) h = absurd h.le

pub ruleset signing = (sign_below, sign_above, append-nil)

pub signed_decimal : (f : Frac) (start out : List ℕ) → Adds (IsDecimal (unsigned_abs f.num) (unsigned_abs f.den)) (start ++ sign_text f.num) out → Adds (IsNumeral f) start out
signed_decimal f start out g = record {
  text = sign_text f.num ++ g.text;
  fact = record { size = g.text; decimal = g.fact; is = refl };
  is = g.is ∙ append_assoc start (sign_text f.num) g.text;
}

pub ruleset reads = (to_z-of_z)
