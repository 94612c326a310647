-- A decimal is read as the number that it was printed of.
use Rattle.std.proofs.Common.{◌≡◌, ◌⊎◌, inl, inr, ℕ, zero, suc, ◌+◌, ◌-◌, ◌*◌, ◌^◌, ◌<◌, ◌≤◌, ℤ, pos, negsuc, ◌*ℤ◌, ◌-ℤ◌, ◌≤ℤ◌, neg_ℤ, unsigned_abs, Bool, true, false, cond, ◌||◌, IsTrue, List, [], ◌∷◌, ◌++◌, length, All, decimal, Some, Ok, get_or, refl, sym, ap, subst, ◌∙◌, arith, append_assoc, append-nil, nat_eq}
use Rattle.std.specs.Prelude.{nat_lt, slice_index}
use Rattle.std.specs.Char.{digit_value}
use Rattle.std.specs.Str.Parse.{digits_value_after}
use Rattle.std.specs.Str.Parse.{AllDigits as EachValue}
use Rattle.std.proofs.lemmas.Bool.{lt-ltb, ltb-true, le-leb}
use Rattle.std.proofs.lemmas.Bool.Decides.{nat_tests}
use Rattle.std.proofs.lemmas.Int.{ints}
use Rattle.std.proofs.lemmas.List.Elements.{All-nil, All-cons, All-head, All-tail, All-append}
use Rattle.std.proofs.lemmas.Str.{digit_value_digit}
use Rattle.std.proofs.lemmas.Str.Parse.{digit_from_value}
use Rattle.std.proofs.lemmas.Fmt.{decimal_is_IsNumeral_wide}
use Rattle.std.proofs.Math.Nat.{pow-suc, one-le-pow, le_of_mul-le-mul_left}
use Rattle.std.proofs.Math.IntN.{pos-*ℤ-pos, +ℤ_idl}
use Rattle.emp_num.specs.declared.frac.Frac.{Frac}
use Rattle.emp_num.specs.FracSpec.{IsQuotient}
use Rattle.emp_numeral.specs.Numeral.{digit, value_from, before_trimmed, trimmed, numeral_form, whole_of, fraction_of, tail_of, exponent_negative, mantissa, scale, Small, DecimalGives, FormGives, NumeralGives}
use Rattle.emp_numeral.specs.NumeralText.{AllDigits, no_point, point, no_exponent, IsNumeral as IsNumeralText}
use Rattle.emp_num.specs.Whole.{whole, whole_by}
use Rattle.emp_numeral.proofs.Numerals.{value_grows}
use Rattle.emp_numeral.proofs.NumeralTexts.{has_form}
use Rattle.gms_read.specs.Rules.{exponent}
use Rattle.gms_print.specs.Canonical.{with_fraction, IsDecimal}
use Rattle.gms_print.proofs.Sound.{IsValue}

-- ---- texts of decimals
abbrev pub IsDecimalByte : ℕ → Type 0
IsDecimalByte b = IsTrue (digit b || nat_eq b 46)

-- a numeral of digits and at most one point that begins with a digit
pub record IsDecimalText (t : List ℕ) : Type 0 where
  pub form : numeral_form t ≡ true
  pub bytes : All IsDecimalByte t
  pub first : digit (slice_index t 0) ≡ true

digit_byte : (b : ℕ) → digit b ≡ true → IsDecimalByte b
digit_byte b h = rw h refl

digit_bytes : (ds : List ℕ) → AllDigits ds → All IsDecimalByte ds
digit_bytes [] h = All-nil IsDecimalByte
digit_bytes (b ∷ bs) h = All-cons IsDecimalByte b bs (digit_byte b h.0) (digit_bytes bs h.1)

each_digit : (bs : List ℕ) → All (λ b. digit b ≡ true) bs → AllDigits bs
each_digit [] h = tt
each_digit (b ∷ bs) h = (All-head (λ b. digit b ≡ true) b bs h, each_digit bs (All-tail (λ b. digit b ≡ true) b bs h))

-- digits, and digits behind a point where there are some
record Parts (ds fr : List ℕ) : Type 0 where
  digits : AllDigits ds
  some : 0 < length ds
  fraction : AllDigits fr

parts_text : (ds fr : List ℕ) → Parts ds fr → IsNumeralText (with_fraction ds fr) ds fr false []
parts_text ds [] p = record { middle = []; tail = []; parts = sym (append-nil ds); whole_digits = p.digits; point_text = no_point; exponent_text = no_exponent; some_digit = omega (arith, p.some) }
parts_text ds (b ∷ bs) p = record {
  middle = 46 ∷ b ∷ bs;
  tail = [];
  parts = append_assoc ds (46 ∷ []) (b ∷ bs) ∙ ap (λ x. ds ++ x) (sym (append-nil (46 ∷ b ∷ bs)));
  whole_digits = p.digits;
  point_text = point (b ∷ bs) p.fraction;
  exponent_text = no_exponent;
  some_digit = omega (arith, p.some);
}

first_digit : (ds r : List ℕ) → AllDigits ds → 0 < length ds → digit (get_or (ds ++ r) 0 0) ≡ true
first_digit [] r h l = absurd (omega arith)
first_digit (b ∷ bs) r h l = h.0

parts_first : (ds fr : List ℕ) → Parts ds fr → digit (get_or (with_fraction ds fr) 0 0) ≡ true
parts_first ds [] p = subst (λ t. digit (get_or t 0 0) ≡ true) (append-nil ds) (first_digit ds [] p.digits p.some)
parts_first ds (b ∷ bs) p = subst (λ t. digit (get_or t 0 0) ≡ true) (sym (append_assoc ds (46 ∷ []) (b ∷ bs))) (first_digit ds (46 ∷ b ∷ bs) p.digits p.some)

parts_bytes : (ds fr : List ℕ) → Parts ds fr → All IsDecimalByte (with_fraction ds fr)
parts_bytes ds [] p = digit_bytes ds p.digits
parts_bytes ds (b ∷ bs) p = All-append IsDecimalByte (ds ++ 46 ∷ []) (b ∷ bs) (All-append IsDecimalByte ds (46 ∷ []) (digit_bytes ds p.digits) (All-cons IsDecimalByte 46 [] refl (All-nil IsDecimalByte))) (digit_bytes (b ∷ bs) p.fraction)

decimal_text : (ds fr : List ℕ) → Parts ds fr → IsDecimalText (with_fraction ds fr)
decimal_text ds fr p = record { form = (has_form (with_fraction ds fr) ds fr false [] (parts_text ds fr p)).form; bytes = parts_bytes ds fr p; first = parts_first ds fr p }

-- ---- their values
by_size : (f : Frac) (v k : ℕ) → IsQuotient f (pos v) (pos (10 ^ k)) → (v ≡ 0) ⊎ (Small v × Small (10 ^ k)) → DecimalGives v (pos 0 -ℤ pos k) (Ok f)
by_size f v zero q s =
    let one : v * 10 ^ 0 ≡ v = omega arith in
    (subst (λ x. IsQuotient f (pos x) (pos 1)) (sym one) q, go s)
  where
    go : (v ≡ 0) ⊎ (Small v × Small (10 ^ 0)) → (v ≡ 0) ⊎ (Small v × Small (v * 10 ^ 0) × Small 1)
    go (inl e) = inl e
    go (inr h) = let one : v ≡ v * 10 ^ 0 = omega arith in inr (h.0, subst (λ x. Small x) one h.0, h.1)
by_size f v (suc k) q s = subst (λ z. DecimalGives v z (Ok f)) (sym (+ℤ_idl (neg_ℤ (pos (suc k))))) (q, go s)
  where
    go : (v ≡ 0) ⊎ (Small v × Small (10 ^ suc k)) → (v ≡ 0) ⊎ (Small v × Small v × Small (10 ^ suc k))
    go (inl e) = inl e
    go (inr h) = inr (h.0, h.0, h.1)

parts_give : (f : Frac) (ds fr : List ℕ) → Parts ds fr → trimmed fr ≡ fr → IsQuotient f (pos (value_from (value_from 0 ds) fr)) (pos (10 ^ length fr)) → (value_from (value_from 0 ds) fr ≡ 0) ⊎ (Small (value_from (value_from 0 ds) fr) × Small (10 ^ length fr)) → NumeralGives (with_fraction ds fr) (Ok f)
parts_give f ds fr p e q s =
    let t : List ℕ = with_fraction ds fr in
    let h = has_form t ds fr false [] (parts_text ds fr p) in
    let base : FormGives true (mantissa ds fr) (scale fr false 0) (Ok f) = subst (λ x. DecimalGives (value_from (value_from 0 ds) x) (pos 0 -ℤ pos (length x)) (Ok f)) (sym e) (by_size f (value_from (value_from 0 ds) fr) (length fr) q s) in
    let a = subst (λ x. FormGives x (mantissa ds fr) (scale fr false (value_from 0 [])) (Ok f)) (sym h.form) base in
    let b = subst (λ x. FormGives (numeral_form t) (mantissa x fr) (scale fr false (value_from 0 [])) (Ok f)) h.whole a in
    let c = subst (λ x. FormGives (numeral_form t) (mantissa (whole_of t) x) (scale x false (value_from 0 [])) (Ok f)) h.fraction b in
    let d = subst (λ x. FormGives (numeral_form t) (mantissa (whole_of t) (fraction_of t)) (scale (fraction_of t) x (value_from 0 [])) (Ok f)) h.negative c in
    subst (λ x. FormGives (numeral_form t) (mantissa (whole_of t) (fraction_of t)) (scale (fraction_of t) (exponent_negative (tail_of t)) (value_from 0 x)) (Ok f)) h.digits d

-- ---- the digits of a whole number
value_same : (n : ℕ) (ds : List ℕ) → EachValue 10 ds → digits_value_after 10 n ds ≡ value_from n ds
value_same n [] h = refl
value_same n (c ∷ cs) h =
    let k = digit_value_digit c (digit_from_value c h.0) in
    let r : n * 10 + digit_value c ≡ n * 10 + (c - 48) = omega (arith, k) in
    ap (λ m. digits_value_after 10 m cs) r ∙ value_same (n * 10 + (c - 48)) cs h.1

in_range : (c : ℕ) → 48 ≤ c → c ≤ 57 → digit c ≡ true
in_range c h k = grind (arith, nat_tests)

value_digits : (ds : List ℕ) → EachValue 10 ds → AllDigits ds
value_digits [] h = tt
value_digits (c ∷ cs) h = let r = digit_from_value c h.0 in (in_range c r.0 r.1, value_digits cs h.1)

record WritesWhole (n : ℕ) : Type 0 where
  digits : AllDigits (decimal n)
  some : 0 < length (decimal n)
  value : value_from 0 (decimal n) ≡ n

small_below : (n : ℕ) → n < 2 ^ 126 → n < 10 ^ 64
small_below n h = let k : 2 ^ 126 < 10 ^ 64 = ltb-true (2 ^ 126) (10 ^ 64) refl in omega (arith, h, k)

writes_whole : (n : ℕ) → n < 2 ^ 126 → WritesWhole n
writes_whole n h =
    let d = decimal_is_IsNumeral_wide n (small_below n h) in
    record { digits = value_digits (decimal n) d.0.1; some = d.0.0; value = sym (value_same 0 (decimal n) d.0.1) ∙ d.1 }

-- ---- the last digit of a fraction
before_same : (b : ℕ) (x : List ℕ) (c : ℕ) (cs : List ℕ) → before_trimmed b x ≡ b ∷ c ∷ cs → x ≡ c ∷ cs
before_same b [] c cs h = go (nat_eq b 48) h
  where
    go : (t : Bool) → cond t [] (b ∷ []) ≡ b ∷ c ∷ cs → [] ≡ c ∷ cs
    go true e = cc
    go false e = cc
before_same b (y ∷ ys) c cs h = cc

last_alone : (b : ℕ) → digit b ≡ true → trimmed (b ∷ []) ≡ b ∷ [] → nat_eq b 48 ≡ false
last_alone b h e = go (nat_eq b 48) refl e
  where
    go : (t : Bool) → nat_eq b 48 ≡ t → cond t [] (b ∷ []) ≡ b ∷ [] → nat_eq b 48 ≡ false
    go true k f = cc
    go false k f = k

above_zero : (b : ℕ) → digit b ≡ true → nat_eq b 48 ≡ false → (48 < b) × (b ≤ 57)
above_zero b h k = (low b h k, high b h)
  where
    low : (b : ℕ) → digit b ≡ true → nat_eq b 48 ≡ false → 48 < b
    low b h k = grind (arith, nat_tests)

    high : (b : ℕ) → digit b ≡ true → b ≤ 57
    high b h = grind (arith, nat_tests)

no_tens : (n : ℕ) (fr : List ℕ) → AllDigits fr → trimmed fr ≡ fr → 0 < length fr → (u : ℕ) → value_from n fr ≡ u * 10 → ⊥
no_tens n [] h e l u v = absurd (omega arith)
no_tens n (b ∷ []) h e l u v = let r = above_zero b h.0 (last_alone b h.0 e) in omega (arith, v, r.0, r.1)
no_tens n (b ∷ c ∷ cs) h e l u v = no_tens (n * 10 + (b - 48)) (c ∷ cs) h.1 (before_same b (trimmed (c ∷ cs)) c cs e) (omega arith) u v

-- ---- the fewest digits
cancel : (d a b : ℕ) → 0 < d → d * a ≡ d * b → a ≡ b
cancel d a b p e =
    let h : a ≤ b = le_of_mul-le-mul_left (omega (arith, e)) p in
    let k : b ≤ a = le_of_mul-le-mul_left (omega (arith, e)) p in
    omega (arith, h, k)

-- of two decimals of one value, the one that does not end in a zero has the smaller numbers
fewest : (v t j k : ℕ) → v * 10 ^ j ≡ t * 10 ^ k → (0 < k → (u : ℕ) → v ≡ u * 10 → ⊥) → (v ≤ t) × (10 ^ k ≤ 10 ^ j)
fewest v t j zero e n =
    let one : 1 ≤ 10 ^ j = one-le-pow j 10 (omega arith) in
    let split : 10 ^ j ≡ 1 + (10 ^ j - 1) = omega arith in
    (omega (arith, e, ap (λ x. v * x) split), one)
fewest v t zero (suc k) e n = absurd (n (omega arith) (t * 10 ^ k) (omega (arith, e, ap (λ x. t * x) (pow-suc 10 k))))
fewest v t (suc j) (suc k) e n =
    let f : v * 10 ^ j ≡ t * 10 ^ k = omega (arith, e, ap (λ x. t * x) (pow-suc 10 k), ap (λ x. v * x) (pow-suc 10 j)) in
    let r = fewest v t j k f (λ _. n (omega arith)) in
    (r.0, omega (arith, r.1, pow-suc 10 k, pow-suc 10 j))

-- ---- values of numerals
-- a whole number over a power of ten
record Value (f : Frac) : Type 0 where
  top : ℕ
  power : ℕ
  is : IsQuotient f (pos top) (pos (10 ^ power))
  small : (top ≡ 0) ⊎ (Small top × Small (10 ^ power))

form_value : (f : Frac) (t : Bool) (m : ℕ) (s : ℤ) → FormGives t m s (Ok f) → Value f
form_value f false m s h = absurd h
form_value f true m (pos n) h = record { top = m * 10 ^ n; power = 0; is = h.0; small = go h.1 }
  where
    go : (m ≡ 0) ⊎ (Small m × Small (m * 10 ^ n) × Small 1) → (m * 10 ^ n ≡ 0) ⊎ (Small (m * 10 ^ n) × Small (10 ^ 0))
    go (inl e) = inl (omega (arith, ap (λ x. x * 10 ^ n) e))
    go (inr k) = inr (k.1, k.2)
form_value f true m (negsuc n) h = record { top = m; power = suc n; is = h.0; small = go h.1 }
  where
    go : (m ≡ 0) ⊎ (Small m × Small m × Small (10 ^ suc n)) → (m ≡ 0) ⊎ (Small m × Small (10 ^ suc n))
    go (inl e) = inl e
    go (inr k) = inr (k.0, k.2)

value_of : (f : Frac) → IsValue f → Value f
value_of f h = form_value f _ _ _ h.1

not_below : (z : ℤ) (b t d : ℕ) → 0 < b → z *ℤ pos b ≡ pos t *ℤ pos d → pos 0 ≤ℤ z
not_below (pos n) b t d p e = omega (arith, ints)
not_below (negsuc n) zero t d p e = absurd (omega (arith, p))
not_below (negsuc n) (suc b) t d p e = absurd (omega (arith, ints, e))

size_of : (z : ℤ) → pos 0 ≤ℤ z → z ≡ pos (unsigned_abs z)
size_of (pos n) h = refl
size_of (negsuc n) h = absurd h.le

den_size : (f : Frac) → f.den ≡ pos (unsigned_abs f.den)
den_size f = size_of f.den (let p = f.positive in omega (arith, ints))

ten_above : (n : ℕ) → 0 < 10 ^ n
ten_above n = one-le-pow n 10 (omega arith)

-- the value of a numeral is at least 0
pub value_not_negative : (f : Frac) → IsValue f → pos 0 ≤ℤ f.num
value_not_negative f h =
    let v = value_of f h in
    not_below f.num (10 ^ v.power) v.top (unsigned_abs f.den) (ten_above v.power) (v.is ∙ ap (λ z. pos v.top *ℤ z) (den_size f))

pub value_size : (f : Frac) → IsValue f → f.num ≡ pos (unsigned_abs f.num)
value_size f h = size_of f.num (value_not_negative f h)

-- a quotient of whole numbers, by its products
quotient_products : (f : Frac) (n d t b : ℕ) → f.num ≡ pos n → f.den ≡ pos d → IsQuotient f (pos t) (pos b) → n * b ≡ t * d
quotient_products f n d t b p q h =
    let e : pos (n * b) ≡ pos (t * d) = sym (pos-*ℤ-pos n b) ∙ ap (λ z. z *ℤ pos b) (sym p) ∙ h ∙ ap (λ z. pos t *ℤ z) q ∙ pos-*ℤ-pos t d in
    cc

products_quotient : (f : Frac) (n d t b : ℕ) → f.num ≡ pos n → f.den ≡ pos d → n * b ≡ t * d → IsQuotient f (pos t) (pos b)
products_quotient f n d t b p q h = ap (λ z. z *ℤ pos b) p ∙ pos-*ℤ-pos n b ∙ ap pos h ∙ sym (pos-*ℤ-pos t d) ∙ ap (λ z. pos t *ℤ z) (sym q)

-- one value as two decimals
two_decimals : (n d v t j k : ℕ) → 0 < d → n * 10 ^ k ≡ d * v → n * 10 ^ j ≡ t * d → v * 10 ^ j ≡ t * 10 ^ k
two_decimals n d v t j k p h g = cancel d (v * 10 ^ j) (t * 10 ^ k) p (omega (arith, ap (λ x. x * 10 ^ j) h, ap (λ x. x * 10 ^ k) g))

-- ---- what is printed of a numeral's value
pub numeral_reads : (f : Frac) (t : List ℕ) → IsValue f → IsDecimal (unsigned_abs f.num) (unsigned_abs f.den) t → IsDecimalText t × NumeralGives t (Ok f)
numeral_reads f t h c = subst (λ x. IsDecimalText x × NumeralGives x (Ok f)) (sym c.is) (decimal_text (decimal c.whole) c.fraction parts, gives)
  where
    v : Value f
    v = value_of f h

    n : ℕ
    n = unsigned_abs f.num

    d : ℕ
    d = unsigned_abs f.den

    m : ℕ
    m = value_from c.whole c.fraction

    fraction_digits : AllDigits c.fraction
    fraction_digits = each_digit c.fraction c.digits

    d_above : 0 < d
    d_above = let p = f.positive in let e = den_size f in omega (arith, ints)

    same : m * 10 ^ v.power ≡ v.top * 10 ^ length c.fraction
    same = two_decimals n d m v.top v.power (length c.fraction) d_above c.value (quotient_products f n d v.top (10 ^ v.power) (value_size f h) (den_size f) v.is)

    less : (m ≤ v.top) × (10 ^ length c.fraction ≤ 10 ^ v.power)
    less = fewest m v.top v.power (length c.fraction) same (λ l u e. no_tens c.whole c.fraction fraction_digits c.ends l u e)

    small : (v.top ≡ 0) ⊎ (Small v.top × Small (10 ^ v.power)) → (m ≡ 0) ⊎ (Small m × Small (10 ^ length c.fraction))
    small (inl e) = inl (omega (arith, less.0, e))
    small (inr k) = inr (omega (arith, less.0, k.0), omega (arith, less.1, k.1))

    whole_small : (m ≡ 0) ⊎ (Small m × Small (10 ^ length c.fraction)) → c.whole < 2 ^ 126
    whole_small (inl e) = omega (arith, value_grows c.whole c.fraction, e)
    whole_small (inr k) = omega (arith, value_grows c.whole c.fraction, k.0)

    writes : WritesWhole c.whole
    writes = writes_whole c.whole (whole_small (small v.small))

    parts : Parts (decimal c.whole) c.fraction
    parts = record { digits = writes.digits; some = writes.some; fraction = fraction_digits }

    quotient : IsQuotient f (pos m) (pos (10 ^ length c.fraction))
    quotient = products_quotient f n d m (10 ^ length c.fraction) (value_size f h) (den_size f) (omega (arith, c.value))

    gives : NumeralGives (with_fraction (decimal c.whole) c.fraction) (Ok f)
    gives =
        let e : c.whole ≡ value_from 0 (decimal c.whole) = sym writes.value in
        parts_give f (decimal c.whole) c.fraction parts c.ends
        (subst (λ w. IsQuotient f (pos (value_from w c.fraction)) (pos (10 ^ length c.fraction))) e quotient)
        (subst (λ w. (value_from w c.fraction ≡ 0) ⊎ (Small (value_from w c.fraction) × Small (10 ^ length c.fraction))) e (small v.small))

-- ---- exponents
whole_num : (n : ℕ) → n < 2 ^ 126 → (whole n).num ≡ pos n
whole_num n h = go (nat_lt n (2 ^ 126)) refl (lt-ltb n (2 ^ 126) h)
  where
    go : (b : Bool) (e : nat_lt n (2 ^ 126) ≡ b) → b ≡ true → (whole_by n b e).num ≡ pos n
    go true e t = refl
    go false e t = cc

whole_den : (n : ℕ) → (whole n).den ≡ pos 1
whole_den n = go (nat_lt n (2 ^ 126)) refl
  where
    go : (b : Bool) (e : nat_lt n (2 ^ 126) ≡ b) → (whole_by n b e).den ≡ pos 1
    go true e = refl
    go false e = refl

exponent_small : (n : ℕ) → n ≤ 9 → n < 2 ^ 126
exponent_small n h = let k : 9 < 2 ^ 126 = ltb-true 9 (2 ^ 126) refl in omega (arith, h, k)

pub exponent_reads : (n : ℕ) → n ≤ 9 → IsDecimalText (decimal n) × NumeralGives (decimal n) (Ok (whole n))
exponent_reads n h =
    let s : n < 2 ^ 126 = exponent_small n h in
    let w = writes_whole n s in
    let p : Parts (decimal n) [] = record { digits = w.digits; some = w.some; fraction = tt } in
    let q : IsQuotient (whole n) (pos n) (pos 1) = products_quotient (whole n) n 1 n 1 (whole_num n s) (whole_den n) refl in
    let one : 1 < 2 ^ 126 = ltb-true 1 (2 ^ 126) refl in
    (decimal_text (decimal n) [] p, parts_give (whole n) (decimal n) [] p refl (subst (λ x. IsQuotient (whole n) (pos x) (pos 1)) (sym w.value) q) (subst (λ x. (x ≡ 0) ⊎ (Small x × Small 1)) (sym w.value) (inr (s, one))))

pub exponent_whole : (n : ℕ) → n ≤ 9 → exponent (whole n) ≡ Some n
exponent_whole n h = rw (whole_num n (exponent_small n h), whole_den n, le-leb n 9 h) refl
