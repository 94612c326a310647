-- Numerals: digits with at most one point, and an optional exponent.
use Rattle.std.specs.Prelude.{◌≡◌, ◌⊎◌, ℕ, suc, ◌+◌, ◌-◌, ◌*◌, ◌^◌, ◌<◌, ◌≤◌, ℤ, pos, negsuc, neg_ℤ, ◌-ℤ◌, Bool, true, false, cond, not, ◌&&◌, ◌||◌, nat_eq, nat_lt, List, [], ◌∷◌, length, drop, slice_index_or, Result, Ok, Err}
use Rattle.emp_num.specs.FracSpec.{IsQuotient}
use Rattle.emp_num.specs.declared.frac.Frac.{Frac}
use Rattle.emp_numeral.specs.declared.numeral.NumeralFault.{NumeralFault}
use Rattle.emp_numeral.specs.declared.numeral.NumeralFault.TheVariants.{Form, Wide}

-- ---- digits
abbrev pub digit : ℕ → Bool
digit b = nat_lt 47 b && nat_lt b 58

-- the digits that a text begins with
abbrev pub digits_of : List ℕ → List ℕ
digits_of [] = []
digits_of (b ∷ bs) = cond (digit b) (b ∷ digits_of bs) []

-- what follows them
abbrev pub after_digits : List ℕ → List ℕ
after_digits [] = []
after_digits (b ∷ bs) = cond (digit b) (after_digits bs) (b ∷ bs)

-- the number that digits write after n
abbrev pub value_from : ℕ → List ℕ → ℕ
value_from n [] = n
value_from n (b ∷ bs) = value_from (n * 10 + (b - 48)) bs

-- a digit before digits of which none is a last zero
abbrev pub before_trimmed : ℕ → List ℕ → List ℕ
before_trimmed b [] = cond (nat_eq b 48) [] (b ∷ [])
before_trimmed b (c ∷ cs) = b ∷ (c ∷ cs)

-- the digits without the zeros at the end
abbrev pub trimmed : List ℕ → List ℕ
trimmed [] = []
trimmed (b ∷ bs) = before_trimmed b (trimmed bs)

-- ---- parts of a text
abbrev pub is_empty : List ℕ → Bool
is_empty t = nat_eq (length t) 0

-- the first byte, and 0 where there is none
abbrev pub first : List ℕ → ℕ
first t = slice_index_or t 0 0

abbrev pub fraction_digits : List ℕ → List ℕ
fraction_digits t = cond (nat_eq (first t) 46) (digits_of (drop 1 t)) []

abbrev pub after_fraction : List ℕ → List ℕ
after_fraction t = cond (nat_eq (first t) 46) (after_digits (drop 1 t)) t

abbrev pub is_mark : ℕ → Bool
is_mark b = nat_eq b 101 || nat_eq b 69

abbrev pub is_sign : ℕ → Bool
is_sign b = nat_eq b 43 || nat_eq b 45

-- the digits of an exponent, after its mark and its sign
abbrev pub unsigned : List ℕ → List ℕ
unsigned t = cond (is_sign (first t)) (drop 1 t) t

abbrev pub exponent_digits : List ℕ → List ℕ
exponent_digits t = unsigned (drop 1 t)

abbrev pub exponent_negative : List ℕ → Bool
exponent_negative t = nat_eq (first (drop 1 t)) 45

abbrev pub only_digits : List ℕ → Bool
only_digits t = not (is_empty t) && is_empty (after_digits t)

abbrev pub exponent_form : List ℕ → Bool
exponent_form t = is_empty t || (is_mark (first t) && only_digits (exponent_digits t))

-- ---- numerals
abbrev pub whole_of : List ℕ → List ℕ
whole_of t = digits_of t

abbrev pub fraction_of : List ℕ → List ℕ
fraction_of t = fraction_digits (after_digits t)

abbrev pub tail_of : List ℕ → List ℕ
tail_of t = after_fraction (after_digits t)

abbrev pub numeral_form : List ℕ → Bool
numeral_form t = not (is_empty (whole_of t) && is_empty (fraction_of t)) && exponent_form (tail_of t)

abbrev pub mantissa : List ℕ → List ℕ → ℕ
mantissa whole fraction = value_from (value_from 0 whole) (trimmed fraction)

abbrev pub signed : Bool → ℕ → ℤ
signed true n = neg_ℤ (pos n)
signed false n = pos n

-- the exponent of the last digit that is left
abbrev pub scale : List ℕ → Bool → ℕ → ℤ
scale fraction negative size = signed negative size -ℤ pos (length (trimmed fraction))

-- ---- values
abbrev pub top_of : ℕ → ℤ → ℕ
top_of m (pos n) = m * 10 ^ n
top_of m (negsuc n) = m

abbrev pub bottom_of : ℤ → ℕ
bottom_of (pos n) = 1
bottom_of (negsuc n) = 10 ^ suc n

abbrev pub Small : ℕ → Type 0
Small n = n < 2 ^ 126

abbrev pub Large : ℕ → Type 0
Large n = 2 ^ 126 ≤ n

abbrev pub FormedSmall : ℕ → ℤ → Type 0
FormedSmall m s = Small m × Small (top_of m s) × Small (bottom_of s)

abbrev pub FormedLarge : ℕ → ℤ → Type 0
FormedLarge m s = Large m ⊎ (Large (top_of m s) ⊎ Large (bottom_of s))

-- m times the power s of ten, or why there is none: each outcome with what is so exactly there
abbrev pub DecimalGives : ℕ → ℤ → Result Frac NumeralFault → Type 0
DecimalGives m s (Ok r) = IsQuotient r (pos (top_of m s)) (pos (bottom_of s)) × ((m ≡ 0) ⊎ FormedSmall m s)
DecimalGives m s (Err Form) = ⊥
DecimalGives m s (Err Wide) = (0 < m) × FormedLarge m s

abbrev pub FormGives : Bool → ℕ → ℤ → Result Frac NumeralFault → Type 0
FormGives true m s r = DecimalGives m s r
FormGives false m s (Ok r) = ⊥
FormGives false m s (Err Form) = Unit {0}
FormGives false m s (Err Wide) = ⊥

abbrev pub NumeralGives : List ℕ → Result Frac NumeralFault → Type 0
NumeralGives t r = FormGives (numeral_form t) (mantissa (whole_of t) (fraction_of t)) (scale (fraction_of t) (exponent_negative (tail_of t)) (value_from 0 (exponent_digits (tail_of t)))) r
