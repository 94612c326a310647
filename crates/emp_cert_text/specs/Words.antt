-- Words that write whole numbers and fractions, of any size.
use Rattle.std.specs.Prelude.{◌≡◌, ◌⊎◌, ℕ, ◌^◌, ◌≤◌, ◌<◌, Bool, true, false, cond, not, ◌&&◌, ◌||◌, nat_lt, nat_eq, ℤ, pos, neg_ℤ, List, [], ◌∷◌, ◌++◌, length}
use Rattle.emp_num.specs.Exact.{IsNarrow, IsWide, IsCoprime}
use Rattle.emp_numeral.specs.Numeral.{digit, value_from}
use Rattle.emp_numeral.specs.FracText.{fraction_text}
use Rattle.emp_num.specs.declared.frac.Frac.{Frac}
use Rattle.emp_cert_text.specs.declared.words.Number.{Number}
use Rattle.emp_cert_text.specs.declared.words.Number.TheVariants.{No, Outside, Is}
use Rattle.emp_cert_text.specs.declared.words.Fraction.{Fraction}
use Rattle.emp_cert_text.specs.declared.words.Fraction.TheVariants.{No as NoFraction, Outside as OutsideFraction, Is as IsFrac}

-- ---- whole numbers
abbrev pub are_digits : List ℕ → Bool
are_digits [] = true
are_digits (b ∷ bs) = digit b && are_digits bs

-- the number that digits write
abbrev pub value : List ℕ → ℕ
value ds = value_from 0 ds

-- digits, with no zero before another digit
abbrev pub is_count : List ℕ → Bool
is_count [] = false
is_count (b ∷ bs) = are_digits (b ∷ bs) && (nat_eq (length bs) 0 || nat_lt 48 b)

-- such digits, or a `-` and such digits of a number above 0
abbrev pub is_whole : List ℕ → Bool
is_whole [] = false
is_whole (b ∷ bs) = cond (nat_eq b 45) (is_count bs && nat_lt 0 (value bs)) (is_count (b ∷ bs))

-- the number that such a word writes
abbrev pub whole : List ℕ → ℤ
whole [] = pos 0
whole (b ∷ bs) = cond (nat_eq b 45) (neg_ℤ (pos (value bs))) (pos (value (b ∷ bs)))

-- ---- fractions
-- `n/d` with d at least 2, in lowest terms; one of which n or d is 2^126 or more in absolute value counts as such
pub record IsQuotientWord (w : List ℕ) : Type 0 where
  pub num : List ℕ
  pub den : List ℕ
  pub parts : w ≡ num ++ 47 ∷ den
  pub num_whole : is_whole num ≡ true
  pub den_count : is_count den ≡ true
  pub den_two : 2 ≤ value den
  pub lowest : IsCoprime (whole num) (pos (value den)) ⊎ (IsWide (whole num) ⊎ IsWide (pos (value den)))

-- `n` or `n/d`
abbrev pub IsFraction : List ℕ → Type 0
IsFraction w = (is_whole w ≡ true) ⊎ IsQuotientWord w

-- ---- what a word is read as: each outcome with what is so exactly there
abbrev pub CountGives : List ℕ → Number → Type 0
CountGives w No = is_count w ≡ false
CountGives w Outside = (is_count w ≡ true) × (2 ^ 126 ≤ value w)
CountGives w (Is z) = (is_count w ≡ true) × (z ≡ pos (value w)) × (value w < 2 ^ 126)

abbrev pub NumberGives : List ℕ → Number → Type 0
NumberGives w No = is_whole w ≡ false
NumberGives w Outside = (is_whole w ≡ true) × IsWide (whole w)
NumberGives w (Is z) = (is_whole w ≡ true) × (z ≡ whole w) × IsNarrow z

abbrev pub LowestGives : ℤ → ℤ → Fraction → Type 0
LowestGives n d NoFraction = IsCoprime n d → ⊥
LowestGives n d OutsideFraction = ⊥
LowestGives n d (IsFrac f) = (f.num ≡ n) × (f.den ≡ d)

abbrev pub FractionGives : List ℕ → Fraction → Type 0
FractionGives w NoFraction = IsFraction w → ⊥
FractionGives w OutsideFraction = IsFraction w × ((f : Frac) → w ≡ fraction_text f → ⊥)
FractionGives w (IsFrac f) = w ≡ fraction_text f

-- ---- bytes
-- no byte of the text is b
abbrev pub lacks : ℕ → List ℕ → Bool
lacks b [] = true
lacks b (x ∷ xs) = not (nat_eq x b) && lacks b xs

-- the bytes above 32 that a text begins with
abbrev pub first_word : List ℕ → List ℕ
first_word [] = []
first_word (b ∷ bs) = cond (nat_lt 32 b) (b ∷ first_word bs) []

-- what follows them
abbrev pub after_word : List ℕ → List ℕ
after_word [] = []
after_word (b ∷ bs) = cond (nat_lt 32 b) (after_word bs) (b ∷ bs)
