-- What a numeral is, as a text put together from its parts.
use Rattle.std.specs.Prelude.{◌≡◌, ℕ, ◌+◌, ◌<◌, Bool, true, false, List, [], ◌∷◌, ◌++◌, length}
use Rattle.emp_numeral.specs.Numeral.{digit, is_mark, whole_of, fraction_of, tail_of, exponent_negative, exponent_digits, numeral_form}

abbrev pub AllDigits : List ℕ → Type 0
AllDigits [] = Unit {0}
AllDigits (b ∷ bs) = (digit b ≡ true) × AllDigits bs

-- a text and the fraction digits that it writes: nothing, or a point and digits
pub data PointText : List ℕ → List ℕ → Type 0 where
  no_point : PointText [] []
  point : (f : List ℕ) → AllDigits f → PointText (46 ∷ f) f

-- a sign, and if it is a minus
pub data SignText : List ℕ → Bool → Type 0 where
  no_sign : SignText [] false
  plus : SignText (43 ∷ []) false
  minus : SignText (45 ∷ []) true

-- a text, if its exponent is below 0, and the exponent's digits: nothing, or `e` or `E`, a sign or none, and digits
pub data ExponentText : List ℕ → Bool → List ℕ → Type 0 where
  no_exponent : ExponentText [] false []
  exponent : (b : ℕ) (s : List ℕ) (negative : Bool) (d : ℕ) (ds : List ℕ) → is_mark b ≡ true → SignText s negative → AllDigits (d ∷ ds) → ExponentText (b ∷ (s ++ d ∷ ds)) negative (d ∷ ds)

-- the text is the digits, a point text and an exponent text, with at least one digit before the exponent
pub record IsNumeral (text whole fraction : List ℕ) (negative : Bool) (digits : List ℕ) : Type 0 where
  pub middle : List ℕ
  pub tail : List ℕ
  pub parts : text ≡ whole ++ (middle ++ tail)
  pub whole_digits : AllDigits whole
  pub point_text : PointText middle fraction
  pub exponent_text : ExponentText tail negative digits
  pub some_digit : 0 < length whole + length fraction

-- what the reader takes for the parts
pub record AreParts (t w f : List ℕ) (n : Bool) (e : List ℕ) : Type 0 where
  pub form : numeral_form t ≡ true
  pub whole : w ≡ whole_of t
  pub fraction : f ≡ fraction_of t
  pub negative : n ≡ exponent_negative (tail_of t)
  pub digits : e ≡ exponent_digits (tail_of t)

-- a text is a numeral exactly where its form is one, and then its parts are those that the reader takes
pub record NumeralsAreTexts : Type 0 where
  pub is_text : (t : List ℕ) → numeral_form t ≡ true → IsNumeral t (whole_of t) (fraction_of t) (exponent_negative (tail_of t)) (exponent_digits (tail_of t))
  pub has_form : (t w f : List ℕ) (n : Bool) (e : List ℕ) → IsNumeral t w f n e → AreParts t w f n e
