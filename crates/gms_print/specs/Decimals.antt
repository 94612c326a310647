-- Numbers that decimals write.
use Rattle.std.specs.Prelude.{◌≡◌, ℕ, ◌*◌, ◌^◌, ◌≤◌, ◌++◌, unsigned_abs, true, List, [], ◌∷◌, length, All, codes}
use Prim.Native.Nat.{◌∣◌}
use Rattle.emp_num.specs.declared.frac.Frac.{Frac}
use Rattle.emp_numeral.specs.Numeral.{digit, value_from, trimmed}

-- a list goes on with a part of which P holds
pub record Adds (P : List ℕ → Type 0) (old new : List ℕ) : Type 0 where
  pub text : List ℕ
  pub fact : P text
  pub is : new ≡ old ++ text

-- so many places write each number over it
pub record HasPlaces (den : ℕ) : Type 0 where
  pub places : ℕ
  pub few : places ≤ 37
  pub divides : den ∣ 10 ^ places

abbrev pub HasDecimal : Frac → Type 0
HasDecimal f = HasPlaces (unsigned_abs f.den)

-- digits behind the `.` that write a rest over a denominator, of which the last is not 0
pub record AreDigits (rest den : ℕ) (digits : List ℕ) : Type 0 where
  pub all : All (λ b. digit b ≡ true) digits
  pub ends : trimmed digits ≡ digits
  pub value : rest * 10 ^ length digits ≡ den * value_from 0 digits

-- no `.` where there are no digits
abbrev pub pointed : List ℕ → List ℕ
pointed [] = []
pointed (b ∷ bs) = codes "." ++ b ∷ bs

-- the digits with the `.` before them
pub record IsFraction (rest den : ℕ) (text : List ℕ) : Type 0 where
  pub digits : List ℕ
  pub are : AreDigits rest den digits
  pub is : text ≡ pointed digits
