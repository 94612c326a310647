-- Whole numbers as fractions.
use Rattle.std.specs.Prelude.{◌≡◌, ℕ, ◌^◌, pos, ◌<ℤ◌, Bool, true, false, nat_lt, refl}
use Rattle.std.proofs.Common.{arith}
use Rattle.std.proofs.lemmas.Bool.{ltb-true}
use Rattle.std.proofs.lemmas.Int.{ints}
use native.Mathlib.Nat.{eq-one_of_dvd-one}
use Rattle.emp_num.specs.Exact.{IsNarrow, IsCoprime}
use Rattle.emp_num.specs.declared.frac.Frac.{Frac}

-- ---- what the fields rest on
pub one_above_zero : pos 0 <ℤ pos 1
one_above_zero = omega (arith, ints)

pub below_limit : (n : ℕ) → nat_lt n (2 ^ 126) ≡ true → IsNarrow (pos n)
below_limit n e = ltb-true n (2 ^ 126) e

pub zero_below_limit : IsNarrow (pos 0)
zero_below_limit = below_limit 0 refl

pub one_below_limit : IsNarrow (pos 1)
one_below_limit = below_limit 1 refl

pub coprime_one : (n : ℕ) → IsCoprime (pos n) (pos 1)
coprime_one n k in_n in_one = eq-one_of_dvd-one in_one

-- ---- the fraction
abbrev pub whole_by : (n : ℕ) (b : Bool) → nat_lt n (2 ^ 126) ≡ b → Frac
whole_by n true e = record { num = pos n; den = pos 1; positive = one_above_zero; num_narrow = below_limit n e; den_narrow = one_below_limit; lowest = coprime_one n }
whole_by n false e = record { num = pos 0; den = pos 1; positive = one_above_zero; num_narrow = zero_below_limit; den_narrow = one_below_limit; lowest = coprime_one 0 }

-- n over 1; numbers from 2^126 on have no fraction and give 0
abbrev pub whole : ℕ → Frac
whole n = whole_by n (nat_lt n (2 ^ 126)) refl
