-- The text of a fraction.
use Rattle.std.specs.Prelude.{ℕ, zero, suc, ℤ, pos, Bool, true, false, cond, List, ◌++◌, codes}
use Rattle.std.specs.Fmt.{signed_decimal}
use Rattle.emp_num.specs.declared.frac.Frac.{Frac}

abbrev pub is_one : ℤ → Bool
is_one (pos (suc zero)) = true
is_one z = false

-- `n` or `n/d`
abbrev pub fraction_text : Frac → List ℕ
fraction_text f = cond (is_one f.den) (signed_decimal f.num) (signed_decimal f.num ++ codes "/" ++ signed_decimal f.den)
