-- Lines as the code keeps them.
use Rattle.std.specs.Prelude.{◌≡◌, ℕ, pos, ◌<ℤ◌, cond, length, ◌∷◌, Option, Some, nat_eq}
use Rattle.std.specs.List.{All}
use Rattle.emp_num.specs.Exact.{IsNarrow}
use Rattle.emp_num.specs.Gcd.{content_of}
use Rattle.emp_line.specs.declared.line.Line.{Line}
use Rattle.emp_line.specs.Pivot.{moved}

-- a line of so many columns, with a denominator above 0 and all numbers below 2^126 in absolute value
pub record IsLine (columns : ℕ) (l : Line) : Type 0 where
  pub width : length l.cells ≡ columns
  pub positive : pos 0 <ℤ l.denom
  pub denom : IsNarrow l.denom
  pub constant : IsNarrow l.constant
  pub cells : All IsNarrow l.cells

-- no number above 1 divides all numbers of the line
abbrev pub IsLowest : Line → Type 0
IsLowest l = content_of (l.denom ∷ l.constant ∷ l.cells) ≡ 1

-- line number `at` after the pivot of line r, which is turned into t
abbrev pub line_after : ℕ → Line → ℕ → ℕ → Line → Option Line
line_after at t r j l = cond (nat_eq at r) (Some t) (moved t j l)
