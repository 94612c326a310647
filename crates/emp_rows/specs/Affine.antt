-- Affine quantities with whole numbers, and their values at a point.
use Rattle.std.specs.Prelude.{◌≡◌, ℕ, zero, suc, ℤ, pos, ◌+ℤ◌, ◌*ℤ◌, List, ◌∷◌, All, length, int_div}
use Rattle.emp_algebra.specs.Vector.{dot, quotients}
use Rattle.emp_num.specs.Exact.{IsNarrow}
use Rattle.emp_num.specs.Gcd.{content_of}
use Rattle.emp_rows.specs.declared.affine.Affine.{Affine}

-- d times the value at the point with the numbers xs over d
abbrev pub value_times : Affine → ℤ → List ℤ → ℤ
value_times r d xs = r.constant *ℤ d +ℤ dot r.cells xs

-- every row is 0 at the point
abbrev pub AllVanish : List Affine → ℤ → List ℤ → Type 0
AllVanish rows d xs = All (λ r. value_times r d xs ≡ pos 0) rows

-- the row has one cell per base variable, and its numbers are below 2^126 in absolute value
pub record IsRow (base : ℕ) (r : Affine) : Type 0 where
  pub width : length r.cells ≡ base
  pub constant : IsNarrow r.constant
  pub cells : All IsNarrow r.cells

-- 1 for 0: what the numbers of a row are divided by
abbrev pub divisor_of : ℕ → ℤ
divisor_of zero = pos 1
divisor_of (suc n) = pos (suc n)

-- the row divided by what all its numbers have in common (by 1 where all are 0)
abbrev pub primitive_of : List ℤ → ℤ → Affine
primitive_of cells constant = record { constant = int_div constant (divisor_of (content_of (constant ∷ cells))); cells = quotients cells (divisor_of (content_of (constant ∷ cells))) }
