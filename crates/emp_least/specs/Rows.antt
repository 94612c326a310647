-- The derivatives of a quadratic less the multipliers times the cells of the quantities, as rows of the coordinates and one multiplier for each quantity.
use Rattle.std.specs.Prelude.{ℕ, zero, suc, ℤ, pos, neg_ℤ, List, [], ◌∷◌, ◌++◌, map, replicate}
use Rattle.emp_algebra.specs.Vector.{cell, add_rows}
use Rattle.emp_algebra.specs.Deciding.{Zero, Weighted}
use Rattle.emp_systems.specs.Steps.{Quadratic}
use Rattle.emp_game.specs.Conditions.{row_of, column}

-- derivative k of the square, as a row
abbrev pub slope : List (List ℤ) → ℕ → List ℤ
slope m k = add_rows (row_of m k) (column m k)

-- with zeros up to n numbers
abbrev pub padded : ℕ → List ℤ → List ℤ
padded n r = add_rows (replicate n (pos 0)) r

-- derivative k of the quadratic, less the sum of multiplier times cell k: over n coordinates and then one multiplier for each quantity
abbrev pub level : ℕ → Quadratic → List Weighted → ℕ → Weighted
level n q ws k = record { factor = pos 0; kind = Zero; constant = cell q.linear k; cells = padded n (slope q.square k) ++ map (λ w. neg_ℤ (cell w.cells k)) ws }

-- by c coordinates from k on
abbrev pub levels : ℕ → Quadratic → List Weighted → ℕ → ℕ → List Weighted
levels n q ws k zero = []
levels n q ws k (suc c) = level n q ws k ∷ levels n q ws (suc k) c
