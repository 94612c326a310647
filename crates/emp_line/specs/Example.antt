-- Worked examples: cells that are kept, and those that are not as they are to be; two lines side by side; and the index by columns.
use Rattle.std.specs.Prelude.{◌≡◌, ℕ, ℤ, pos, negsuc, Bool, true, false, List, [], ◌∷◌, map, ◌^◌}
use Rattle.emp_line.specs.declared.cells.Cell.{Cell}
use Rattle.emp_line.specs.declared.line.Line.{Line}
use Rattle.emp_line.specs.declared.pairs.Pair.{Pair}
use Rattle.emp_line.specs.Pivot.{Factors}
use Rattle.emp_line.specs.Sparse.{IsSparse, divided, pairs, pairs_wide, spread, sums, turned_cell}
use Rattle.emp_line.specs.Indexed.{HasFlags, HasPlace, IsFlagged, IsIndex, IsMarked, IsTable, KeepsOthers}
use Rattle.emp_line.specs.Place.{MarksCells}

abbrev pub at : ℕ → ℤ → Cell
at k z = record { column = k; number = z }

abbrev pub pair : ℕ → ℤ → ℤ → Pair
pair k a b = record { column = k; own = a; other = b }

abbrev pub times : ℤ → ℤ → Factors
times own other = record { own = own; other = other }

abbrev pub line : List ℤ → Line
line zs = record { denom = pos 1; constant = pos 0; cells = zs }

-- 5 in column 1, and -2 in column 3
abbrev pub few : List Cell
few = at 1 (pos 5) ∷ at 3 (negsuc 1) ∷ []

pub record ExampleCells : Type 0 where
  pub spreads : spread 0 4 few ≡ pos 0 ∷ pos 5 ∷ pos 0 ∷ negsuc 1 ∷ []
  pub sparse : IsSparse 0 4 few
  -- a column behind the last, one before the first, one that stands twice, columns that fall, and a number that is 0
  pub too_far : IsSparse 0 3 few → ⊥
  pub too_early : IsSparse 2 4 few → ⊥
  pub twice : IsSparse 0 4 (at 1 (pos 5) ∷ at 1 (negsuc 1) ∷ []) → ⊥
  pub falling : IsSparse 0 4 (at 3 (negsuc 1) ∷ at 1 (pos 5) ∷ []) → ⊥
  pub zero : IsSparse 0 4 (at 1 (pos 5) ∷ at 3 (pos 0) ∷ []) → ⊥
  -- 3 times the quantity is solved for that of column 1, and for that of column 3
  pub turned : map (turned_cell (pos 5) (pos 3) 1) few ≡ at 1 (pos 3) ∷ at 3 (pos 2) ∷ []
  pub turned_below : map (turned_cell (negsuc 1) (pos 3) 3) few ≡ at 1 (pos 5) ∷ at 3 (negsuc 2) ∷ []
  -- a quotient is rounded towards 0
  pub divides : map (divided (pos 2)) few ≡ at 1 (pos 2) ∷ at 3 (negsuc 0) ∷ []

pub record ExamplePairs : Type 0 where
  -- column 1 is struck out of the first line
  pub beside : pairs 1 few (at 0 (pos 7) ∷ at 1 (pos 4) ∷ at 3 (pos 3) ∷ []) ≡ pair 0 (pos 0) (pos 7) ∷ pair 1 (pos 0) (pos 4) ∷ pair 3 (negsuc 1) (pos 3) ∷ []
  pub first_left : pairs 0 few [] ≡ pair 1 (pos 5) (pos 0) ∷ pair 3 (negsuc 1) (pos 0) ∷ []
  -- a sum that is 0 is not kept
  pub adds : sums (times (pos 3) (pos 2)) (pair 1 (pos 0) (pos 4) ∷ pair 3 (negsuc 1) (pos 3) ∷ pair 4 (pos 1) (pos 0) ∷ []) ≡ at 1 (pos 8) ∷ at 4 (pos 3) ∷ []
  -- a product, or a sum alone, of 2^126 is wide
  pub narrow : pairs_wide (times (pos 1) (pos 1)) (pair 0 (pos (2 ^ 125)) (negsuc 0) ∷ []) ≡ false
  pub wide_own : pairs_wide (times (pos 2) (pos 1)) (pair 0 (pos (2 ^ 125)) (negsuc 0) ∷ []) ≡ true
  pub wide_other : pairs_wide (times (pos 1) (pos 2)) (pair 0 (negsuc 0) (pos (2 ^ 125)) ∷ []) ≡ true
  pub wide_sum : pairs_wide (times (pos 1) (pos 1)) (pair 0 (pos 1) (pos 1) ∷ pair 1 (pos (2 ^ 125)) (pos (2 ^ 125)) ∷ []) ≡ true

-- the flags of two lines in one column
abbrev pub two : Bool → Bool → List Bool
two first second = first ∷ second ∷ []

-- two lines, both with a cell in column 1 alone, and their index
abbrev pub alike : List Line
alike = line (pos 0 ∷ pos 5 ∷ []) ∷ line (pos 0 ∷ negsuc 0 ∷ []) ∷ []

abbrev pub told : List (List Bool)
told = two false false ∷ two true true ∷ []

pub record ExampleIndex : Type 0 where
  pub tells : IsIndex 2 told alike
  -- line by line, with a flag that is not set, with one that is set too much, without a column, and with a place for a third line
  pub by_lines : IsIndex 2 (two false true ∷ two false true ∷ []) alike → ⊥
  pub too_few : IsIndex 2 (two false false ∷ two true false ∷ []) alike → ⊥
  pub too_many : IsIndex 2 (two true false ∷ two true true ∷ []) alike → ⊥
  pub too_short : IsIndex 2 (two false false ∷ []) (line (pos 0 ∷ pos 0 ∷ []) ∷ line (pos 0 ∷ pos 0 ∷ []) ∷ []) → ⊥
  pub too_long : IsIndex 2 ((false ∷ false ∷ false ∷ []) ∷ two true true ∷ []) alike → ⊥
  -- a place for the second line in both columns; none for a third line, and not in one column alone
  pub place : HasPlace 2 1 told
  pub no_place : HasPlace 2 2 told → ⊥
  pub one_column : HasPlace 1 1 told → ⊥
  -- the second of two lines has its cell in column 1, and the first one has not
  pub flags : HasFlags (line (pos 0 ∷ pos 5 ∷ [])) 1 (two true false ∷ two false true ∷ [])
  pub flags_of_first : HasFlags (line (pos 0 ∷ pos 5 ∷ [])) 0 (two true false ∷ two false true ∷ []) → ⊥

pub record ExampleTable : Type 0 where
  pub table : IsTable told (line (pos 0 ∷ pos 1 ∷ [])) (line (pos 3 ∷ pos 0 ∷ [])) alike
  -- the index of other lines, places of one column that are lent, and a line of three columns
  pub wrong_index : IsTable (two false true ∷ two false true ∷ []) (line (pos 0 ∷ pos 1 ∷ [])) (line (pos 3 ∷ pos 0 ∷ [])) alike → ⊥
  pub short_turned : IsTable told (line (pos 1 ∷ [])) (line (pos 3 ∷ [])) alike → ⊥
  pub short_spare : IsTable told (line (pos 0 ∷ pos 1 ∷ [])) (line (pos 3 ∷ [])) alike → ⊥
  pub long_line : IsTable told (line (pos 0 ∷ pos 1 ∷ [])) (line (pos 3 ∷ pos 0 ∷ [])) (line (pos 0 ∷ pos 5 ∷ pos 0 ∷ []) ∷ line (pos 0 ∷ negsuc 0 ∷ []) ∷ []) → ⊥

-- ---- flags of the second of two lines, which has cells in the columns 0 and 2 of three
abbrev pub ends : Line
ends = line (pos 5 ∷ pos 0 ∷ negsuc 1 ∷ [])

abbrev pub end_cells : List Cell
end_cells = at 0 (pos 5) ∷ at 2 (negsuc 1) ∷ []

abbrev pub full : List (List Bool)
full = two true true ∷ two true true ∷ two true true ∷ []

abbrev pub ends_out : List (List Bool)
ends_out = two true false ∷ two true true ∷ two true false ∷ []

abbrev pub none : List (List Bool)
none = two false false ∷ two false false ∷ two false false ∷ []

abbrev pub ends_in : List (List Bool)
ends_in = two false true ∷ two false false ∷ two false true ∷ []

pub record ExampleMarks : Type 0 where
  pub keeps : KeepsOthers 1 full ends_out
  -- the flags of the other line, a place more in a column, and a column more
  pub keeps_second : KeepsOthers 0 full ends_out → ⊥
  pub longer : KeepsOthers 1 full ((true ∷ true ∷ false ∷ []) ∷ two true true ∷ two true true ∷ []) → ⊥
  pub wider : KeepsOthers 1 full (two true true ∷ two true true ∷ two true true ∷ [] ∷ []) → ⊥
  pub takes_out : IsMarked ends 1 false full ends_out
  pub puts_in : IsMarked ends 1 true none ends_in
  -- in all columns, in none, in the first one alone, and for both lines
  pub all_out : IsMarked ends 1 false full (two true false ∷ two true false ∷ two true false ∷ []) → ⊥
  pub none_out : IsMarked ends 1 false full full → ⊥
  pub first_out : IsMarked ends 1 false full (two true false ∷ two true true ∷ two true true ∷ []) → ⊥
  pub both_out : IsMarked ends 1 false full (two false false ∷ two true true ∷ two false false ∷ []) → ⊥
  -- the same for the cells alone
  pub cells_out : MarksCells end_cells 1 false full ends_out
  pub cells_in : MarksCells end_cells 1 true none ends_in
  pub all_cells : MarksCells end_cells 1 false full (two true false ∷ two true false ∷ two true false ∷ []) → ⊥
  pub no_cells : MarksCells end_cells 1 false full full → ⊥
  pub first_cell : MarksCells end_cells 1 false full (two true false ∷ two true true ∷ two true true ∷ []) → ⊥
  pub both_lines : MarksCells end_cells 1 false full (two false false ∷ two true true ∷ two false false ∷ []) → ⊥
  -- one flag set, one taken away, one left; and not with the one that is to be taken away, or for both lines
  pub flagged : IsFlagged ends 1 (two false false ∷ two false true ∷ two false true ∷ []) ends_in
  pub left_set : IsFlagged ends 1 (two false false ∷ two false true ∷ two false true ∷ []) (two false true ∷ two false true ∷ two false true ∷ []) → ⊥
  pub both_flagged : IsFlagged ends 1 full ends_in → ⊥
