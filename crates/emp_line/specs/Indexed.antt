-- The index of lines by columns.
use Rattle.std.specs.Prelude.{◌≡◌, ◌≢◌, ℕ, ◌<◌, Bool, true, false, cond, List, [], length, slice_index_or}
use Rattle.emp_algebra.specs.Vector.{cell, is_zero}
use Rattle.emp_line.specs.declared.line.Line.{Line}
use Rattle.emp_line.specs.Pivot.{no_line}

-- the line has a cell other than 0 in column k
abbrev pub has_cell : Line → ℕ → Bool
has_cell l k = cond (is_zero (cell l.cells k)) false true

-- what the index says of column k and line i
abbrev pub flag : List (List Bool) → ℕ → ℕ → Bool
flag index k i = slice_index_or (slice_index_or index k []) i false

-- the index tells of each of w columns which lines have a cell there
pub record IsIndex (w : ℕ) (index : List (List Bool)) (lines : List Line) : Type 0 where
  pub columns : length index ≡ w
  pub sizes : (k : ℕ) → k < w → length (slice_index_or index k []) ≡ length lines
  pub flags : (k i : ℕ) → k < w → i < length lines → flag index k i ≡ has_cell (slice_index_or lines i no_line) k

-- so many columns have a place for line `at`
pub record HasPlace (w at : ℕ) (index : List (List Bool)) : Type 0 where
  pub columns : length index ≡ w
  pub sizes : (k : ℕ) → k < w → at < length (slice_index_or index k [])

-- the flags of line `at` tell where l has a cell
abbrev pub HasFlags : Line → ℕ → List (List Bool) → Type 0
HasFlags l at index = (k : ℕ) → k < length index → flag index k at ≡ has_cell l k

-- the index has the places that it had, and no flag is changed but those of line `at`
pub record KeepsOthers (at : ℕ) (old new : List (List Bool)) : Type 0 where
  pub columns : length new ≡ length old
  pub sizes : (k : ℕ) → k < length old → length (slice_index_or new k []) ≡ length (slice_index_or old k [])
  pub others : (k i : ℕ) → i ≢ at → flag new k i ≡ flag old k i

-- the flags of line `at` are changed to `value` in the columns of l's cells, and no others
pub record IsMarked (l : Line) (at : ℕ) (value : Bool) (old new : List (List Bool)) : Type 0 where
  pub rest : KeepsOthers at old new
  pub here : (k : ℕ) → k < length old → flag new k at ≡ cond (has_cell l k) value (flag old k at)

-- the flags of line `at` are changed to tell where l has a cell, and no others
pub record IsFlagged (l : Line) (at : ℕ) (old new : List (List Bool)) : Type 0 where
  pub rest : KeepsOthers at old new
  pub here : HasFlags l at new

-- lines of as many columns as the index, the turned one and the spare one
pub record IsTable (flags : List (List Bool)) (turned place : Line) (rows : List Line) : Type 0 where
  pub index : IsIndex (length turned.cells) flags rows
  pub spare : length place.cells ≡ length turned.cells
  pub lines : (i : ℕ) → i < length rows → length (slice_index_or rows i no_line).cells ≡ length turned.cells
