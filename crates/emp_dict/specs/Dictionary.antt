-- A dictionary in whole numbers without bound: its lines, what each row and each column stands for, and the marks of the quantities.
-- Row i says `denom * v = constant + sum of cells * w`, where v is the row's label and the w are those of the columns. At its point all columns are 0.
use Rattle.std.specs.Prelude.{◌≡◌, ◌≢◌, ℕ, zero, suc, ◌+◌, ◌-◌, ◌<◌, ◌≤◌, ℤ, pos, ◌+ℤ◌, ◌*ℤ◌, Bool, true, false, cond, ◌||◌, nat_eq, nat_lt, nat_le, ◌&&◌, List, [], ◌∷◌, ◌++◌, map, length, replicate, slice_set, slice_index_or, Option, Some, None}
use Rattle.std.specs.List.{All}
use Rattle.emp_algebra.specs.Vector.{cell, dot}
use Rattle.emp_line.specs.declared.line.Line.{Line}
use Rattle.emp_line.specs.Pivot.{no_line, pivoted}
use Rattle.emp_line.specs.Lines.{IsLine, IsLowest}
use Rattle.emp_rows.specs.declared.affine.Affine.{Affine}
use Rattle.emp_dict.specs.declared.label.Label.{Label}
use Rattle.emp_dict.specs.declared.label.Label.TheVariants.{Base, Quantity, Objective}
use Rattle.emp_dict.specs.declared.label.Mark.{Mark}
use Rattle.emp_dict.specs.declared.label.Mark.TheVariants.{Unasked}

-- the mark of quantity k stands at place k - 1
pub record Dictionary : Type 0 where
  pub lines : List Line
  pub rows : List Label
  pub columns : List Label
  pub marks : List Mark

-- ---- its parts
abbrev pub line_at : Dictionary → ℕ → Line
line_at d i = slice_index_or d.lines i no_line

abbrev pub cell_at : Dictionary → ℕ → ℕ → ℤ
cell_at d i j = cell (line_at d i).cells j

abbrev pub row_label : Dictionary → ℕ → Label
row_label d i = slice_index_or d.rows i Objective

abbrev pub column_label : Dictionary → ℕ → Label
column_label d j = slice_index_or d.columns j Objective

abbrev pub mark_at : Dictionary → ℕ → Mark
mark_at d k = slice_index_or d.marks (k - 1) Unasked

abbrev pub label_eq : Label → Label → Bool
label_eq (Base b) (Base c) = nat_eq b c
label_eq (Base b) (Quantity k) = false
label_eq (Base b) Objective = false
label_eq (Quantity k) (Base b) = false
label_eq (Quantity k) (Quantity m) = nat_eq k m
label_eq (Quantity k) Objective = false
label_eq Objective (Base b) = false
label_eq Objective (Quantity k) = false
label_eq Objective Objective = true

-- the first place of the label, where the first one given is number `at`
abbrev pub place_from : ℕ → Label → List Label → Option ℕ
place_from at w [] = None
place_from at w (v ∷ vs) = cond (label_eq v w) (Some at) (place_from (at + 1) w vs)

-- the row of the label, and none where it has a column
abbrev pub row_of : Dictionary → Label → Option ℕ
row_of d w = place_from 0 w d.rows

-- the objective has the last row, number `length d.marks`, where there is one
abbrev pub has_objective : Dictionary → Bool
has_objective d = nat_lt (length d.marks) (length d.rows)

-- ---- what is made of it
abbrev pub with_lines : Dictionary → ℕ → ℕ → Option (List Line) → Option Dictionary
with_lines d r j None = None
with_lines d r j (Some ls) = Some (record { lines = ls; rows = slice_set d.rows r (column_label d j); columns = slice_set d.columns j (row_label d r); marks = d.marks })

-- row r and column j change places; nothing where a number formed is wide
abbrev pub exchanged : Dictionary → ℕ → ℕ → Option Dictionary
exchanged d r j = with_lines d r j (pivoted d.lines r j)

abbrev pub marked : Dictionary → ℕ → Mark → Dictionary
marked d k m = record { lines = d.lines; rows = d.rows; columns = d.columns; marks = slice_set d.marks (k - 1) m }

-- ---- the start: a row for each quantity, and a last one for the objective where there is one; the columns are the base variables
abbrev pub line_of : Affine → Line
line_of r = record { denom = pos 1; constant = r.constant; cells = r.cells }

abbrev pub bases_from : ℕ → ℕ → List Label
bases_from at zero = []
bases_from at (suc n) = (Base at) ∷ bases_from (at + 1) n

abbrev pub quantities_from : ℕ → ℕ → List Label
quantities_from at zero = []
quantities_from at (suc n) = (Quantity at) ∷ quantities_from (at + 1) n

abbrev pub objective_lines : Option Affine → List Line
objective_lines None = []
objective_lines (Some o) = line_of o ∷ []

abbrev pub objective_labels : Option Affine → List Label
objective_labels None = []
objective_labels (Some o) = Objective ∷ []

abbrev pub started : ℕ → List Affine → Option Affine → Dictionary
started base quantities objective = record {
  lines = map line_of quantities ++ objective_lines objective;
  rows = quantities_from 1 (length quantities) ++ objective_labels objective;
  columns = bases_from 1 base;
  marks = replicate (length quantities) Unasked;
}

-- ---- what every dictionary keeps
-- a label of so many base variables and quantities, where there are so many rows
abbrev pub is_label : ℕ → ℕ → ℕ → Label → Bool
is_label base quantities rows (Base b) = nat_lt 0 b && nat_le b base
is_label base quantities rows (Quantity k) = nat_lt 0 k && nat_le k quantities
is_label base quantities rows Objective = nat_lt quantities rows

abbrev pub IsLabel : ℕ → ℕ → ℕ → Label → Type 0
IsLabel base quantities rows w = is_label base quantities rows w ≡ true

abbrev pub stands : Label → List Label → Bool
stands w [] = false
stands w (v ∷ vs) = label_eq v w || stands w vs

-- every label has one place, and that of the objective is the last row; denominators are above 0, and no number above 1 divides all numbers of
-- a row
pub record IsSound (d : Dictionary) : Type 0 where
  pub lines : All (IsLine (length d.columns)) d.lines
  pub lowest : All IsLowest d.lines
  pub count : length d.rows ≡ length d.lines
  pub quantities : length d.marks ≤ length d.rows
  pub one_objective : length d.rows ≤ length d.marks + 1
  pub objective : length d.marks < length d.rows → row_label d (length d.marks) ≡ Objective
  pub row_labels : (i : ℕ) → i < length d.rows → IsLabel (length d.columns) (length d.marks) (length d.rows) (row_label d i)
  pub column_labels : (j : ℕ) → j < length d.columns → IsLabel (length d.columns) (length d.marks) (length d.rows) (column_label d j)
  pub rows_once : (i h : ℕ) → i < length d.rows → h < length d.rows → row_label d i ≡ row_label d h → i ≡ h
  pub columns_once : (j h : ℕ) → j < length d.columns → h < length d.columns → column_label d j ≡ column_label d h → j ≡ h
  pub apart : (i j : ℕ) → i < length d.rows → j < length d.columns → row_label d i ≢ column_label d j
  pub complete : (w : Label) → IsLabel (length d.columns) (length d.marks) (length d.rows) w → (stands w d.rows || stands w d.columns) ≡ true
  pub few_bases : length d.columns ≤ 256
  pub few_quantities : length d.marks ≤ 512

-- ---- what its rows say
-- every row is true where each label w has the value f w over s; with s = 0 they are true of a direction
abbrev pub RowsTrue : Dictionary → ℤ → (Label → ℤ) → Type 0
RowsTrue d s f = (i : ℕ) → i < length d.rows → (line_at d i).denom *ℤ f (row_label d i) ≡ (line_at d i).constant *ℤ s +ℤ dot (line_at d i).cells (map f d.columns)

-- the value of an affine quantity times s, where the base variables have the values xs over s
abbrev pub affine_value : Affine → ℤ → List ℤ → ℤ
affine_value q s xs = q.constant *ℤ s +ℤ dot q.cells xs

abbrev pub no_affine : Affine
no_affine = record { cells = []; constant = pos 0 }

abbrev pub objective_value : Option Affine → ℤ → List ℤ → ℤ
objective_value None s xs = pos 0
objective_value (Some o) s xs = affine_value o s xs

-- what each label is worth where the base variables have the values xs over s
abbrev pub label_value : List Affine → Option Affine → ℤ → List ℤ → Label → ℤ
label_value quantities objective s xs (Base b) = cell xs (b - 1)
label_value quantities objective s xs (Quantity k) = affine_value (slice_index_or quantities (k - 1) no_affine) s xs
label_value quantities objective s xs Objective = objective_value objective s xs
