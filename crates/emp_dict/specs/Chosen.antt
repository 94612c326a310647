-- The choice of an exchange by least index.
use Rattle.std.specs.Prelude.{ℕ, ◌+◌, ◌-◌, ◌<◌, cond, nat_lt, length, slice_index_or, Bool, true, false, Option, Some, None}
use Rattle.emp_turns.specs.Choice.{Way, Free, Up as upward, Down as downward, Mark as TurnMark, Unasked as unasked, Required as required, Fixed as fixed, Aim as TurnAim}
use Rattle.emp_turns.specs.Layout.{Layout}
use Rattle.emp_turns.specs.Chooses.{Entry, first_column, nearest_row}
use Rattle.emp_dict.specs.declared.label.Label.{Label}
use Rattle.emp_dict.specs.declared.label.Label.TheVariants.{Base, Quantity, Objective}
use Rattle.emp_dict.specs.declared.label.Mark.{Mark}
use Rattle.emp_dict.specs.declared.label.Mark.TheVariants.{Unasked, Required, Fixed}
use Rattle.emp_dict.specs.declared.label.Aim.{Aim}
use Rattle.emp_dict.specs.declared.label.Aim.TheVariants.{Up, Down, Least}
use Rattle.emp_dict.specs.declared.label.Choice.{Choice}
use Rattle.emp_dict.specs.declared.label.Choice.TheVariants.{Stop, Exchange, Ray}
use Rattle.emp_dict.specs.Dictionary.{Dictionary, line_at, cell_at, row_label, column_label}

-- the order of labels: base variables first, then quantities, then the objective
abbrev pub index : ℕ → ℕ → Label → ℕ
index base quantities (Base b) = b - 1
index base quantities (Quantity k) = base + (k - 1)
index base quantities Objective = base + quantities

abbrev pub index_in : Dictionary → Label → ℕ
index_in d w = index (length d.columns) (length d.marks) w

-- how many labels there are
abbrev pub labels : Dictionary → ℕ
labels d = length d.rows + length d.columns

-- the dictionary by places
abbrev pub layout_of : Dictionary → Layout
layout_of d = record {
  rows = length d.rows;
  columns = length d.columns;
  row_label = λ i. index_in d (row_label d i);
  column_label = λ j. index_in d (column_label d j);
  denom = λ i. (line_at d i).denom;
  constant = λ i. (line_at d i).constant;
  cell = λ i j. cell_at d i j;
}

abbrev pub turn_mark : Mark → TurnMark
turn_mark Unasked = unasked
turn_mark Required = required
turn_mark Fixed = fixed

-- the mark of the label with the index v: a base variable is free, and the objective stops nothing
abbrev pub mark_by_index : Dictionary → ℕ → TurnMark
mark_by_index d v = cond (nat_lt v (length d.columns)) Free (turn_mark (slice_index_or d.marks (v - length d.columns) Unasked))

abbrev pub aimed_row : Dictionary → Aim → ℕ
aimed_row d (Up i) = i
aimed_row d (Down i) = i
aimed_row d Least = length d.marks

abbrev pub aimed_way : Aim → Way
aimed_way (Up i) = upward
aimed_way (Down i) = downward
aimed_way Least = downward

-- a quantity that is moved towards 0 stops at 0; the objective does not
abbrev pub aim_stops : Aim → Bool
aim_stops (Up i) = true
aim_stops (Down i) = true
aim_stops Least = false

abbrev pub turn_aim : Dictionary → Aim → TurnAim
turn_aim d a = record { row = index_in d (row_label d (aimed_row d a)); way = aimed_way a; stops = aim_stops a }

abbrev pub is_up : Way → Bool
is_up upward = true
is_up downward = false

abbrev pub way_by : Bool → Way
way_by true = upward
way_by false = downward

-- the column of least index that may move so that the aimed row moves the right way
abbrev pub entering : Dictionary → Aim → Option Entry
entering d a = first_column (mark_by_index d) (turn_aim d a) (layout_of d) (aimed_row d a) (length d.columns)

-- of the rows that stop it, those of least ratio, and of these the one of least index
abbrev pub leaving : Dictionary → Aim → Entry → Option ℕ
leaving d a e = nearest_row (mark_by_index d) (turn_aim d a) (layout_of d) (aimed_row d a) e.place e.way (length d.rows)

abbrev pub by_leaving : Entry → Option ℕ → Choice
by_leaving e None = Ray e.place (is_up e.way)
by_leaving e (Some r) = Exchange r e.place

abbrev pub by_entering : Dictionary → Aim → Option Entry → Choice
by_entering d a None = Stop
by_entering d a (Some e) = by_leaving e (leaving d a e)

abbrev pub chosen : Dictionary → Aim → Choice
chosen d a = by_entering d a (entering d a)

-- the aim names a row that there is, or there is an objective
abbrev pub AimFits : Dictionary → Aim → Type 0
AimFits d a = aimed_row d a < length d.rows
