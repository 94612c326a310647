-- What the code of the choice keeps.
use Rattle.std.specs.Prelude.{◌≢◌, ℕ, zero, suc, ◌<◌, ℤ, pos, negsuc, Bool, true, false, length, Option, Some, None}
use Rattle.emp_turns.specs.Choice.{Way, Mark, Free, Unasked, Required, Fixed}
use Rattle.emp_turns.specs.Chooses.{Entry as TurnEntry, opening, stopping}
use Rattle.emp_dict.specs.declared.label.Aim.{Aim}
use Rattle.emp_dict.specs.declared.choose.Entry.{Entry}
use Rattle.emp_dict.specs.declared.choose.Freedom.{Freedom}
use Rattle.emp_dict.specs.declared.choose.Freedom.TheVariants.{Both, Upward, Still}
use Rattle.emp_dict.specs.Dictionary.{Dictionary, cell_at}
use Rattle.emp_dict.specs.Chosen.{way_by, layout_of, mark_by_index, turn_aim, aimed_row}

abbrev pub entry_of : Entry → TurnEntry
entry_of e = record { place = e.column; way = way_by e.up }

-- how a label with the mark may move
abbrev pub freedom_of : Mark → Freedom
freedom_of Free = Both
freedom_of Unasked = Still
freedom_of Required = Upward
freedom_of Fixed = Still

abbrev pub is_positive : ℤ → Bool
is_positive (pos zero) = false
is_positive (pos (suc n)) = true
is_positive (negsuc n) = false

-- the way that is asked for, where the label may go it
abbrev pub way_for : Freedom → Bool → Option Way
way_for Both up = Some (way_by up)
way_for Upward true = Some (way_by true)
way_for Upward false = None
way_for Still up = None

abbrev pub opening_at : Dictionary → Aim → ℕ → Option Way
opening_at d a j = opening (mark_by_index d) (turn_aim d a) (layout_of d) (aimed_row d a) j

abbrev pub stopping_at : Dictionary → Aim → ℕ → Way → ℕ → Bool
stopping_at d a j g i = stopping (mark_by_index d) (turn_aim d a) (layout_of d) (aimed_row d a) j g i

-- the column is one of the dictionary's
abbrev pub IsColumn : Dictionary → Entry → Type 0
IsColumn d e = e.column < length d.columns

-- the row is one of the dictionary's, and has a cell other than 0 in the column
abbrev pub HasCell : Dictionary → ℕ → ℕ → Type 0
HasCell d j i = (i < length d.rows) × (cell_at d i j ≢ pos 0)
