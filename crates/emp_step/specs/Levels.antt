-- Level dictionaries: those between two steps.
use Rattle.std.specs.Prelude.{◌≡◌, ◌≢◌, ◌<◌, ◌≤ℤ◌, ℕ, pos, length}
use Rattle.emp_dict.specs.declared.label.Label.{Label}
use Rattle.emp_dict.specs.declared.label.Label.TheVariants.{Base, Quantity, Objective}
use Rattle.emp_dict.specs.declared.label.Mark.TheVariants.{Unasked, Required, Fixed}
use Rattle.emp_dict.specs.Dictionary.{Dictionary, line_at, cell_at, row_label, column_label, mark_at}
use Rattle.emp_step.specs.Steps.{mark_of_label}

-- a label that may have a column: a base variable, or a quantity that is Required or Fixed
abbrev pub MayBeColumn : Dictionary → Label → Type 0
MayBeColumn d (Base b) = Unit {0}
MayBeColumn d (Quantity k) = mark_at d k ≢ Unasked
MayBeColumn d Objective = ⊥

-- at the dictionary's point, where all columns are 0, each Required quantity is at least 0 and each Fixed one is 0; and a Fixed one that has a row
-- does not move with a column that is not Fixed
pub record IsLevel (d : Dictionary) : Type 0 where
  pub columns : (j : ℕ) → j < length d.columns → MayBeColumn d (column_label d j)
  pub required : (i k : ℕ) → i < length d.rows → row_label d i ≡ Quantity k → mark_at d k ≡ Required → pos 0 ≤ℤ (line_at d i).constant
  pub fixed : (i k : ℕ) → i < length d.rows → row_label d i ≡ Quantity k → mark_at d k ≡ Fixed → (line_at d i).constant ≡ pos 0
  pub still : (i k j : ℕ) → i < length d.rows → row_label d i ≡ Quantity k → mark_at d k ≡ Fixed → j < length d.columns → mark_of_label d (column_label d j) ≢ Fixed → cell_at d i j ≡ pos 0
