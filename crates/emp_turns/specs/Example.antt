-- A worked example: `v = -1 + w` is raised by one exchange to `w = 1 + v`. The base variable w has the label 0, the quantity v the label 1.
use Rattle.std.specs.Prelude.{ℕ, zero, suc, pos, negsuc, true}
use Rattle.emp_turns.specs.Table.{Table}
use Rattle.emp_turns.specs.Choice.{Mark, Free, Unasked, Up, Aim, Step, IsLevel}
use Rattle.emp_turns.specs.Layout.{Layout, table_of}

abbrev pub before : Layout
before = record { rows = 1; columns = 1; row_label = λ i. 1; column_label = λ j. 0; denom = λ i. pos 1; constant = λ i. negsuc 0; cell = λ i j. pos 1 }

abbrev pub turned : Layout
turned = record { rows = 1; columns = 1; row_label = λ i. 0; column_label = λ j. 1; denom = λ i. pos 1; constant = λ i. pos 1; cell = λ i j. pos 1 }

abbrev pub mark : ℕ → Mark
mark zero = Free
mark (suc v) = Unasked

abbrev pub aim : Aim
aim = record { row = 1; way = Up; stops = true }

-- the exchange is a turn of the loop, and from where it ends there is no other
pub record ExampleTurns : Type 0 where
  pub level : IsLevel 2 2 mark aim (table_of before)
  pub turn : Step 2 mark aim (table_of before) (table_of turned)
  pub over : (u : Table) → Step 2 mark aim (table_of turned) u → ⊥
