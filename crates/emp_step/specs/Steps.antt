-- The steps: a quantity is made at least 0, a quantity is made 0, the objective is made least.
-- A step looks at the dictionary, makes the pivot that the look names, and looks again until it is over. Each pivot takes one unit of work, and
-- where none is left the step is spent.
use Rattle.std.specs.Prelude.{◌≡◌, ℕ, zero, suc, ℤ, pos, negsuc, Bool, true, false, cond, ◌&&◌, not, nat_lt, length, Option, Some, None, Result, Ok, Err}
use Rattle.emp_algebra.specs.Vector.{is_zero}
use Rattle.emp_dict.specs.declared.label.Label.{Label}
use Rattle.emp_dict.specs.declared.label.Label.TheVariants.{Base, Quantity, Objective}
use Rattle.emp_dict.specs.declared.label.Mark.{Mark}
use Rattle.emp_dict.specs.declared.label.Mark.TheVariants.{Unasked, Required, Fixed}
use Rattle.emp_dict.specs.declared.label.Aim.TheVariants.{Up, Down, Least}
use Rattle.emp_dict.specs.declared.label.Choice.{Choice}
use Rattle.emp_dict.specs.declared.label.Choice.TheVariants.{Stop, Exchange, Ray as RayChoice}
use Rattle.emp_dict.specs.Dictionary.{Dictionary, line_at, cell_at, column_label, mark_at, row_of, exchanged, marked}
use Rattle.emp_dict.specs.Chosen.{chosen, index_in}
use Rattle.emp_step.specs.declared.outcome.Outcome.{Outcome}
use Rattle.emp_step.specs.declared.outcome.Outcome.TheVariants.{Held, Empty, Best, Ray}
use Rattle.emp_step.specs.declared.outcome.StepFault.{StepFault}
use Rattle.emp_step.specs.declared.outcome.StepFault.TheVariants.{Wide, Spent}

-- what a look says: the step is over, or the pivot on a row and a column is next
pub data Look : Type 0 where
  over : Outcome → Look
  turn : ℕ → ℕ → Look

-- how a step ends: with an outcome, at a pivot that is wide, or at a pivot for which no unit is left
pub data End : Type 0 where
  ended : Outcome → End
  too_wide : End
  spent : End

-- how it ended, with the dictionary as the last pivot left it and the units that are left
pub record Stepped : Type 0 where
  pub end : End
  pub dictionary : Dictionary
  pub left : ℕ

abbrev pub stepped : End → Dictionary → ℕ → Stepped
stepped e d left = record { end = e; dictionary = d; left = left }

-- where no unit is left
abbrev pub with_none : Dictionary → Look → Stepped
with_none d (over o) = stepped (ended o) d 0
with_none d (turn r j) = stepped spent d 0

-- the pivot is wide, or the rest of the step goes on from where it leads
abbrev pub by_pivot : (Dictionary → Stepped) → ℕ → Dictionary → Option Dictionary → Stepped
by_pivot rest left d None = stepped too_wide d left
by_pivot rest left d (Some e) = rest e

-- where a unit is left, and `left` more
abbrev pub with_more : (Dictionary → Stepped) → ℕ → Dictionary → Look → Stepped
with_more rest left d (over o) = stepped (ended o) d (suc left)
with_more rest left d (turn r j) = by_pivot rest left d (exchanged d r j)

-- the step whose looks are these, with so many units left
abbrev pub repeated : (Dictionary → Look) → ℕ → Dictionary → Stepped
repeated look zero d = with_none d (look d)
repeated look (suc left) d = with_more (repeated look left) left d (look d)

-- ---- looks
-- the chosen pivot is next; where nothing can be chosen the row has no better value
abbrev pub by_choice : ℕ → Choice → Look
by_choice r Stop = over (Empty r)
by_choice r (Exchange i j) = turn i j
by_choice r (RayChoice j up) = over (Ray j up)

-- a row whose value is negative is raised
abbrev pub raise_row : Dictionary → ℕ → ℤ → Look
raise_row d r (pos c) = over Held
raise_row d r (negsuc c) = by_choice r (chosen d (Up r))

abbrev pub raise_place : Dictionary → Option ℕ → Look
raise_place d None = over Held
raise_place d (Some r) = raise_row d r (line_at d r).constant

abbrev pub raise_look : ℕ → Dictionary → Look
raise_look k d = raise_place d (row_of d (Quantity k))

abbrev pub mark_of_label : Dictionary → Label → Mark
mark_of_label d (Base b) = Unasked
mark_of_label d (Quantity k) = mark_at d k
mark_of_label d Objective = Unasked

abbrev pub is_fixed : Mark → Bool
is_fixed Unasked = false
is_fixed Required = false
is_fixed Fixed = true

-- the column is not Fixed, and the row has a cell there
abbrev pub is_loose : Dictionary → ℕ → ℕ → Bool
is_loose d r j = not (is_fixed (mark_of_label d (column_label d j))) && not (is_zero (cell_at d r j))

-- of two columns the one of lesser index
abbrev pub lesser : Dictionary → ℕ → Bool → Option ℕ → Option ℕ
lesser d j false best = best
lesser d j true None = Some j
lesser d j true (Some b) = cond (nat_lt (index_in d (column_label d j)) (index_in d (column_label d b))) (Some j) (Some b)

-- of the first m columns the loose one of least index
abbrev pub first_loose : Dictionary → ℕ → ℕ → Option ℕ
first_loose d r zero = None
first_loose d r (suc m) = lesser d m (is_loose d r m) (first_loose d r m)

-- a row whose value is 0 leaves by one more pivot, where there is one
abbrev pub leave_row : ℕ → Option ℕ → Look
leave_row r None = over Held
leave_row r (Some j) = turn r j

-- a row is moved towards 0
abbrev pub fix_row : Dictionary → ℕ → ℤ → Look
fix_row d r (pos zero) = leave_row r (first_loose d r (length d.columns))
fix_row d r (pos (suc c)) = by_choice r (chosen d (Down r))
fix_row d r (negsuc c) = by_choice r (chosen d (Up r))

abbrev pub fix_place : Dictionary → Option ℕ → Look
fix_place d None = over Held
fix_place d (Some r) = fix_row d r (line_at d r).constant

abbrev pub fix_look : ℕ → Dictionary → Look
fix_look k d = fix_place d (row_of d (Quantity k))

-- the objective's row is the last
abbrev pub by_least : Dictionary → Choice → Look
by_least d Stop = over (Best (length d.marks))
by_least d (Exchange i j) = turn i j
by_least d (RayChoice j up) = over (Ray j up)

abbrev pub best_look : Dictionary → Look
best_look d = by_least d (chosen d Least)

-- ---- the steps
abbrev pub mark_by : End → ℕ → Mark → Dictionary → Dictionary
mark_by (ended Held) k m d = marked d k m
mark_by (ended (Empty r)) k m d = d
mark_by (ended (Best r)) k m d = d
mark_by (ended (Ray j up)) k m d = d
mark_by too_wide k m d = d
mark_by spent k m d = d

-- the quantity has the mark where the step holds
abbrev pub with_mark : ℕ → Mark → Stepped → Stepped
with_mark k m s = stepped s.end (mark_by s.end k m s.dictionary) s.left

-- quantity k is made at least 0
abbrev pub raised : ℕ → ℕ → Dictionary → Stepped
raised left k d = with_mark k Required (repeated (raise_look k) left d)

-- quantity k is made 0
abbrev pub fixed : ℕ → ℕ → Dictionary → Stepped
fixed left k d = with_mark k Fixed (repeated (fix_look k) left d)

-- the objective is made least
abbrev pub bested : ℕ → Dictionary → Stepped
bested left d = repeated best_look left d

-- ---- what a call answers for a step
abbrev pub StepGives : Stepped → Dictionary → ℕ → Result Outcome StepFault → Type 0
StepGives s d left (Ok o) = s ≡ stepped (ended o) d left
StepGives s d left (Err Wide) = s ≡ stepped too_wide d left
StepGives s d left (Err Spent) = s ≡ stepped spent d left
