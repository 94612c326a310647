-- What the code of the steps keeps and gives.
use Rattle.std.specs.Prelude.{◌≡◌, ◌≢◌, ℕ, suc, Some, None, Result, Ok, Err}
use Rattle.emp_dict.specs.declared.label.Mark.TheVariants.{Unasked, Fixed}
use Rattle.emp_dict.specs.Dictionary.{Dictionary, exchanged, mark_at}
use Rattle.emp_step.specs.declared.outcome.StepFault.{StepFault}
use Rattle.emp_step.specs.declared.outcome.StepFault.TheVariants.{Wide, Spent}
use Rattle.emp_step.specs.Steps.{Look, over, turn, raise_look, fix_look, best_look}
use Rattle.emp_step.specs.Laws.{IsNumber, HasObjective}
use Rattle.emp_face.specs.declared.look.Next.{Next}
use Rattle.emp_face.specs.declared.look.Next.TheVariants.{Over, Turn}
use Rattle.emp_face.specs.declared.look.Task.{Task}
use Rattle.emp_face.specs.declared.look.Task.TheVariants.{Raise, Fix, Least}

abbrev pub look_of : Next → Look
look_of (Over o) = over o
look_of (Turn r j) = turn r j

-- the looks of a step
abbrev pub looks : Task → Dictionary → Look
looks (Raise k) d = raise_look k d
looks (Fix k) d = fix_look k d
looks Least d = best_look d

-- what a step has as its condition, but for the dictionary being level
abbrev pub TaskFits : Task → Dictionary → Type 0
TaskFits (Raise k) d = IsNumber d k × (mark_at d k ≡ Unasked)
TaskFits (Fix k) d = IsNumber d k × (mark_at d k ≢ Fixed)
TaskFits Least d = HasObjective d

-- what looking asks
abbrev pub CanLook : Task → Dictionary → Type 0
CanLook (Raise k) d = Unit {0}
CanLook (Fix k) d = Unit {0}
CanLook Least d = HasObjective d

-- one turn: a unit is taken, then the pivot is made. m units were left before, and n are after it
abbrev pub TurnGives : ℕ → ℕ → Dictionary → Dictionary → ℕ → ℕ → Result (Unit {0}) StepFault → Type 0
TurnGives r j d e m n (Ok u) = (exchanged d r j ≡ Some e) × (m ≡ suc n)
TurnGives r j d e m n (Err Wide) = (exchanged d r j ≡ None) × (e ≡ d) × (m ≡ suc n)
TurnGives r j d e m n (Err Spent) = (e ≡ d) × (m ≡ 0) × (n ≡ 0)
