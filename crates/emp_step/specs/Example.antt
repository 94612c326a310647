-- A worked example: the quantity `-1 + x` of one base variable x.
use Rattle.std.specs.Prelude.{◌≡◌, ◌≢◌, pos, negsuc, [], ◌∷◌}
use Rattle.emp_dict.specs.declared.label.Label.TheVariants.{Base, Quantity}
use Rattle.emp_dict.specs.declared.label.Mark.{Mark}
use Rattle.emp_dict.specs.declared.label.Mark.TheVariants.{Unasked, Required, Fixed}
use Rattle.emp_dict.specs.Dictionary.{Dictionary}
use Rattle.emp_step.specs.declared.outcome.Outcome.TheVariants.{Held, Empty}
use Rattle.emp_step.specs.Steps.{ended, spent, stepped, raised, fixed}

abbrev pub before : Dictionary
before = record { lines = record { denom = pos 1; constant = negsuc 0; cells = pos 1 ∷ [] } ∷ []; rows = Quantity 1 ∷ []; columns = Base 1 ∷ []; marks = Unasked ∷ [] }

-- x = 1 + the quantity
abbrev pub exchanged_with : Mark → Dictionary
exchanged_with m = record { lines = record { denom = pos 1; constant = pos 1; cells = pos 1 ∷ [] } ∷ []; rows = Base 1 ∷ []; columns = Quantity 1 ∷ []; marks = m ∷ [] }

-- the quantity `-1` that no variable moves
abbrev pub stuck : Dictionary
stuck = record { lines = record { denom = pos 1; constant = negsuc 0; cells = pos 0 ∷ [] } ∷ []; rows = Quantity 1 ∷ []; columns = Base 1 ∷ []; marks = Unasked ∷ [] }

pub record ExampleSteps : Type 0 where
  -- one pivot makes it at least 0, or 0, and takes the one unit
  pub raises : raised 1 1 before ≡ stepped (ended Held) (exchanged_with Required) 0
  pub fixes : fixed 1 1 before ≡ stepped (ended Held) (exchanged_with Fixed) 0
  -- with no unit the step is spent, and nothing changes
  pub asks : raised 0 1 before ≡ stepped spent before 0
  -- what cannot be raised is told by its row, and takes no unit
  pub refuses : raised 1 1 stuck ≡ stepped (ended (Empty 0)) stuck 1
  -- it does not hold as it stands
  pub moves : (raised 1 1 before).dictionary ≢ before
