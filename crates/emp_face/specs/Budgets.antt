-- Units of work.
use Rattle.std.specs.Prelude.{◌≡◌, ◌≢◌, ℕ, ◌+◌, ◌-◌, Result, Ok, Err}
use Rattle.emp_face.specs.declared.budget.Budget.{Budget}
use Rattle.emp_face.specs.declared.budget.Spent.{Spent}

-- how many units may still be taken
abbrev pub units_left : Budget → ℕ
units_left b = b.limit - b.used

-- one more is used, or all were
abbrev pub TakeGives : Budget → Budget → Result (Unit {0}) Spent → Type 0
TakeGives old new (Ok u) = (old.used ≢ old.limit) × (new.used ≡ old.used + 1) × (new.limit ≡ old.limit)
TakeGives old new (Err e) = (old.used ≡ old.limit) × (new.used ≡ old.used) × (new.limit ≡ old.limit)
