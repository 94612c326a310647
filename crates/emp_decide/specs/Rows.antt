-- What the code that reads rows keeps.
use Rattle.std.specs.Prelude.{ℕ, ◌<◌, ◌≤◌}
use Rattle.emp_dict.specs.declared.label.Label.{Label}
use Rattle.emp_dict.specs.declared.label.Label.TheVariants.{Base, Quantity, Objective}

-- a list of so many places has one for the label, where it is that of a quantity
abbrev pub HasPlace : ℕ → Label → Type 0
HasPlace n (Base b) = Unit {0}
HasPlace n (Quantity k) = (0 < k) × (k ≤ n)
HasPlace n Objective = Unit {0}
