-- How the counts of faults change in a call.
use Rattle.std.specs.Prelude.{◌≡◌, ℕ, ◌+◌}
use Rattle.emp_desk.specs.Desk.{Place, OnlyAt}

-- no count changed
abbrev pub HasSameCounts : (Place → ℕ) → (Place → ℕ) → Type 0
HasSameCounts before after = (place : Place) → after place ≡ before place

-- one more call failed at the place, and no other count changed
pub record HasOneMoreAt (place : Place) (before after : Place → ℕ) : Type 0 where
  pub here : after place ≡ before place + 1
  pub others : OnlyAt place before after
