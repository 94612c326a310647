use Rattle.std.proofs.Common.{◌≡◌, ℕ, ◌<◌, length, slice_index_or}
use Rattle.emp_num.specs.Whole.{whole}
use Rattle.emp_share.specs.Share.{variable_at}
use Rattle.emp_share.specs.Steps.{IsDoubleOf}
use Rattle.emp_share.proofs.share.doubles.Given as goal

abbrev pub invariant-loop-at : goal.invariant-loop-at
invariant-loop-at l = (length l.list ≡ l.at) × ((i : ℕ) → i < l.at → IsDoubleOf l.quad (variable_at l.own i) (slice_index_or l.list i (whole 0)))
