use Rattle.std.proofs.Common.{◌≡◌, ℕ, ◌<◌, ◌/◌, ◌%◌, length, slice_index_or}
use Rattle.emp_num.specs.Whole.{whole}
use Rattle.emp_share.specs.Share.{variable_at, IsSecond}
use Rattle.emp_share.proofs.share.cells_of.Given as goal

abbrev pub invariant-loop-k : goal.invariant-loop-k
invariant-loop-k l = (length l.cells ≡ l.k) × ((i : ℕ) → i < l.k → IsSecond l.quad (variable_at l.own (i / l.side)) (variable_at l.own (i % l.side)) (slice_index_or l.cells i (whole 0)))
