use Rattle.std.proofs.Common.{ℕ, ◌<◌, get_or}
use Rattle.emp_line.specs.Sparse.{no_cell}
use Rattle.emp_line.specs.Place.{IsSmall}
use Rattle.emp_line.proofs.step.are_small.Given as goal

abbrev pub invariant-loop-k : goal.invariant-loop-k
invariant-loop-k l = (i : ℕ) → i < l.k → IsSmall (get_or l.cells i no_cell).number
