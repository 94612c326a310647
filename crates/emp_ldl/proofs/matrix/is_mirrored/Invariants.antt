use Rattle.std.proofs.Common.{ℕ, ◌<◌}
use Rattle.emp_ldl.specs.Form.{Mirrors}
use Rattle.emp_ldl.proofs.matrix.is_mirrored.Given as goal

abbrev pub invariant-loop-k : goal.invariant-loop-k
invariant-loop-k l = (h : ℕ) → h < l.k → Mirrors l.side l.cells h h
