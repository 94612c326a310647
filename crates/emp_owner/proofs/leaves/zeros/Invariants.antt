use Rattle.emp_owner.specs.NodeLeaves.{AreCounts}
use Rattle.std.specs.Prelude.{[]}
use Rattle.emp_owner.proofs.leaves.zeros.Given as goal

abbrev pub invariant-loop-i : goal.invariant-loop-i
invariant-loop-i l = AreCounts l.i [] l.list
