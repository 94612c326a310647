use Rattle.std.specs.Prelude.{take, length}
use Rattle.emp_owner.specs.NodeLeaves.{AreCounts}
use Rattle.emp_owner.proofs.leaves.count_leaves.Given as goal

abbrev pub invariant-loop-equation : goal.invariant-loop-equation
invariant-loop-equation l = AreCounts (length l.model.variables) (take l.equation-index l.model.equations) l.counts
