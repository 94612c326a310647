use Rattle.emp_subst.proofs.Expanding.{SoFar}
use Rattle.emp_subst.proofs.expand.differences.Given as goal

abbrev pub invariant-loop-at : goal.invariant-loop-at
invariant-loop-at l = SoFar l.model l.list l.at
