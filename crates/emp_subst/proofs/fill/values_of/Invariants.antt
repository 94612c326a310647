use Rattle.emp_subst.proofs.Turning.{SoFar}
use Rattle.emp_subst.proofs.fill.values_of.Given as goal

abbrev pub invariant-loop-at : goal.invariant-loop-at
invariant-loop-at l = SoFar l.model l.annot l.problem l.values l.list l.at
