use Rattle.emp_subst.specs.Subst.{LinearBefore}
use Rattle.emp_subst.proofs.quadratic.first_quadratic.Given as goal

abbrev pub invariant-loop-at : goal.invariant-loop-at
invariant-loop-at l = LinearBefore l.model l.annot l.at
