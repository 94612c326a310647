use Rattle.std.proofs.Common.{◌≡◌, false}
use Rattle.emp_problem.specs.Class.{some_block_constrains}
use Rattle.emp_subst.proofs.quadratic.some_constrains.Given as goal

abbrev pub invariant-loop-at : goal.invariant-loop-at
invariant-loop-at l = some_block_constrains l.model l.annot l.e.at l.at ≡ false
