use Rattle.std.proofs.Common.{◌≡◌, take, map}
use Rattle.emp_problem.specs.Left.{left_from}
use Rattle.emp_problem.specs.ProblemOf.{left_variable}
use Rattle.emp_subst.proofs.lefts.left_variables.Given as goal

abbrev pub invariant-loop-at : goal.invariant-loop-at
invariant-loop-at l = l.list ≡ map (left_variable l.model) (left_from l.model l.annot 0 (take l.at l.model.variables))
