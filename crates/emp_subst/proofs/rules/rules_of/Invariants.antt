use Rattle.std.proofs.Common.{take}
use Rattle.emp_problem.specs.ProblemOf.{AreRulesFor}
use Rattle.emp_subst.proofs.rules.rules_of.Given as goal

abbrev pub invariant-loop-at : goal.invariant-loop-at
invariant-loop-at l = AreRulesFor l.model (take l.at l.equations) l.list
