use Rattle.std.proofs.Common.{◌≡◌, ◌-◌}
use Rattle.emp_check.specs.Tests.{columns_test}
use Rattle.emp_check.proofs.leaf.columns_test.Given as goal

abbrev pub invariant-loop-at : goal.invariant-loop-at
invariant-loop-at l = columns_test l.system l.weight l.factors l.at (l.system.base - l.at) ≡ columns_test l.system l.weight l.factors 0 l.system.base
