use Rattle.std.proofs.Common.{◌≡◌, ◌+◌, drop}
use Rattle.emp_check.specs.Tests.{factors_test}
use Rattle.emp_check.proofs.leaf.factors_test.Given as goal

abbrev pub invariant-loop-at : goal.invariant-loop-at
invariant-loop-at l = factors_test l.system l.trail (l.at + 1) (drop l.at l.system.kinds) (drop l.at l.factors) ≡ factors_test l.system l.trail 1 l.system.kinds l.factors
