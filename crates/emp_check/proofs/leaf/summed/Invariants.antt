use Rattle.std.proofs.Common.{◌≡◌, drop}
use Rattle.emp_check.specs.Tests.{summed}
use Rattle.emp_check.proofs.leaf.summed.Given as goal

abbrev pub invariant-loop-at : goal.invariant-loop-at
invariant-loop-at l = summed l.minus l.place l.total (drop l.at l.factors) (drop l.at l.system.quantities) ≡ summed l.minus l.place l.fn.start l.factors l.system.quantities
