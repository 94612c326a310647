use Rattle.std.proofs.Common.{◌≡◌, drop}
use Rattle.emp_cert.specs.Paths.{is_on}
use Rattle.emp_check.proofs.leaf.is_on.Given as goal

abbrev pub invariant-loop-at : goal.invariant-loop-at
invariant-loop-at l = is_on l.system (drop l.at l.trail) l.quantity ≡ is_on l.system l.trail l.quantity
