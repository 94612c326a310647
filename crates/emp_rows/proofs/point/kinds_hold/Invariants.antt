use Rattle.std.proofs.Common.{◌≡◌, drop}
use Rattle.emp_rows.specs.Values.{kinds_hold}
use Rattle.emp_rows.proofs.point.kinds_hold.Given as goal

abbrev pub invariant-loop-at : goal.invariant-loop-at
invariant-loop-at l = kinds_hold l.rate (drop l.at l.system.quantities) (drop l.at l.system.kinds) l.point ≡ kinds_hold l.rate l.system.quantities l.system.kinds l.point
