use Rattle.std.proofs.Common.{◌≡◌, drop}
use Rattle.emp_rows.specs.Values.{pairs_hold}
use Rattle.emp_rows.proofs.point.pairs_hold.Given as goal

abbrev pub invariant-loop-at : goal.invariant-loop-at
invariant-loop-at l = pairs_hold l.system l.point (drop l.at l.system.pairs) ≡ pairs_hold l.system l.point l.system.pairs
