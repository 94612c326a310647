use Rattle.std.proofs.Common.{◌≡◌, drop}
use Rattle.emp_rows.specs.Values.{ratio_of, valued}
use Rattle.emp_rows.proofs.point.valued.Given as goal

abbrev pub invariant-loop-at : goal.invariant-loop-at
invariant-loop-at l = valued (ratio_of l.total) (drop l.at l.cells) (drop l.at l.point) ≡ valued (ratio_of l.fn.start) l.cells l.point
