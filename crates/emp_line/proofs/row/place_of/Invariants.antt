use Rattle.std.proofs.Common.{◌-◌}
use Rattle.emp_line.proofs.Spread.{Between}
use Rattle.emp_line.proofs.row.place_of.Given as goal

abbrev pub invariant-loop-low : goal.invariant-loop-low
invariant-loop-low l = Between l.cells l.column l.low l.high

abbrev pub decreases-loop-low : goal.decreases-loop-low
decreases-loop-low l = l.high - l.low
