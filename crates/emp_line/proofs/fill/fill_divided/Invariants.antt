use Rattle.std.proofs.Common.{pos}
use Rattle.emp_line.specs.Sparse.{divided}
use Rattle.emp_line.proofs.Filling.{Mapped}
use Rattle.emp_line.proofs.fill.fill_divided.Given as goal

abbrev pub invariant-loop-at : goal.invariant-loop-at
invariant-loop-at l = Mapped (divided (pos l.divider.divisor)) l.fn.cells.width l.at l.from l.cells
