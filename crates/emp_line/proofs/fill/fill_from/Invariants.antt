use Rattle.emp_line.proofs.Filling.{Spreading}
use Rattle.emp_line.proofs.fill.fill_from.Given as goal

abbrev pub invariant-loop-column : goal.invariant-loop-column
invariant-loop-column l = Spreading l.column l.fn.cells.width l.numbers l.cells
