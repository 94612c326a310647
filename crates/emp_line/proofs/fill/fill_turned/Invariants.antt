use Rattle.emp_line.specs.Sparse.{turned_cell}
use Rattle.emp_line.proofs.Filling.{Mapped}
use Rattle.emp_line.proofs.fill.fill_turned.Given as goal

abbrev pub invariant-loop-at : goal.invariant-loop-at
invariant-loop-at l = Mapped (turned_cell l.turner.head l.turner.denom l.column) l.fn.cells.width l.at l.from l.cells
