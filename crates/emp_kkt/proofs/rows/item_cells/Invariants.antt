use Rattle.emp_kkt.specs.Cells.{AreCells}
use Rattle.emp_kkt.proofs.rows.item_cells.Given as goal

abbrev pub invariant-loop-at : goal.invariant-loop-at
invariant-loop-at l = AreCells l.problem l.item l.at l.out
