use Rattle.emp_line.proofs.Tables.{Indexing}
use Rattle.emp_line.proofs.table.index_of.Given as goal

abbrev pub invariant-loop-at : goal.invariant-loop-at
invariant-loop-at l = Indexing l.width l.at l.lines l.index
