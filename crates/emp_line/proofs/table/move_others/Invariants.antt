use Rattle.emp_line.proofs.Tables.{Moving}
use Rattle.emp_line.proofs.table.move_others.Given as goal

abbrev pub invariant-loop-at : goal.invariant-loop-at
invariant-loop-at l = Moving l.pivot l.row l.column l.at l.fn.lines l.lines l.index l.spare
