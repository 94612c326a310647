use Rattle.std.proofs.Common.{◌≡◌, ◌++◌, drop}
use Rattle.emp_line.proofs.table.copy_rows.Given as goal

abbrev pub invariant-loop-at : goal.invariant-loop-at
invariant-loop-at l = l.out ++ drop l.at l.lines ≡ l.lines
