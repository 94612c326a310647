use Rattle.std.proofs.Common.{◌≡◌, ◌++◌, drop}
use Rattle.emp_rows.proofs.system.copy_all.Given as goal

abbrev pub invariant-loop-at : goal.invariant-loop-at
invariant-loop-at l = l.out ++ drop l.at l.rows ≡ l.rows
