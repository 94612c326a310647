use Rattle.std.proofs.Common.{◌≡◌, pos, replicate}
use Rattle.emp_decide.proofs.row.zeros.Given as goal

abbrev pub invariant-loop-at : goal.invariant-loop-at
invariant-loop-at l = l.out ≡ replicate l.at (pos 0)
