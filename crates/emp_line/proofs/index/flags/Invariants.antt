use Rattle.std.proofs.Common.{◌≡◌, false, replicate}
use Rattle.emp_line.proofs.index.flags.Given as goal

abbrev pub invariant-loop-at : goal.invariant-loop-at
invariant-loop-at l = l.out ≡ replicate l.at false
