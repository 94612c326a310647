use Rattle.std.proofs.Common.{◌≡◌, ◌<◌, ◌^◌, ◌*◌}
use Rattle.emp_numeral.proofs.numeral.scaled.Given as goal

abbrev pub invariant-loop-left : goal.invariant-loop-left
invariant-loop-left l = record {
  below : l.v < 2 ^ 126;
  value : l.v * 10 ^ l.left ≡ l.m * 10 ^ l.n;
}

abbrev pub decreases-loop-left : goal.decreases-loop-left
decreases-loop-left l = l.left
