use Rattle.std.proofs.Common.{◌≡◌, pos, take}
use Rattle.emp_algebra.specs.Vector.{quotients}
use Rattle.emp_rows.proofs.reduce.quotients.Given as goal

abbrev pub invariant-loop-k : goal.invariant-loop-k
invariant-loop-k l = l.out ≡ quotients (take l.k l.row) (pos l.divisor)
