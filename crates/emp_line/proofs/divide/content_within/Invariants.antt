use Rattle.std.proofs.Common.{◌≡◌, drop}
use Rattle.emp_num.specs.Gcd.{content_from}
use Rattle.emp_line.specs.Sparse.{numbers}
use Rattle.emp_line.proofs.divide.content_within.Given as goal

abbrev pub invariant-loop-k : goal.invariant-loop-k
invariant-loop-k l = content_from l.divider.divisor (numbers (drop l.k l.row)) ≡ content_from l.fn.start (numbers l.row)
