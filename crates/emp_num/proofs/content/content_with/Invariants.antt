use Rattle.std.proofs.Common.{◌≡◌, drop}
use Rattle.emp_num.specs.Gcd.{content_from}
use Rattle.emp_num.proofs.content.content_with.Given as goal

abbrev pub invariant-loop-i : goal.invariant-loop-i
invariant-loop-i l = content_from l.total (drop l.i l.row) ≡ content_from l.fn.start l.row
