use Rattle.std.proofs.Common.{◌≡◌, ◌++◌, drop}
use Rattle.emp_kkt.specs.Items.{own_asked}
use Rattle.emp_kkt.proofs.asked.put_own.Given as goal

abbrev pub invariant-loop-at : goal.invariant-loop-at
invariant-loop-at l = l.out ++ own_asked l.problem l.block l.at (drop l.at l.part.own) ≡ l.fn.out ++ own_asked l.problem l.block 0 l.part.own
