use Rattle.std.proofs.Common.{◌≡◌, ◌++◌, drop}
use Rattle.emp_kkt.specs.Items.{leader_own_asked}
use Rattle.emp_kkt.proofs.asked.put_leader_own.Given as goal

abbrev pub invariant-loop-at : goal.invariant-loop-at
invariant-loop-at l = l.out ++ leader_own_asked l.problem (drop l.at l.own) ≡ l.fn.out ++ leader_own_asked l.problem l.own
