use Rattle.std.proofs.Common.{◌≡◌, ◌++◌, drop}
use Rattle.emp_kkt.specs.Items.{leader_rules_asked}
use Rattle.emp_kkt.proofs.asked.put_leader_rules.Given as goal

abbrev pub invariant-loop-at : goal.invariant-loop-at
invariant-loop-at l = l.out ++ leader_rules_asked l.at (drop l.at l.rules) ≡ l.fn.out ++ leader_rules_asked 0 l.rules
