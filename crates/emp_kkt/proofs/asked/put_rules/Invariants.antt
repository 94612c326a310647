use Rattle.std.proofs.Common.{◌≡◌, ◌++◌, drop}
use Rattle.emp_kkt.specs.Items.{rules_asked}
use Rattle.emp_kkt.proofs.asked.put_rules.Given as goal

abbrev pub invariant-loop-at : goal.invariant-loop-at
invariant-loop-at l = l.out ++ rules_asked l.problem l.block l.at (drop l.at l.part.rules) ≡ l.fn.out ++ rules_asked l.problem l.block 0 l.part.rules
