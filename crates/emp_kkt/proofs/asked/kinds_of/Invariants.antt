use Rattle.std.proofs.Common.{◌≡◌, ◌++◌, drop}
use Rattle.emp_kkt.specs.Items.{asked_kinds}
use Rattle.emp_kkt.proofs.asked.kinds_of.Given as goal

abbrev pub invariant-loop-at : goal.invariant-loop-at
invariant-loop-at l = l.out ++ asked_kinds (drop l.at l.asked) ≡ asked_kinds l.asked
