use Rattle.std.proofs.Common.{◌≡◌, ◌++◌, drop}
use Rattle.emp_kkt.specs.Items.{items_of}
use Rattle.emp_kkt.proofs.asked.items_of.Given as goal

abbrev pub invariant-loop-at : goal.invariant-loop-at
invariant-loop-at l = l.out ++ items_of (drop l.at l.asked) ≡ items_of l.asked
