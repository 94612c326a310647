use Rattle.std.proofs.Common.{◌≡◌, ◌+◌, ◌++◌, drop, length}
use Rattle.emp_kkt.specs.Items.{items_of, asked_pairs}
use Rattle.emp_kkt.proofs.asked.pairs_of.Given as goal

abbrev pub invariant-loop-at : goal.invariant-loop-at
invariant-loop-at l = record {
  pairs : l.pairing.pairs ++ asked_pairs l.pairing.before (drop l.at l.asked) ≡ asked_pairs 0 l.asked;
  before : l.pairing.before + length (items_of (drop l.at l.asked)) ≡ length (items_of l.asked);
}
