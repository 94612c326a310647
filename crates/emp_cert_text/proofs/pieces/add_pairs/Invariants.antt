use Rattle.std.proofs.Common.{◌≡◌, ◌++◌, drop}
use Rattle.emp_cert_text.specs.Text.{pairs_text}
use Rattle.emp_cert_text.proofs.pieces.add_pairs.Given as goal

abbrev pub invariant-loop-at : goal.invariant-loop-at
invariant-loop-at l = l.out.items ++ pairs_text (drop l.at l.pairs) ≡ l.fn.out.items ++ pairs_text l.pairs
