use Rattle.std.proofs.Common.{◌≡◌, ◌++◌, ◌+◌, drop}
use Rattle.emp_cert_text.specs.Text.{spaced, sparse}
use Rattle.emp_cert_text.proofs.pieces.add_sparse.Given as goal

abbrev pub invariant-loop-at : goal.invariant-loop-at
invariant-loop-at l = l.out.items ++ spaced (sparse (l.at + 1) (drop l.at l.numbers)) ≡ l.fn.out.items ++ spaced (sparse 1 l.numbers)
