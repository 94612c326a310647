use Rattle.std.proofs.Common.{◌≡◌, ◌++◌, map, drop}
use Rattle.std.specs.Fmt.{signed_decimal}
use Rattle.emp_cert_text.specs.Text.{spaced}
use Rattle.emp_cert_text.proofs.pieces.add_numbers.Given as goal

abbrev pub invariant-loop-at : goal.invariant-loop-at
invariant-loop-at l = l.out.items ++ spaced (map signed_decimal (drop l.at l.numbers)) ≡ l.fn.out.items ++ spaced (map signed_decimal l.numbers)
