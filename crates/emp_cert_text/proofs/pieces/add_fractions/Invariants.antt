use Rattle.std.proofs.Common.{◌≡◌, ◌++◌, map, drop}
use Rattle.emp_numeral.specs.FracText.{fraction_text}
use Rattle.emp_cert_text.specs.Text.{spaced}
use Rattle.emp_cert_text.proofs.pieces.add_fractions.Given as goal

abbrev pub invariant-loop-at : goal.invariant-loop-at
invariant-loop-at l = l.out.items ++ spaced (map fraction_text (drop l.at l.values)) ≡ l.fn.out.items ++ spaced (map fraction_text l.values)
