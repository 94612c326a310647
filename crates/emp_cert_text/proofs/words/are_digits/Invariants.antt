use Rattle.std.proofs.Common.{◌≡◌, drop}
use Rattle.emp_cert_text.specs.Words.{are_digits}
use Rattle.emp_cert_text.proofs.words.are_digits.Given as goal

abbrev pub invariant-loop-at : goal.invariant-loop-at
invariant-loop-at l = are_digits (drop l.at l.word) ≡ are_digits l.word
