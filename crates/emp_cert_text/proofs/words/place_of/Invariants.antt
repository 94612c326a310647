use Rattle.std.proofs.Common.{◌≡◌, true, take}
use Rattle.emp_cert_text.specs.Words.{lacks}
use Rattle.emp_cert_text.proofs.words.place_of.Given as goal

abbrev pub invariant-loop-at : goal.invariant-loop-at
invariant-loop-at l = lacks l.byte (take l.at l.word) ≡ true
