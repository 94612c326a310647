use Rattle.std.proofs.Common.{◌≡◌, take}
use Rattle.emp_cert_text.proofs.words.is_less.Given as goal

abbrev pub invariant-loop-at : goal.invariant-loop-at
invariant-loop-at l = take l.at l.a ≡ take l.at l.b
