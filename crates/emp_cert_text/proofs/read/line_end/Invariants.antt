use Rattle.std.proofs.Common.{◌≡◌, ◌++◌, ◌-◌, take, drop}
use Rattle.std.specs.Io.BufRead.{take_through, drop_through}
use Rattle.emp_cert_text.proofs.read.line_end.Given as goal

abbrev pub invariant-loop-at : goal.invariant-loop-at
invariant-loop-at l = record {
  line : take_through 10 (drop l.from l.text) ≡ take (l.at - l.from) (drop l.from l.text) ++ take_through 10 (drop (l.at - l.from) (drop l.from l.text));
  rest : drop_through 10 (drop l.from l.text) ≡ drop_through 10 (drop (l.at - l.from) (drop l.from l.text));
}
