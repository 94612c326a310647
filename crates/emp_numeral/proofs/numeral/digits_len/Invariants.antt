use Rattle.std.proofs.Common.{◌≡◌, ◌++◌, take, drop}
use Rattle.emp_numeral.specs.Numeral.{digits_of, after_digits}
use Rattle.emp_numeral.proofs.numeral.digits_len.Given as goal

abbrev pub invariant-loop-i : goal.invariant-loop-i
invariant-loop-i l = record {
  digits : digits_of l.text ≡ take l.i l.text ++ digits_of (drop l.i l.text);
  rest : after_digits l.text ≡ after_digits (drop l.i l.text);
}
