use Rattle.std.proofs.Common.{◌≡◌, ◌<◌, ◌^◌, drop}
use Rattle.emp_numeral.specs.Numeral.{value_from}
use Rattle.emp_numeral.proofs.numeral.digits_value.Given as goal

abbrev pub invariant-loop-i : goal.invariant-loop-i
invariant-loop-i l = record {
  below : l.n < 2 ^ 126;
  value : value_from l.n (drop l.i l.digits) ≡ value_from l.start l.digits;
}
