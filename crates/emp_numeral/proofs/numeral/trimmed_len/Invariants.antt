use Rattle.std.proofs.Common.{◌≡◌, ◌≤◌, length, take}
use Rattle.emp_numeral.specs.Numeral.{trimmed}
use Rattle.emp_numeral.proofs.numeral.trimmed_len.Given as goal

abbrev pub invariant-loop-n : goal.invariant-loop-n
invariant-loop-n l = record {
  within : l.n ≤ length l.digits;
  kept : trimmed (take l.n l.digits) ≡ trimmed l.digits;
}

abbrev pub decreases-loop-n : goal.decreases-loop-n
decreases-loop-n l = l.n
