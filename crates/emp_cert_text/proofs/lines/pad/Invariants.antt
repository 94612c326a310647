use Rattle.std.proofs.Common.{◌≡◌, ◌-◌, ◌≤◌, length}
use Rattle.std.specs.List.{All}
use Rattle.emp_num.specs.Exact.{IsNarrow}
use Rattle.emp_cert_text.specs.Text.{sparse}
use Rattle.emp_cert_text.proofs.lines.pad.Given as goal

abbrev pub invariant-loop-out : goal.invariant-loop-out
invariant-loop-out l = record {
  sparse : sparse 1 l.out ≡ sparse 1 l.fn.out;
  within : length l.out ≤ l.size;
  narrow : All IsNarrow l.fn.out → All IsNarrow l.out;
}

abbrev pub decreases-loop-out : goal.decreases-loop-out
decreases-loop-out l = l.size - length l.out
