use Rattle.std.proofs.Common.{◌≡◌, drop, length}
use Rattle.std.specs.List.{All}
use Rattle.emp_num.specs.Exact.{IsNarrow}
use Rattle.emp_rows.specs.Primitive.{numerators}
use Rattle.emp_rows.proofs.Joint.{prefixed}
use Rattle.emp_rows.proofs.primitive.numerators.Given as goal

abbrev pub invariant-loop-at : goal.invariant-loop-at
invariant-loop-at l = record {
  rest : prefixed l.out (numerators l.common (drop l.at l.cells)) ≡ numerators l.common l.cells;
  narrow : All IsNarrow l.out;
  count : length l.out ≡ l.at;
}
