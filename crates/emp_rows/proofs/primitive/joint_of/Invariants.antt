use Rattle.std.proofs.Common.{◌≡◌, pos, ◌<ℤ◌, drop}
use Rattle.emp_num.specs.Exact.{IsNarrow}
use Rattle.emp_rows.specs.Primitive.{joint_from}
use Rattle.emp_rows.proofs.primitive.joint_of.Given as goal

abbrev pub invariant-loop-at : goal.invariant-loop-at
invariant-loop-at l = record {
  rest : joint_from l.total (drop l.at l.cells) ≡ joint_from (pos 1) l.cells;
  positive : pos 0 <ℤ l.total;
  narrow : IsNarrow l.total;
}
