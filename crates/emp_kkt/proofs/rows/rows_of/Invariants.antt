use Rattle.std.proofs.Common.{take}
use Rattle.emp_kkt.specs.Making.{AreRows}
use Rattle.emp_kkt.proofs.rows.rows_of.Given as goal

abbrev pub invariant-loop-at : goal.invariant-loop-at
invariant-loop-at l = AreRows l.problem l.base (take l.at l.items) l.out
