use Rattle.std.proofs.Common.{drop}
use Rattle.emp_kkt.specs.Cells.{Gives, ChargesGive}
use Rattle.emp_kkt.proofs.cells.charged.Given as goal

abbrev pub invariant-loop-k : goal.invariant-loop-k
invariant-loop-k l = (r : Gives) → ChargesGive l.problem l.block l.by.at l.at (drop l.k l.rules) l.cell r → ChargesGive l.problem l.block l.by.at l.at l.rules l.fn.start r
