use Rattle.std.proofs.Common.{arith}
use Rattle.emp_line.proofs.Whole.{none_here}
use Rattle.emp_line.proofs.table.some_is_wide.Goals as goal

pub returns-then-numbered_is_wide : goal.returns-then-numbered_is_wide
returns-then-numbered_is_wide c = none_here c.loop-at.at c.args.pivot.now c.args.row c.args.column c.args.lines.now c.index-lines-at.result _ c.numbered_is_wide.result c.loop-at.invariant (omega arith) c.index-lines-at.is c.numbered_is_wide.ensures c.if-numbered_is_wide.true
