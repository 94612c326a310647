use Rattle.std.proofs.Common.{arith}
use Rattle.emp_line.proofs.Filling.{spreading_next}
use Rattle.emp_line.proofs.fill.fill_from.Goals as goal

pub loop-column-preserved : goal.loop-column-preserved
loop-column-preserved c = spreading_next c.loop-column.column c.args.cells.now.width c.args.numbers.now c.loop-column.cells c.keep.new.cells c.cell_of.result c.loop-column.invariant (omega arith) c.cell_of.ensures c.keep.ensures
