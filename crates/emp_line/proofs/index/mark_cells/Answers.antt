use Rattle.std.proofs.Common.{arith}
use Rattle.emp_line.proofs.Marks.{marks_step}
use Rattle.emp_line.proofs.index.mark_cells.Goals as goal

pub loop-at-preserved : goal.loop-at-preserved
loop-at-preserved c = marks_step c.args.cells.now c.args.line c.loop-at.at c.args.value c.args.index.now c.loop-at.index c.set_flag.new.index c.loop-at.invariant (omega arith) c.requires.columns c.requires.places c.set_flag.ensures
