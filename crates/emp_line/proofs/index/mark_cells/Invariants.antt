use Rattle.std.proofs.Common.{take}
use Rattle.emp_line.specs.Place.{MarksCells}
use Rattle.emp_line.proofs.index.mark_cells.Given as goal

abbrev pub invariant-loop-at : goal.invariant-loop-at
invariant-loop-at l = MarksCells (take l.at l.cells) l.line l.value l.fn.index l.index
