use Rattle.std.proofs.Common.{◌+◌, ◌-◌, length}
use Rattle.emp_line.specs.Place.{factors_of}
use Rattle.emp_line.proofs.Filling.{Adding}
use Rattle.emp_line.proofs.fill.fill_sums.Given as goal

abbrev pub invariant-loop-own_at : goal.invariant-loop-own_at
invariant-loop-own_at l = Adding (factors_of l.multipliers) l.column l.fn.cells.width l.own_at l.other_at l.own l.other l.cells

abbrev pub decreases-loop-own_at : goal.decreases-loop-own_at
decreases-loop-own_at l = length l.own + length l.other - (l.own_at + l.other_at)
