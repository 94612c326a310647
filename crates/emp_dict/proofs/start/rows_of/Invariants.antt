use Rattle.std.proofs.Common.{◌≡◌, ◌++◌, map, drop}
use Rattle.emp_dict.specs.Dictionary.{line_of}
use Rattle.emp_dict.proofs.start.rows_of.Given as goal

abbrev pub invariant-loop-at : goal.invariant-loop-at
invariant-loop-at l = l.out ++ map line_of (drop l.at l.rows) ≡ map line_of l.rows
