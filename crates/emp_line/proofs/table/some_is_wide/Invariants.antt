use Rattle.std.proofs.Common.{◌≡◌, drop}
use Rattle.emp_line.specs.Pivot.{pivoted_from}
use Rattle.emp_line.specs.Place.{is_none}
use Rattle.emp_line.proofs.table.some_is_wide.Given as goal

abbrev pub invariant-loop-at : goal.invariant-loop-at
invariant-loop-at l = is_none (pivoted_from l.at l.pivot l.row l.column (drop l.at l.lines)) ≡ is_none (pivoted_from 0 l.pivot l.row l.column l.lines)
