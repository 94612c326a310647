use Rattle.std.proofs.Common.{◌≡◌, ◌≤◌, ◌++◌, drop}
use Rattle.emp_subst.specs.Fill.{spread_from, spread}
use Rattle.emp_subst.proofs.fill.spread.Given as goal

abbrev pub invariant-loop-at : goal.invariant-loop-at
invariant-loop-at l = (l.list ++ spread_from l.model l.annot l.values l.at l.next (drop l.at l.model.variables) ≡ spread l.model l.annot l.values) × (l.next ≤ l.at)
