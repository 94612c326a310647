use Rattle.std.proofs.Common.{◌≡◌, ◌++◌, take}
use Rattle.emp_subst.proofs.rules.put_equations.Given as goal

abbrev pub invariant-loop-at : goal.invariant-loop-at
invariant-loop-at l = l.list ≡ l.fn.list ++ take l.at l.equs
