use Rattle.std.proofs.Common.{◌≡◌, ◌++◌, take}
use Rattle.emp_subst.proofs.lefts.put_variables.Given as goal

abbrev pub invariant-loop-at : goal.invariant-loop-at
invariant-loop-at l = l.list ≡ l.fn.list ++ take l.at l.vars
