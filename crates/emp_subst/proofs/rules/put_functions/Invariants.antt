use Rattle.std.proofs.Common.{◌≡◌, ◌++◌, take, map}
use Rattle.emp_subst.proofs.rules.put_functions.Given as goal

abbrev pub invariant-loop-at : goal.invariant-loop-at
invariant-loop-at l = l.list ≡ l.fn.list ++ map (λ q. q.0) (take l.at l.pairs)
