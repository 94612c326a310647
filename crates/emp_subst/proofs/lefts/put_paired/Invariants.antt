use Rattle.std.proofs.Common.{◌≡◌, ◌++◌, take, map}
use Rattle.emp_subst.proofs.lefts.put_paired.Given as goal

abbrev pub invariant-loop-at : goal.invariant-loop-at
invariant-loop-at l = l.list ≡ l.fn.list ++ map (λ q. q.1) (take l.at l.pairs)
