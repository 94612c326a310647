use Rattle.std.proofs.Common.{take}
use Rattle.emp_expand.specs.Joins.{WithPairs}
use Rattle.emp_expand.proofs.products.with_pairs.Given as goal

abbrev pub invariant-loop-at : goal.invariant-loop-at
invariant-loop-at l = WithPairs (take l.at l.firsts) l.others l.fn.out.items l.out.items
