use Rattle.std.proofs.Common.{take}
use Rattle.emp_expand.specs.Joins.{WithEach}
use Rattle.emp_expand.proofs.products.with_each.Given as goal

abbrev pub invariant-loop-at : goal.invariant-loop-at
invariant-loop-at l = WithEach l.first (take l.at l.others) l.fn.out.items l.out.items
