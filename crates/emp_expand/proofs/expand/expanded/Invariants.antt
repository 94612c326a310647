use Rattle.std.proofs.Common.{reverse}
use Rattle.emp_expand.proofs.Stacks.{Expanded}
use Rattle.emp_expand.proofs.expand.expanded.Given as goal

abbrev pub invariant-loop-at : goal.invariant-loop-at
invariant-loop-at l = Expanded (reverse l.stack.items) l.nodes l.at
