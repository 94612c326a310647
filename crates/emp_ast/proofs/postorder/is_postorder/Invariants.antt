use Rattle.std.proofs.Common.{◌≡◌, reverse, drop}
use Rattle.emp_ast.specs.Expression.{is_postorder_from, is_postorder}
use Rattle.emp_ast.proofs.postorder.is_postorder.Given as goal

abbrev pub invariant-loop-at : goal.invariant-loop-at
invariant-loop-at l = is_postorder_from (reverse l.roots.items) l.at (drop l.at l.nodes) ≡ is_postorder l.nodes
