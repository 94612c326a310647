use Rattle.std.proofs.Common.{arith, ap, length, ◌∙◌}
use Rattle.emp_ast.specs.Expression.{expression_of}
use Rattle.emp_ast.specs.Occurrence.{is_summand}
use Rattle.emp_owner.proofs.NodeLeaves.{end_flags}
use Rattle.emp_owner.proofs.leaves.is_summand.Goals as goal

pub returns : goal.returns
returns c = c.is_only_true.ensures (is_summand c.args.w.at (expression_of c.args.tree.now.nodes)) (c.as_slice.ensures.value ∙ end_flags c.args.w.at c.args.tree.now c.loop-node.node-index c.loop-node.flags.items (omega (arith, ap length c.as_slice-node-items.ensures)) c.loop-node.invariant)
