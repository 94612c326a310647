use Rattle.std.proofs.Common.{arith, ap, sym, ◌∙◌, length, take, ◌≤◌}
use Rattle.std.proofs.lemmas.List.{take_all}
use Rattle.emp_ast.specs.Expression.{expression_of}
use Rattle.emp_ast.specs.Occurrence.{leaves}
use Rattle.emp_owner.specs.NodeLeaves.{node_leaves}
use Rattle.emp_owner.proofs.NodeLeaves.{counted_as, tree_leaves}
use Rattle.emp_owner.proofs.leaves.count_tree.Goals as goal

pub returns : goal.returns
returns c =
    let t = c.args.tree.now in
    let i = c.loop-node.node-index in
    let past : length t.nodes ≤ i = omega (arith, ap length c.as_slice-node-items.ensures) in
    counted_as c.args.counts.now c.loop-node.counts (λ v. node_leaves v (take i t.nodes)) (λ v. leaves v (expression_of t.nodes)) c.loop-node.invariant (λ v. sym (ap (node_leaves v) (take_all i t.nodes past) ∙ tree_leaves v t))
