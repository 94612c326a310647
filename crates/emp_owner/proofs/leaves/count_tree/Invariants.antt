use Rattle.std.specs.Prelude.{take}
use Rattle.emp_owner.specs.NodeLeaves.{HasCounted, node_leaves}
use Rattle.emp_owner.proofs.leaves.count_tree.Given as goal

abbrev pub invariant-loop-node : goal.invariant-loop-node
invariant-loop-node l = HasCounted l.initial.counts l.counts (λ v. node_leaves v (take l.node-index l.tree.nodes))
