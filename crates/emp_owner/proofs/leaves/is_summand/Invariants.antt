use Rattle.std.specs.Prelude.{◌≡◌, take, reverse}
use Rattle.emp_owner.specs.NodeLeaves.{all_flags}
use Rattle.emp_owner.proofs.leaves.is_summand.Given as goal

abbrev pub invariant-loop-node : goal.invariant-loop-node
invariant-loop-node l = reverse l.flags.items ≡ all_flags l.w.at (take l.node-index l.tree.nodes)
