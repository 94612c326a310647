use Rattle.std.proofs.Common.{◌≡◌, ◌++◌, drop}
use Rattle.emp_cert_text.specs.Text.{nodes_text}
use Rattle.emp_cert_text.proofs.write.add_nodes.Given as goal

abbrev pub invariant-loop-at : goal.invariant-loop-at
invariant-loop-at l = l.out.items ++ nodes_text l.second (drop l.at l.nodes) ≡ l.fn.out.items ++ nodes_text l.second l.nodes
