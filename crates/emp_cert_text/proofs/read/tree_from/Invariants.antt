use Rattle.std.proofs.Common.{◌≡◌, ◌++◌, ◌+◌, ◌-◌, ◌≤◌, ◌∷◌, ℕ, List, length, drop, All}
use Rattle.emp_cert.specs.Certs.{NodeFits}
use Rattle.emp_cert_text.specs.Text.{nodes_text}
use Rattle.emp_cert_text.specs.Course.{Part, head_of, trees_before}
use Rattle.emp_cert_text.specs.Course.Part.{tree}
use Rattle.emp_cert_text.specs.Reading.{IsAt}
use Rattle.emp_cert_text.proofs.Reading.{Completes}
use Rattle.emp_cert_text.proofs.read.tree_from.Given as goal

abbrev pub invariant-loop-awaited : goal.invariant-loop-awaited
invariant-loop-awaited l = record {
  text : drop l.fn.spot.at l.text ≡ nodes_text l.second l.nodes ++ drop l.here.at l.text;
  within : l.here.at ≤ length l.text;
  fits : All (NodeFits l.sizes.pairs l.sizes.quantities) l.nodes;
  trees : Completes l.awaited l.nodes;
  next : (b : ℕ) (ps : List Part) → IsAt l.text (tree (head_of l.second b l.sizes.quantities l.sizes.pairs) ∷ ps) l.fn.spot → IsAt l.text (trees_before l.awaited (head_of l.second b l.sizes.quantities l.sizes.pairs) ps) l.here;
  few : l.awaited ≤ l.here.at + 1;
}

abbrev pub decreases-loop-awaited : goal.decreases-loop-awaited
decreases-loop-awaited l = length l.text - l.here.at
