-- The pass over the nodes.
use Rattle.std.proofs.Common.{◌≡◌, ℕ, ◌+◌, ◌<◌, ◌≤◌, List, length, get_or, drop, Option, Some, All, refl, sym, ap, ◌∙◌, subst}
use Rattle.std.proofs.lemmas.List.{drop_more, drop_all}
use Rattle.emp_rows.specs.declared.system.RowSystem.{RowSystem}
use Rattle.emp_check.specs.Levels.{Level}
use Rattle.emp_cert.specs.declared.tree.Turn.{Turn}
use Rattle.emp_cert.specs.declared.tree.Node.{Node}
use Rattle.emp_check.specs.declared.outcome.Tested.{Tested}
use Rattle.emp_check.specs.declared.outcome.Tested.TheVariants.{Fine}
use Rattle.emp_check.specs.declared.outcome.Checked.{Checked}
use Rattle.emp_check.specs.declared.outcome.Checked.TheVariants.{Accepted}
use Rattle.emp_check.specs.Steps.{IsPath}
use Rattle.emp_cert.specs.Certs.{NodeFits}
use Rattle.emp_check.specs.Trees.{at_node, node_test, next, nodes_test}
use Rattle.emp_check.proofs.Room.{path_start, path_next, room}

-- what the loop keeps: the rest, at the path, gives what the whole gives
pub node-drop : (s : RowSystem) (best : Level) (p : List Turn) (ns : List Node) (i : ℕ) (d : Node) → i < length ns → nodes_test s best (i + 1) (Some p) (drop i ns) ≡ at_node (i + 1) (node_test s best p (get_or ns i d)) (nodes_test s best (i + 1 + 1) (next p (get_or ns i d)) (drop (i + 1) ns))
node-drop s best p ns i d h = rw (drop_more ns i d h) refl

pub nodes-all : (s : RowSystem) (best : Level) (p : List Turn) (ns : List Node) (i : ℕ) → length ns ≤ i → nodes_test s best (i + 1) (Some p) (drop i ns) ≡ Accepted
nodes-all s best p ns i h = rw (drop_all i ns h) refl

-- one node more
pub record Goes (s : RowSystem) (best : Level) (i : ℕ) (q : List Turn) (ns : List Node) (w : Checked) : Type 0 where
  pub path : IsPath s q
  pub rest : nodes_test s best (i + 1 + 1) (Some q) (drop (i + 1) ns) ≡ w

pub goes : (s : RowSystem) (best : Level) (p q : List Turn) (ns : List Node) (i : ℕ) (d : Node) (w : Checked) → All (NodeFits (length s.pairs) (length s.quantities)) ns → i < length ns → d ≡ get_or ns i d → IsPath s p → node_test s best p d ≡ Fine → next p d ≡ Some q → nodes_test s best (i + 1) (Some p) (drop i ns) ≡ w → Goes s best i q ns w
goes s best p q ns i d w f l e h t o r =
    let fits : NodeFits (length s.pairs) (length s.quantities) d = subst (λ (x : Node). NodeFits (length s.pairs) (length s.quantities) x) (sym e) (f i d l) in
    let test : node_test s best p (get_or ns i d) ≡ Fine = ap (node_test s best p) (sym e) ∙ t in
    let step : next p (get_or ns i d) ≡ Some q = ap (next p) (sym e) ∙ o in
    record {
      path = path_next s best p q d h fits t o;
      rest = ap (λ (st : Option (List Turn)). nodes_test s best (i + 1 + 1) st (drop (i + 1) ns)) (sym step) ∙ (ap (λ (x : Tested). at_node (i + 1) x (nodes_test s best (i + 1 + 1) (next p (get_or ns i d)) (drop (i + 1) ns))) (sym test) ∙ (sym (node-drop s best p ns i d l) ∙ r));
    }

pub ruleset walking = (node-drop, nodes-all, path_start, path_next, room)
