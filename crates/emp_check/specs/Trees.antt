-- Trees of certificates in preorder, and the order in which their nodes are tested.
use Rattle.std.specs.Prelude.{ℕ, ◌+◌, cond, false, List, [], ◌∷◌, Option, Some, None}
use Rattle.emp_rows.specs.declared.system.RowSystem.{RowSystem}
use Rattle.emp_check.specs.Levels.{Level}
use Rattle.emp_cert.specs.declared.tree.Turn.{Turn}
use Rattle.emp_cert.specs.declared.tree.Node.{Node}
use Rattle.emp_cert.specs.declared.tree.Node.TheVariants.{Branch, Farkas, Bound}
use Rattle.emp_check.specs.declared.outcome.Tested.{Tested}
use Rattle.emp_check.specs.declared.outcome.Tested.TheVariants.{Fine, Wrong, Wide}
use Rattle.emp_check.specs.declared.outcome.Checked.{Checked}
use Rattle.emp_check.specs.declared.outcome.Checked.TheVariants.{Accepted, Rejected, Wide as WideNode}
use Rattle.emp_check.specs.declared.outcome.Why.TheVariants.{Split}
use Rattle.emp_cert.specs.Paths.{turn, is_split}
use Rattle.emp_check.specs.Paths.{advance}
use Rattle.emp_check.specs.Tests.{farkas_test, bound_test}

-- node n is tested, and then the rest
abbrev pub at_node : ℕ → Tested → Checked → Checked
at_node n Fine rest = rest
at_node n (Wrong w) rest = Rejected n w
at_node n Wide rest = WideNode n

-- the test of a node at a path
abbrev pub node_test : RowSystem → Level → List Turn → Node → Tested
node_test s best p (Branch k) = cond (is_split p k) (Wrong Split) Fine
node_test s best p (Farkas fs) = farkas_test s p fs
node_test s best p (Bound w fs) = bound_test s best p w fs

-- the path to the node after it
abbrev pub next : List Turn → Node → Option (List Turn)
next p (Branch k) = Some (turn k false ∷ p)
next p (Farkas fs) = advance p
next p (Bound w fs) = advance p

-- the nodes from number n on, the first at the path
abbrev pub nodes_test : RowSystem → Level → ℕ → Option (List Turn) → List Node → Checked
nodes_test s best n None ns = Accepted
nodes_test s best n (Some p) [] = Accepted
nodes_test s best n (Some p) (d ∷ ns) = at_node n (node_test s best p d) (nodes_test s best (n + 1) (next p d) ns)
