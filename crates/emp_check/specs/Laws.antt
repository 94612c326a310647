-- What trees that show something mean, and that accepted ones show it, as statements.
use Rattle.std.specs.Prelude.{◌≡◌, ◌⊎◌, ℕ, false, List, [], length, All, Some}
use Rattle.emp_num.specs.declared.frac.Frac.{Frac}
use Rattle.emp_num.specs.Point.{Point, StandsFor}
use Rattle.emp_rows.specs.declared.affine.Affine.{Affine}
use Rattle.emp_rows.specs.declared.system.RowSystem.{RowSystem}
use Rattle.emp_check.specs.declared.outcome.Checked.{Checked}
use Rattle.emp_check.specs.declared.outcome.Checked.TheVariants.{Accepted, Wide as WideNode}
use Rattle.emp_cert.specs.declared.cert.Cert.{Cert}
use Rattle.emp_cert.specs.Verdicts.{VerdictShown}
use Rattle.emp_check.specs.Checks.{level_by, LinksAre, SizesAre, checked}
use Rattle.emp_cert.specs.Deciders.{ShowsNone, ShowsBest, NodeTree, preorder}
use Rattle.emp_check.specs.Levels.{nothing}
use Rattle.emp_cert.specs.Certs.{NodeFits}
use Rattle.emp_check.specs.Trees.{nodes_test}
use Rattle.emp_rows.specs.Values.{measured}

-- accepted, or wide at some node
abbrev pub Ends : Checked → Type 0
Ends c = (c ≡ Accepted) ⊎ ((n : ℕ) × (c ≡ WideNode n))

pub record AcceptedShow : Type 0 where
  pub none : (s : RowSystem) (t : NodeTree) → All (NodeFits (length s.pairs) (length s.quantities)) (preorder t) → nodes_test s nothing 1 (Some []) (preorder t) ≡ Accepted → ShowsNone s [] t
  pub best : (s : RowSystem) (r : Affine) (fs : List Frac) (x : Point) (t : NodeTree) → s.objective ≡ Some r → StandsFor fs x → All (NodeFits (length s.pairs) (length s.quantities)) (preorder t) → nodes_test s (level_by (measured false r fs)) 1 (Some []) (preorder t) ≡ Accepted → ShowsBest s r x [] t

-- a tree that shows none, or best, is never refused
pub record ShownEnd : Type 0 where
  pub none : (s : RowSystem) (t : NodeTree) → ShowsNone s [] t → Ends (nodes_test s nothing 1 (Some []) (preorder t))
  pub best : (s : RowSystem) (r : Affine) (fs : List Frac) (x : Point) (t : NodeTree) → s.objective ≡ Some r → StandsFor fs x → ShowsBest s r x [] t → Ends (nodes_test s (level_by (measured false r fs)) 1 (Some []) (preorder t))
  -- nor is a certificate of the system's sizes and pairs that shows its verdict
  pub certificate : (s : RowSystem) (c : Cert) → SizesAre s c → LinksAre s c.links → VerdictShown s c.verdict → Ends (checked s c)
