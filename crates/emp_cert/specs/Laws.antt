-- The law of certificates, as statements.
use Rattle.std.specs.Prelude.{◌≡◌, ℕ, ◌<◌, ℤ, pos, ◌*ℤ◌, ◌≤ℤ◌, ◌<ℤ◌, List, [], Some}
use Rattle.emp_algebra.specs.Vector.{scale, add_rows}
use Rattle.emp_num.specs.Point.{Point}
use Rattle.emp_rows.specs.declared.affine.Affine.{Affine}
use Rattle.emp_rows.specs.declared.system.RowSystem.{RowSystem}
use Rattle.emp_rows.specs.RowPoints.{value_at, Solves}
use Rattle.emp_cert.specs.declared.cert.Verdict.{Verdict}
use Rattle.emp_cert.specs.declared.tree.Node.{Node}
use Rattle.emp_cert.specs.Deciders.{NodeTree, preorder, ShowsNone, ShowsBest}
use Rattle.emp_cert.specs.Nodes.{AreTrees}
use Rattle.emp_cert.specs.Verdicts.{IsRowRay, VerdictHolds, VerdictShown}

-- ---- trees
pub record TreesShow : Type 0 where
  -- a tree that shows none leaves no row point
  pub none : (s : RowSystem) (t : NodeTree) → ShowsNone s [] t → (q : Point) → Solves s q → ⊥
  -- a tree that shows best for x bounds the objective at every row point
  pub best : (s : RowSystem) (r : Affine) (x : Point) (t : NodeTree) → ShowsBest s r x [] t → (q : Point) → Solves s q → (value_at r x *ℤ q.den) ≤ℤ (value_at r q *ℤ x.den)

-- lists of nodes that are one whole tree are the preorders of trees
pub record ListsAreTrees : Type 0 where
  pub some : (ns : List Node) → AreTrees 1 ns → (t : NodeTree) × (preorder t ≡ ns)
  pub whole : (t : NodeTree) → AreTrees 1 (preorder t)

-- ---- rays
-- the numbers of p plus n times the step d, over the product of the two denominators
abbrev pub along : Point → Point → ℕ → List ℤ
along p d n = add_rows (scale d.den p.nums) (scale (pos n *ℤ p.den) d.nums)

-- q is the point p plus n times the step d
pub record IsAlong (p d : Point) (n : ℕ) (q : Point) : Type 0 where
  pub den : q.den ≡ d.den *ℤ p.den
  pub nums : q.nums ≡ along p d n

-- a row ray gives a row point at every whole step, and the objective falls from each to each later one
pub record RayGoesOn : Type 0 where
  pub some : (p d : Point) (n : ℕ) → (q : Point) × IsAlong p d n q
  pub solves : (s : RowSystem) (p d : Point) → IsRowRay s p d → (n : ℕ) (q : Point) → IsAlong p d n q → Solves s q
  pub falls : (s : RowSystem) (r : Affine) (p d : Point) → IsRowRay s p d → s.objective ≡ Some r → (m n : ℕ) (q t : Point) → m < n → IsAlong p d m q → IsAlong p d n t → (value_at r t *ℤ q.den) <ℤ (value_at r q *ℤ t.den)

-- ---- verdicts
-- what a certificate shows of a row system is so
abbrev pub ShownHolds : Type 0
ShownHolds = (s : RowSystem) (v : Verdict) → VerdictShown s v → VerdictHolds s v
