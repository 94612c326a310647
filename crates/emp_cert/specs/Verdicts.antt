-- What a verdict says of a row system, and what a certificate shows of it.
use Rattle.std.specs.Prelude.{◌≡◌, ◌⊎◌, ℕ, ◌<◌, pos, ◌*ℤ◌, ◌≤ℤ◌, ◌<ℤ◌, List, [], ◌∷◌, length, slice_index_or, Some, None}
use Rattle.emp_algebra.specs.Deciding.{IsOfKind}
use Rattle.emp_num.specs.Point.{Point, StandsFor}
use Rattle.emp_rows.specs.declared.affine.Affine.{Affine}
use Rattle.emp_rows.specs.declared.system.Kind.{Kind}
use Rattle.emp_rows.specs.declared.system.RowSystem.{RowSystem}
use Rattle.emp_rows.specs.RowPoints.{sort_of, quantity, value_at, rate_along, Solves}
use Rattle.emp_cert.specs.declared.cert.Verdict.{Verdict}
use Rattle.emp_cert.specs.declared.cert.Verdict.TheVariants.{Point as PointVerdict, Missing, Best, Unbounded}
use Rattle.emp_cert.specs.Deciders.{NodeTree, preorder, ShowsNone, ShowsBest}

-- ---- what a verdict says
-- no row point has a lower objective
abbrev pub NoneBetter : RowSystem → Point → Type 0
NoneBetter s p = (r : Affine) → s.objective ≡ Some r → (q : Point) → Solves s q → (value_at r p *ℤ q.den) ≤ℤ (value_at r q *ℤ p.den)

abbrev pub RatesOfKind : List Affine → List Kind → Point → Type 0
RatesOfKind [] ks d = Unit {0}
RatesOfKind (q ∷ qs) [] d = Unit {0}
RatesOfKind (q ∷ qs) (k ∷ ks) d = IsOfKind (sort_of k) (rate_along q d) × RatesOfKind qs ks d

abbrev pub StaysZero : Affine → Point → Point → Type 0
StaysZero q p d = (value_at q p ≡ pos 0) × (rate_along q d ≡ pos 0)

abbrev pub OneStays : RowSystem → Point → Point → ℕ × ℕ → Type 0
OneStays s p d (a, b) = StaysZero (quantity s a) p d ⊎ StaysZero (quantity s b) p d

-- a row ray: a row point, and a step along which the quantities and pairs stay as they should and the objective falls
pub record IsRowRay (s : RowSystem) (p d : Point) : Type 0 where
  pub point : Solves s p
  pub count : length d.nums ≡ s.base
  pub kinds : RatesOfKind s.quantities s.kinds d
  pub pairs : (k : ℕ) → k < length s.pairs → OneStays s p d (slice_index_or s.pairs k (0, 0))
  pub falls : (r : Affine) → s.objective ≡ Some r → rate_along r d <ℤ pos 0

-- of each point, and of each step, that the verdict's numbers stand for
abbrev pub VerdictHolds : RowSystem → Verdict → Type 0
VerdictHolds s (PointVerdict fs) = (p : Point) → StandsFor fs p → Solves s p
VerdictHolds s (Missing t) = (p : Point) → Solves s p → ⊥
VerdictHolds s (Best fs t) = (p : Point) → StandsFor fs p → Solves s p × NoneBetter s p
VerdictHolds s (Unbounded fs gs) = (p d : Point) → StandsFor fs p → StandsFor gs d → IsRowRay s p d

-- ---- what a certificate shows
-- the verdict fits the kind of system, its points are row points, its step is a ray's, and its tree's rows decide
abbrev pub VerdictShown : RowSystem → Verdict → Type 0
VerdictShown s (PointVerdict fs) = (s.objective ≡ None) × ((p : Point) → StandsFor fs p → Solves s p)
VerdictShown s (Missing t) = (u : NodeTree) × (preorder u ≡ t.nodes) × ShowsNone s [] u
VerdictShown s (Best fs t) = (r : Affine) × (s.objective ≡ Some r) × ((u : NodeTree) × (preorder u ≡ t.nodes) × ((p : Point) → StandsFor fs p → Solves s p × ShowsBest s r p [] u))
VerdictShown s (Unbounded fs gs) = (r : Affine) × (s.objective ≡ Some r) × ((p d : Point) → StandsFor fs p → StandsFor gs d → IsRowRay s p d)
