-- The second derivatives of a quadratic by some of its coordinates, and that they tell in which of them it is convex.
use Rattle.std.specs.Prelude.{◌↔◌, ℕ, ◌<◌, ◌≤◌, ℤ, ◌+ℤ◌, List, take, length, slice_index_or, Result, Ok, Err}
use Rattle.emp_algebra.specs.Vector.{cell}
use Rattle.emp_num.specs.declared.frac.Frac.{Frac}
use Rattle.emp_systems.specs.Lagrange.{IsOwnConvex}
use Rattle.emp_game.specs.Game.{names, AreApart}
use Rattle.emp_game.specs.Conditions.{row_of}
use Rattle.emp_ldl.specs.Whole.{IsSemidefinite}
use Rattle.emp_ldl.specs.Form.{IsMatrix, entries}
use Rattle.emp_ldl.specs.Laws.{Over}
use Rattle.emp_ldl.specs.Convex.{ConvexGives}
use Rattle.emp_ldl.specs.declared.squares.Squares.{Squares}
use Rattle.emp_ldl.specs.declared.squares.Curve.{Curve}
use Rattle.emp_ldl.specs.declared.squares.Curve.TheVariants.{Not, Wide, NoMemory}

-- the second derivative by coordinates k and l of the sum of x_i m_ij x_j
abbrev pub mixed : List (List ℤ) → ℕ → ℕ → ℤ
mixed m k l = cell (row_of m k) l +ℤ cell (row_of m l) k

-- by the coordinates of a list, which are counted from 0
abbrev pub curvature : List (List ℤ) → List ℕ → ℕ → ℕ → ℤ
curvature m ks i j = mixed m (slice_index_or ks i 0) (slice_index_or ks j 0)

-- convex along the steps on the first n coordinates of the list
abbrev pub IsConvexUpTo : List (List ℤ) → List ℕ → ℕ → Type 0
IsConvexUpTo m ks n = IsOwnConvex (λ k. names (take n ks) k) m

-- ---- the laws
-- exactly where the leading block of the second derivatives is positive semidefinite
abbrev pub CurvatureIsConvex : Type 0
CurvatureIsConvex = (m : List (List ℤ)) (ks : List ℕ) (n : ℕ) → AreApart ks → n ≤ length ks → IsSemidefinite (curvature m ks) n ↔ IsConvexUpTo m ks n

-- what the answer of `convex` on the second derivatives says
abbrev pub CurveTells : List (List ℤ) → List ℕ → Result Squares Curve → Type 0
CurveTells m ks (Ok s) = IsOwnConvex (λ k. names ks k) m
CurveTells m ks (Err (Not n)) = (IsConvexUpTo m ks n → ⊥) × ((h : ℕ) → h < n → IsConvexUpTo m ks h)
CurveTells m ks (Err (Wide n)) = (h : ℕ) → h < n → IsConvexUpTo m ks h
CurveTells m ks (Err NoMemory) = Unit {0}

-- where the fractions of the matrix are the second derivatives over w
abbrev pub ConvexTells : Type 0
ConvexTells = (m : List (List ℤ)) (ks : List ℕ) (cells : List Frac) (w : ℤ) → AreApart ks → IsMatrix (length ks) cells → Over (entries (length ks) cells) (curvature m ks) w (length ks) → (r : Result Squares Curve) → ConvexGives (entries (length ks) cells) (length ks) r → CurveTells m ks r
