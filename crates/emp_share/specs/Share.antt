-- The test that each agent of a problem is convex, and its answer.
use Rattle.std.specs.Prelude.{◌≡◌, ◌⊎◌, ℕ, ◌+◌, ◌<◌, ◌≤◌, pos, ◌*ℤ◌, Bool, true, false, cond, nat_eq, nat_lt, List, All, take, length, slice_get, slice_index_or, Some, Result, Ok, Err}
use Rattle.emp_num.specs.FracSpec.{IsQuotient}
use Rattle.emp_num.specs.declared.frac.Frac.{Frac}
use Rattle.emp_ldl.specs.Form.{IsMatrix, entry, entries}
use Rattle.emp_ldl.specs.Convex.{ConvexGives}
use Rattle.emp_ldl.specs.declared.squares.Squares.{Squares}
use Rattle.emp_ldl.specs.declared.squares.Curve.{Curve}
use Rattle.emp_ldl.specs.declared.squares.Curve.TheVariants as Curved
use Rattle.emp_ast.specs.declared.tree.VarId.{VarId}
use Rattle.emp_poly.specs.Quads.{square_at}
use Rattle.emp_poly.specs.Gradient.{DoubleIsWide}
use Rattle.emp_poly.specs.declared.quad.Quad.{Quad}
use Rattle.emp_problem.specs.declared.problem.Purpose.{Purpose}
use Rattle.emp_problem.specs.declared.problem.Purpose.TheVariants.{Goal, Flow}
use Rattle.emp_problem.specs.declared.problem.BlockPart.{BlockPart}
use Rattle.emp_problem.specs.declared.problem.AgentProblem.{AgentProblem}
use Rattle.emp_share.specs.declared.share.ShareFault.{ShareFault}
use Rattle.emp_share.specs.declared.share.ShareFault.TheVariants.{NotConvex, WideCurve, NoMemory}

-- ---- second derivatives
-- the number of the variable at place i
abbrev pub variable_at : List VarId → ℕ → ℕ
variable_at vs i = (slice_index_or vs i (record { at = 0 })).at

-- the coefficient of the product of two variables, whose earlier one stands first
abbrev pub product_at : Quad → ℕ → ℕ → Frac
product_at q u v = cond (nat_lt v u) (square_at q.square v u) (square_at q.square u v)

abbrev pub IsSecondBy : Bool → Frac → Frac → Type 0
IsSecondBy true c f = IsQuotient f (pos 2 *ℤ c.num) c.den
IsSecondBy false c f = f ≡ c

-- by variables u and v: twice the coefficient of a square, the coefficient of a product
abbrev pub IsSecond : Quad → ℕ → ℕ → Frac → Type 0
IsSecond q u v f = IsSecondBy (nat_eq u v) (product_at q u v) f

-- by the first `side` of these variables, as the cells of a matrix; the doubles on its diagonal are not wide
pub record AreSeconds (q : Quad) (vs : List VarId) (side : ℕ) (cells : List Frac) : Type 0 where
  pub within : side ≤ length vs
  pub matrix : IsMatrix side cells
  pub each : (i j : ℕ) → i < side → j < side → IsSecond q (variable_at vs i) (variable_at vs j) (entry side cells i j)
  pub narrow : (i : ℕ) → i < side → DoubleIsWide q (variable_at vs i) → ⊥

-- ---- one polynomial
-- the fold of this matrix has this answer
pub record FoldGives (q : Quad) (vs : List VarId) (side : ℕ) (r : Result Squares Curve) : Type 0 where
  pub cells : List Frac
  pub seconds : AreSeconds q vs side cells
  pub gives : ConvexGives (entries side cells) side r

pub record FoldPasses (q : Quad) (vs : List VarId) (side : ℕ) : Type 0 where
  pub squares : Squares
  pub gives : FoldGives q vs side (Ok squares)

pub record FoldEnds (q : Quad) (vs : List VarId) (c : Curve) : Type 0 where
  pub side : ℕ
  pub gives : FoldGives q vs side (Err c)

-- the rows before the k-th go through, and the double on its diagonal is wide
pub record DoubleEnds (q : Quad) (vs : List VarId) (k : ℕ) : Type 0 where
  pub row : ℕ
  pub is : k ≡ row + 1
  pub below : row < length vs
  pub before : FoldPasses q vs row
  pub wide : DoubleIsWide q (variable_at vs row)

abbrev pub GoalGives : Quad → List VarId → Result (Unit {0}) Curve → Type 0
GoalGives q vs (Ok u) = FoldPasses q vs (length vs)
GoalGives q vs (Err (Curved.Not k)) = FoldEnds q vs (Curved.Not k)
GoalGives q vs (Err (Curved.Wide k)) = FoldEnds q vs (Curved.Wide k) ⊎ DoubleEnds q vs k
GoalGives q vs (Err Curved.NoMemory) = Unit {0}

-- ---- all blocks
-- the functions of a variational inequality are not asked
abbrev pub FlowGives : Result (Unit {0}) Curve → Type 0
FlowGives (Ok u) = Unit {0}
FlowGives (Err c) = ⊥

abbrev pub PurposeGives : Purpose → List VarId → Result (Unit {0}) Curve → Type 0
PurposeGives (Goal q) vs r = GoalGives q vs r
PurposeGives (Flow ls) vs r = FlowGives r

abbrev pub BlockGives : BlockPart → Result (Unit {0}) Curve → Type 0
BlockGives b r = PurposeGives b.purpose b.own r

abbrev pub BlockPasses : BlockPart → Type 0
BlockPasses b = BlockGives b (Ok tt)

-- the block of this number, counted from 1, is the first that does not pass
pub record BlockEnds (pr : AgentProblem) (number : ℕ) (c : Curve) : Type 0 where
  pub at : ℕ
  pub is : number ≡ at + 1
  pub part : BlockPart
  pub there : slice_get pr.blocks at ≡ Some part
  pub before : All BlockPasses (take at pr.blocks)
  pub own : BlockGives part (Err c)

abbrev pub ShareGives : AgentProblem → Result (Unit {0}) ShareFault → Type 0
ShareGives pr (Ok u) = All BlockPasses pr.blocks
ShareGives pr (Err (NotConvex b k)) = BlockEnds pr b (Curved.Not k)
ShareGives pr (Err (WideCurve b k)) = BlockEnds pr b (Curved.Wide k)
ShareGives pr (Err NoMemory) = Unit {0}
