-- Complementarity models: the matches of equations and variables, the variables of the problem, and complementary points.
use Rattle.std.specs.Prelude.{◌≡◌, ℕ, Bool, true, false, ◌||◌, nat_eq, nat_lt, List, slice_get, Option, Some, None}
use Rattle.std.specs.List.{list_any}
use Rattle.emp_num.specs.Ratio.{Ratio, ratio, nought, SameRatio, AtMostRatio}
use Rattle.emp_num.specs.Point.{Point, coordinate}
use Rattle.emp_ast.specs.declared.tree.VarId.{VarId}
use Rattle.emp_ast.specs.declared.tree.EquId.{EquId}
use Rattle.emp_ast.specs.declared.model.Equation.{Equation}
use Rattle.emp_ast.specs.declared.model.End.{End}
use Rattle.emp_ast.specs.declared.model.End.TheVariants.{Open, At}
use Rattle.emp_ast.specs.declared.model.Variable.{Variable}
use Rattle.emp_ast.specs.declared.model.Model.{Model}
use Rattle.emp_ast.specs.Occurrence.{equation_leaves}
use Rattle.emp_ast.specs.Meets.{MeetsBounds}
use Rattle.emp_ast.specs.Rivals.{Fits}
use Rattle.emp_ast.specs.Solved.{gap, IsAtLeastZero}

-- an equation and the variable that it is matched with
abbrev pub Match : Type 0
Match = EquId × VarId

abbrev pub is_matched : List Match → ℕ → Bool
is_matched ms v = list_any (λ q. nat_eq q.1.at v) ms

abbrev pub is_matched_equation : List Match → ℕ → Bool
is_matched_equation ms e = list_any (λ q. nat_eq q.0.at e) ms

abbrev pub is_leaf_by : ℕ → Option Equation → Bool
is_leaf_by v (Some q) = nat_lt 0 (equation_leaves v q)
is_leaf_by v None = false

-- a variable of the problem is matched, or a leaf of a matched equation
abbrev pub is_of_problem : Model → List Match → ℕ → Bool
is_of_problem m ms v = is_matched ms v || list_any (λ q. is_leaf_by v (slice_get m.equations q.0.at)) ms

-- ---- complementary points
abbrev pub IsAt : Ratio → End → Type 0
IsAt x Open = ⊥
IsAt x (At f) = SameRatio x (ratio f.num f.den)

abbrev pub IsAtMostZero : Option Ratio → Type 0
IsAtMostZero (Some x) = AtMostRatio x nought
IsAtMostZero None = ⊥

abbrev pub IsThere : Option Ratio → Type 0
IsThere (Some x) = Unit {0}
IsThere None = ⊥

abbrev pub EachMatch : Model → List Match → (Match → Variable → Type 0) → Type 0
EachMatch m ms P = (i : ℕ) (q : Match) (x : Variable) → slice_get ms i ≡ Some q → slice_get m.variables q.1.at ≡ Some x → P q x

-- the point meets the bounds of the problem's variables; left minus right of the equation of each matched variable is there,
-- at most 0 where the variable is not at its lower bound, and at least 0 where it is not at its upper bound
pub record IsComplementary (m : Model) (ms : List Match) (p : Point) : Type 0 where
  pub fits : Fits m p
  pub bounds : (v : ℕ) (x : Variable) → slice_get m.variables v ≡ Some x → is_of_problem m ms v ≡ true → MeetsBounds p v x
  pub there : EachMatch m ms (λ q x. IsThere (gap m p q.0.at))
  pub above_low : EachMatch m ms (λ q x. (IsAt (coordinate p q.1.at) x.low → ⊥) → IsAtMostZero (gap m p q.0.at))
  pub below_high : EachMatch m ms (λ q x. (IsAt (coordinate p q.1.at) x.high → ⊥) → IsAtLeastZero (gap m p q.0.at))
