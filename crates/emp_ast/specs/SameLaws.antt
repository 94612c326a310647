-- What the definitions promise: two points that are the same are not told apart, and the given value is one.
use Rattle.std.specs.Prelude.{ℕ, pos, ◌<ℤ◌, Option, Some, None}
use Rattle.emp_num.specs.Ratio.{Ratio, SameRatio}
use Rattle.emp_num.specs.Point.{Point, coordinate}
use Rattle.emp_num.specs.SamePoint.{SamePoint}
use Rattle.emp_ast.specs.declared.model.Equation.{Equation}
use Rattle.emp_ast.specs.declared.model.Sense.{Sense}
use Rattle.emp_ast.specs.declared.model.Variable.{Variable}
use Rattle.emp_ast.specs.declared.model.Model.{Model}
use Rattle.emp_ast.specs.declared.annot.Annot.{Annot}
use Rattle.emp_ast.specs.Expression.{Expression}
use Rattle.emp_ast.specs.Value.{value}
use Rattle.emp_ast.specs.Meets.{MeetsEquation, MeetsBounds}
use Rattle.emp_ast.specs.Parties.{Party}
use Rattle.emp_ast.specs.Rivals.{IsGiven, IsDeviation, IsRival}
use Rattle.emp_ast.specs.Solved.{IsBetter, IsSolved}
use Rattle.emp_ast.specs.Multipliers.{AreMultipliers}
use Rattle.emp_ast.specs.Equilibrium.{IsEquilibrium}
use Rattle.emp_ast.specs.Bilevel.{IsAdmissible, IsBetterForLeader, IsBest, IsRay}

-- both are fractions and equal
pub record SameFraction (x y : Ratio) : Type 0 where
  pub left : pos 0 <ℤ x.bottom
  pub right : pos 0 <ℤ y.bottom
  pub same : SameRatio x y

-- the two values are there and equal, or neither is there
abbrev pub SameValue : Option Ratio → Option Ratio → Type 0
SameValue (Some x) (Some y) = SameFraction x y
SameValue (Some x) None = ⊥
SameValue None (Some y) = ⊥
SameValue None None = Unit {0}

-- what is so of a point is so of each that is the same
pub record SamePointsAreOne : Type 0 where
  pub value : (e : Expression) (p q : Point) → SamePoint p q → SameValue (value p e) (value q e)
  pub equation : (e : Equation) (p q : Point) → SamePoint p q → MeetsEquation p e → MeetsEquation q e
  pub bounds : (k : ℕ) (x : Variable) (p q : Point) → SamePoint p q → MeetsBounds p k x → MeetsBounds q k x
  pub better : (s : Sense) (v : ℕ) (p q r t : Point) → SamePoint p q → SamePoint r t → IsBetter s (coordinate p v) (coordinate r v) → IsBetter s (coordinate q v) (coordinate t v)
  pub given : (m : Model) (a : Annot) (k : Party) (p q : Point) (g : Ratio) → SamePoint p q → IsGiven m a k p g → IsGiven m a k q g
  pub deviation : (m : Model) (a : Annot) (k : Party) (p q r t : Point) → SamePoint p q → SamePoint r t → IsDeviation m a k p r → IsDeviation m a k q t
  pub rival : (m : Model) (a : Annot) (k : Party) (p q r t : Point) → SamePoint p q → SamePoint r t → IsRival m a k p r → IsRival m a k q t
  pub solved : (m : Model) (a : Annot) (k : ℕ) (p q : Point) → SamePoint p q → IsSolved m a k p → IsSolved m a k q
  pub multipliers : (m : Model) (a : Annot) (k : ℕ) (p q : Point) (u : ℕ → Ratio) → SamePoint p q → AreMultipliers m a k p u → AreMultipliers m a k q u
  pub equilibrium : (m : Model) (a : Annot) (p q : Point) → SamePoint p q → IsEquilibrium m a p → IsEquilibrium m a q
  pub admissible : (m : Model) (a : Annot) (p q : Point) → SamePoint p q → IsAdmissible m a p → IsAdmissible m a q
  pub better_for_leader : (m : Model) (a : Annot) (p q r t : Point) → SamePoint p q → SamePoint r t → IsBetterForLeader m a p r → IsBetterForLeader m a q t
  pub best : (m : Model) (a : Annot) (p q : Point) → SamePoint p q → IsBest m a p → IsBest m a q
  pub ray : (m : Model) (a : Annot) (p q v w : Point) → SamePoint p q → SamePoint v w → IsRay m a p v → IsRay m a q w

-- the given value is one number
abbrev pub GivenIsOne : Type 0
GivenIsOne = (m : Model) (a : Annot) (k : Party) (p : Point) (g h : Ratio) → IsGiven m a k p g → IsGiven m a k p h → SameRatio g h
