-- When a point meets an equation and a bound.
use Rattle.std.specs.Prelude.{ℕ, Option, Some, None}
use Rattle.emp_num.specs.Ratio.{Ratio, ratio, SameRatio, AtMostRatio}
use Rattle.emp_num.specs.Point.{Point, coordinate}
use Rattle.emp_ast.specs.declared.model.Relation.{Relation}
use Rattle.emp_ast.specs.declared.model.Relation.TheVariants.{Equal, AtLeast, AtMost, Nothing}
use Rattle.emp_ast.specs.declared.model.Equation.{Equation}
use Rattle.emp_ast.specs.declared.model.End.{End}
use Rattle.emp_ast.specs.declared.model.End.TheVariants.{Open, At}
use Rattle.emp_ast.specs.declared.model.Variable.{Variable}
use Rattle.emp_ast.specs.Value.{tree_value}

-- both values are there and so related
abbrev pub IfBoth : (Ratio → Ratio → Type 0) → Option Ratio → Option Ratio → Type 0
IfBoth R (Some x) (Some y) = R x y
IfBoth R (Some x) None = ⊥
IfBoth R None y = ⊥

-- the two values stand in the relation; nothing is asked by `=N=`
abbrev pub AreRelated : Relation → Option Ratio → Option Ratio → Type 0
AreRelated Equal left right = IfBoth SameRatio left right
AreRelated AtLeast left right = IfBoth AtMostRatio right left
AreRelated AtMost left right = IfBoth AtMostRatio left right
AreRelated Nothing left right = Unit {0}

-- both sides have values that stand in the equation's relation; every point meets an `=N=` equation
abbrev pub MeetsEquation : Point → Equation → Type 0
MeetsEquation p e = AreRelated e.relation (tree_value p e.left) (tree_value p e.right)

abbrev pub IsAbove : Ratio → End → Type 0
IsAbove x Open = Unit {0}
IsAbove x (At f) = AtMostRatio (ratio f.num f.den) x

abbrev pub IsBelow : Ratio → End → Type 0
IsBelow x Open = Unit {0}
IsBelow x (At f) = AtMostRatio x (ratio f.num f.den)

-- the coordinate of variable k is within the variable's bounds
abbrev pub MeetsBounds : Point → ℕ → Variable → Type 0
MeetsBounds p k v = IsAbove (coordinate p k) v.low × IsBelow (coordinate p k) v.high
