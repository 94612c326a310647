-- The value of an expression at a point: a quotient of whole numbers, never reduced. There is none where a divisor is 0.
use Rattle.std.specs.Prelude.{Option, Some, None, option_map}
use Rattle.emp_num.specs.Ratio.{Ratio, ratio, negated as opposite, plus, minus, times, over, power as power_of}
use Rattle.emp_num.specs.Point.{Point, coordinate}
use Rattle.emp_ast.specs.declared.tree.Operator.{Operator}
use Rattle.emp_ast.specs.declared.tree.Operator.TheVariants.{Plus, Minus, Times, Over}
use Rattle.emp_ast.specs.declared.tree.Tree.{Tree}
use Rattle.emp_ast.specs.Expression.{Expression, number, variable, negated, joined, power, expression_of}

-- from two values, where both are there
abbrev pub both : (Ratio → Ratio → Option Ratio) → Option Ratio → Option Ratio → Option Ratio
both f (Some x) (Some y) = f x y
both f (Some x) None = None
both f None y = None

abbrev pub operation : Operator → Ratio → Ratio → Option Ratio
operation Plus x y = Some (plus x y)
operation Minus x y = Some (minus x y)
operation Times x y = Some (times x y)
operation Over x y = over x y

abbrev pub value : Point → Expression → Option Ratio
value p (number f) = Some (ratio f.num f.den)
value p (variable v) = Some (coordinate p v)
value p (negated e) = option_map opposite (value p e)
value p (joined op e f) = both (operation op) (value p e) (value p f)
value p (power e n) = option_map (λ x. power_of x n) (value p e)

-- the value of a tree is that of the expression that its nodes stand for
abbrev pub tree_value : Point → Tree → Option Ratio
tree_value p t = value p (expression_of t.nodes)
