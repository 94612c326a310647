-- How often a variable stands in expressions, and whether it stands under sums alone.
use Rattle.std.specs.Prelude.{ℕ, ◌+◌, Bool, true, false, cond, ◌||◌, nat_eq, List, [], ◌∷◌}
use Rattle.emp_ast.specs.declared.tree.Operator.{Operator}
use Rattle.emp_ast.specs.declared.tree.Operator.TheVariants.{Plus, Minus, Times, Over}
use Rattle.emp_ast.specs.declared.model.Equation.{Equation}
use Rattle.emp_ast.specs.Expression.{Expression, number, variable, negated, joined, power, expression_of}

-- how many leaves of the expression are the variable w
abbrev pub leaves : ℕ → Expression → ℕ
leaves w (number f) = 0
leaves w (variable v) = cond (nat_eq v w) 1 0
leaves w (negated e) = leaves w e
leaves w (joined op e f) = leaves w e + leaves w f
leaves w (power e n) = leaves w e

abbrev pub equation_leaves : ℕ → Equation → ℕ
equation_leaves w q = leaves w (expression_of q.left.nodes) + leaves w (expression_of q.right.nodes)

-- how many leaves of the equations are the variable w
abbrev pub occurrences : ℕ → List Equation → ℕ
occurrences w [] = 0
occurrences w (q ∷ qs) = equation_leaves w q + occurrences w qs

abbrev pub is_additive : Operator → Bool
is_additive Plus = true
is_additive Minus = true
is_additive Times = false
is_additive Over = false

-- from the root to some leaf w there are only sums, differences and negations
abbrev pub is_summand : ℕ → Expression → Bool
is_summand w (number f) = false
is_summand w (variable v) = nat_eq v w
is_summand w (negated e) = is_summand w e
is_summand w (joined op e f) = cond (is_additive op) (is_summand w e || is_summand w f) false
is_summand w (power e n) = false

abbrev pub is_summand_of : ℕ → Equation → Bool
is_summand_of w q = is_summand w (expression_of q.left.nodes) || is_summand w (expression_of q.right.nodes)
