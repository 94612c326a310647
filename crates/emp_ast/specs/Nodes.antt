-- The nodes of an expression in postorder, as model texts write them. The words of the readers and the printer cite them, and so do
-- the models of the examples; no word of the headline does.
use Rattle.std.specs.Prelude.{◌≡◌, ℕ, ◌+◌, ◌-◌, true, List, [], ◌∷◌, ◌++◌}
use Rattle.emp_ast.specs.declared.tree.Operator.{Operator}
use Rattle.emp_ast.specs.declared.tree.Operator.TheVariants.{Plus, Minus, Times, Over}
use Rattle.emp_ast.specs.declared.tree.Node.{Node}
use Rattle.emp_ast.specs.declared.tree.Node.TheVariants.{Number, Var, Neg, Add, Sub, Mul, Div, Power}
use Rattle.emp_ast.specs.declared.tree.Tree.{Tree}
use Rattle.emp_ast.specs.Expression.{Expression, number, variable, negated, joined, power, expression_of, is_postorder}

-- how many nodes an expression has
abbrev pub size : Expression → ℕ
size (number f) = 1
size (variable k) = 1
size (negated e) = size e + 1
size (joined op e f) = size e + size f + 1
size (power e n) = size e + 1

abbrev pub join_node : Operator → ℕ → ℕ → Node
join_node Plus a b = Add a b
join_node Minus a b = Sub a b
join_node Times a b = Mul a b
join_node Over a b = Div a b

-- the number of the root, where `before` nodes stand before the expression
abbrev pub root : ℕ → Expression → ℕ
root before e = before + size e - 1

-- the nodes in postorder, where `before` nodes stand before them
abbrev pub nodes_from : ℕ → Expression → List Node
nodes_from before (number f) = Number f ∷ []
nodes_from before (variable k) = Var (record { at = k }) ∷ []
nodes_from before (negated e) = nodes_from before e ++ Neg (root before e) ∷ []
nodes_from before (joined op e f) = nodes_from before e ++ nodes_from (before + size e) f ++ join_node op (root before e) (root (before + size e) f) ∷ []
nodes_from before (power e n) = nodes_from before e ++ Power (root before e) n ∷ []

-- the tree is that of the expression; no place is asked
abbrev pub IsTreeOf : Tree → Expression → Type 0
IsTreeOf t e = t.nodes ≡ nodes_from 0 e

-- ---- the law: nodes in postorder are those of the expression that they stand for, and the nodes of an expression are in
-- postorder and stand for it
pub record NodesAreExpressions : Type 0 where
  pub nodes : (ns : List Node) → is_postorder ns ≡ true → ns ≡ nodes_from 0 (expression_of ns)
  pub postorder : (e : Expression) → is_postorder (nodes_from 0 e) ≡ true
  pub stands : (e : Expression) → expression_of (nodes_from 0 e) ≡ e
