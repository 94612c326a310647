-- Expressions, and the lists of nodes that stand for them.
use Rattle.std.specs.Prelude.{ℕ, ◌+◌, Bool, true, false, ◌&&◌, nat_eq, List, [], ◌∷◌}
use Rattle.emp_num.specs.declared.frac.Frac.{Frac}
use Rattle.emp_ast.specs.declared.tree.Operator.{Operator}
use Rattle.emp_ast.specs.declared.tree.Operator.TheVariants.{Plus, Minus, Times, Over}
use Rattle.emp_ast.specs.declared.tree.Node.{Node}
use Rattle.emp_ast.specs.declared.tree.Node.TheVariants.{Number, Var, Neg, Add, Sub, Mul, Div, Power}

-- `variable k` is the variable of number k
pub data Expression : Type 0 where
  number : Frac → Expression
  variable : ℕ → Expression
  negated : Expression → Expression
  joined : Operator → Expression → Expression → Expression
  power : Expression → ℕ → Expression

-- ---- from nodes to an expression
-- what the nodes stand for in turn: each takes the last of the expressions that no node took yet as its operands
abbrev pub joins : Operator → List Expression → List Expression
joins op (f ∷ e ∷ done) = joined op e f ∷ done
joins op done = done

abbrev pub alters : (Expression → Expression) → List Expression → List Expression
alters f (e ∷ done) = f e ∷ done
alters f [] = []

abbrev pub takes : Node → List Expression → List Expression
takes (Number f) done = number f ∷ done
takes (Var v) done = variable v.at ∷ done
takes (Neg a) done = alters negated done
takes (Add a b) done = joins Plus done
takes (Sub a b) done = joins Minus done
takes (Mul a b) done = joins Times done
takes (Div a b) done = joins Over done
takes (Power a n) done = alters (λ e. power e n) done

abbrev pub expressions_from : List Expression → List Node → List Expression
expressions_from done [] = done
expressions_from done (n ∷ ns) = expressions_from (takes n done) ns

abbrev pub first_of : List Expression → Expression
first_of (e ∷ done) = e
first_of [] = variable 0

-- the expression that a list of nodes in postorder stands for
abbrev pub expression_of : List Node → Expression
expression_of nodes = first_of (expressions_from [] nodes)

-- ---- postorder
-- the numbers of the roots that no node took yet, the last first, after node number `at`; and whether the node's operands
-- are the last of them
abbrev pub pops : List ℕ → ℕ → List ℕ → List ℕ × Bool
pops [] at (r ∷ roots) = (at ∷ r ∷ roots, true)
pops [] at [] = (at ∷ [], true)
pops (a ∷ operands) at (r ∷ roots) = ((pops operands at roots).0, nat_eq a r && (pops operands at roots).1)
pops (a ∷ operands) at [] = ([], false)

-- the last operand first
abbrev pub operands : Node → List ℕ
operands (Number f) = []
operands (Var v) = []
operands (Neg a) = a ∷ []
operands (Add a b) = b ∷ a ∷ []
operands (Sub a b) = b ∷ a ∷ []
operands (Mul a b) = b ∷ a ∷ []
operands (Div a b) = b ∷ a ∷ []
operands (Power a n) = a ∷ []

abbrev pub has_one : List ℕ → Bool
has_one (r ∷ []) = true
has_one roots = false

abbrev pub is_postorder_from : List ℕ → ℕ → List Node → Bool
is_postorder_from roots at [] = has_one roots
is_postorder_from roots at (n ∷ ns) = (pops (operands n) at roots).1 && is_postorder_from (pops (operands n) at roots).0 (at + 1) ns

-- each node takes as its operands the last roots that no node before it took, and at the end one root is left
abbrev pub is_postorder : List Node → Bool
is_postorder nodes = is_postorder_from [] 0 nodes
