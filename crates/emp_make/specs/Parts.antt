-- The parts of a market as they are made. This serves the proofs of the code; no meaning cites it.
use Rattle.std.specs.Prelude.{◌≡◌, ℕ, List, map, length, slice_get, Some}
use Rattle.std.specs.List.{range_with_len}
use Rattle.emp_num.specs.declared.frac.Frac.{Frac}
use Rattle.emp_ast.specs.declared.tree.Operator.TheVariants.{Minus, Times}
use Rattle.emp_ast.specs.declared.model.Equation.{Equation}
use Rattle.emp_ast.specs.declared.model.Variable.{Variable}
use Rattle.emp_ast.specs.declared.annot.Block.{Block}
use Rattle.emp_ast.specs.Expression.{Expression, number, variable, joined}
use Rattle.emp_make.specs.Markets.{profit_variable, quantity_variable, firm_block, IsProfitEquation}

-- less the quantity of that variable
abbrev pub less : Expression → ℕ → Expression
less e at = joined Minus e (variable at)

-- the price times the quantity, less the cost of the quantity
abbrev pub earned : Expression → Frac → ℕ → Expression
earned price cost own = joined Minus (joined Times price (variable own)) (joined Times (number cost) (variable own))

-- of the first n firms
abbrev pub profit_variables : ℕ → List Variable
profit_variables n = map profit_variable (range_with_len 0 n)

abbrev pub quantity_variables : ℕ → ℕ → List Variable
quantity_variables seed n = map (quantity_variable seed) (range_with_len 0 n)

abbrev pub firm_blocks : ℕ → ℕ → List Block
firm_blocks firms n = map (firm_block firms) (range_with_len 0 n)

pub record AreProfitEquations (seed firms n : ℕ) (es : List Equation) : Type 0 where
  pub count : length es ≡ n
  pub each : (k : ℕ) (e : Equation) → slice_get es k ≡ Some e → IsProfitEquation seed firms k e
