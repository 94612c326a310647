-- Generated markets: what the draws from a seed give, and the model and the annotation of these firms.
use Rattle.std.specs.Prelude.{◌≡◌, ℕ, zero, suc, ◌+◌, ◌*◌, ◌/◌, ◌%◌, ◌<◌, Bool, false, cond, nat_lt, List, [], ◌∷◌, ◌++◌, length, slice_get, codes, decimal, Some, None}
use Rattle.emp_num.specs.Whole.{whole}
use Rattle.emp_ast.specs.declared.tree.Operator.TheVariants.{Minus, Times}
use Rattle.emp_ast.specs.declared.model.Relation.TheVariants.{Equal}
use Rattle.emp_ast.specs.declared.model.Equation.{Equation}
use Rattle.emp_ast.specs.declared.model.End.TheVariants.{Open, At}
use Rattle.emp_ast.specs.declared.model.Sense.TheVariants.{Max}
use Rattle.emp_ast.specs.declared.model.Variable.{Variable}
use Rattle.emp_ast.specs.declared.model.Model.{Model}
use Rattle.emp_ast.specs.declared.annot.Block.{Block}
use Rattle.emp_ast.specs.declared.annot.Block.TheVariants.{Agent}
use Rattle.emp_ast.specs.declared.annot.Annot.{Annot}
use Rattle.emp_ast.specs.Expression.{Expression, number, variable, joined, expression_of}

-- ---- draws
-- the state after n draws
abbrev pub state : ℕ → ℕ → ℕ
state seed zero = seed % 65537
state seed (suc n) = (75 * state seed n + 74) % 65537

-- ---- firms, which count from 0; two make a market, and with an odd count the last is alone
-- the draws before those of the firm's market: one for the market, two for each of its firms
abbrev pub draws_before : ℕ → ℕ
draws_before k = 5 * (k / 2)

-- what the market would pay for a first unit
abbrev pub demand : ℕ → ℕ → ℕ
demand seed k = 20 + state seed (draws_before k + 1) % 20

abbrev pub cost : ℕ → ℕ → ℕ
cost seed k = 1 + state seed (draws_before k + 2 * (k % 2) + 2) % 9

abbrev pub cap : ℕ → ℕ → ℕ
cap seed k = 4 + state seed (draws_before k + 2 * (k % 2) + 3) % 16

abbrev pub first_of_market : ℕ → ℕ
first_of_market k = 2 * (k / 2)

-- with so many firms
abbrev pub has_rival : ℕ → ℕ → Bool
has_rival firms k = nat_lt (first_of_market k + 1) firms

-- ---- the model: variables pi1 .. piN, q1 .. qN
abbrev pub quantity : ℕ → ℕ → ℕ
quantity firms k = firms + k

-- the price: the demand less the quantity of each firm of the market
abbrev pub price : ℕ → ℕ → ℕ → Expression
price seed firms k =
    cond (has_rival firms k)
    (joined Minus (joined Minus (number (whole (demand seed k))) (variable (quantity firms (first_of_market k)))) (variable (quantity firms (first_of_market k + 1))))
    (joined Minus (number (whole (demand seed k))) (variable (quantity firms k)))

-- the price times the quantity, less the cost of the quantity
abbrev pub profit : ℕ → ℕ → ℕ → Expression
profit seed firms k =
    joined Minus (joined Times (price seed firms k) (variable (quantity firms k))) (joined Times (number (whole (cost seed k))) (variable (quantity firms k)))

-- the name with the firm's number, from 1
abbrev pub numbered : List ℕ → ℕ → List ℕ
numbered name k = name ++ decimal (k + 1)

-- the equation of the firm: its profit is what it earns
pub record IsProfitEquation (seed firms k : ℕ) (e : Equation) : Type 0 where
  pub name : e.name ≡ numbered (codes "d") k
  pub left : expression_of e.left.nodes ≡ variable k
  pub right : expression_of e.right.nodes ≡ profit seed firms k
  pub relation : e.relation ≡ Equal

abbrev pub profit_variable : ℕ → Variable
profit_variable k = record { name = numbered (codes "pi") k; low = Open; high = Open }

-- the quantity is from 0 to the firm's cap
abbrev pub quantity_variable : ℕ → ℕ → Variable
quantity_variable seed k = record { name = numbered (codes "q") k; low = At (whole 0); high = At (whole (cap seed k)) }

pub record IsMarketModel (seed firms : ℕ) (m : Model) : Type 0 where
  pub name : m.name ≡ codes "m"
  pub variables : length m.variables ≡ firms + firms
  pub profits : (k : ℕ) → k < firms → slice_get m.variables k ≡ Some (profit_variable k)
  pub quantities : (k : ℕ) → k < firms → slice_get m.variables (quantity firms k) ≡ Some (quantity_variable seed k)
  pub equations : length m.equations ≡ firms
  pub each : (k : ℕ) (e : Equation) → slice_get m.equations k ≡ Some e → IsProfitEquation seed firms k e
  pub goal : m.goal ≡ None

-- ---- the annotation: an equilibrium in which each firm chooses its quantity for its greatest profit
abbrev pub firm_block : ℕ → ℕ → Block
firm_block firms k = Agent Max (record { at = k }) (record { at = quantity firms k } ∷ []) (record { at = k } ∷ [])

pub record IsMarketAnnot (firms : ℕ) (a : Annot) : Type 0 where
  pub bilevel : a.bilevel ≡ false
  pub leader : a.leader ≡ []
  pub count : length a.blocks ≡ firms
  pub blocks : (k : ℕ) → k < firms → slice_get a.blocks k ≡ Some (firm_block firms k)
  pub duals : a.duals ≡ []
  pub visols : a.visols ≡ []
  pub implicits : a.implicits ≡ []

pub record IsMarket (seed firms : ℕ) (m : Model) (a : Annot) : Type 0 where
  pub model : IsMarketModel seed firms m
  pub annot : IsMarketAnnot firms a
