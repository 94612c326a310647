-- The game that a problem of the variables that are left is: all its coefficients times one number n above 0.
use Rattle.std.specs.Prelude.{◌≡◌, ℕ, ℤ, pos, ◌*ℤ◌, ◌<ℤ◌, int_div, cond, nat_lt, ◌<◌, List, All, length, map, Option, Some, None}
use Rattle.emp_num.specs.Whole.{whole}
use Rattle.emp_num.specs.declared.frac.Frac.{Frac}
use Rattle.emp_ast.specs.declared.tree.VarId.{VarId}
use Rattle.emp_systems.specs.Steps.{Quadratic}
use Rattle.emp_poly.specs.Quads.{linear_at, square_at}
use Rattle.emp_poly.specs.declared.quad.Quad.{Quad}
use Rattle.emp_poly.specs.declared.quad.Lin.{Lin}
use Rattle.emp_game.specs.Game.{Row, Player}
use Rattle.emp_game.specs.Game.{Rule as GameRule, Purpose as GamePurpose, goal, flow}
use Rattle.emp_split.specs.Games.{Leader, Game}
use Rattle.emp_problem.specs.declared.problem.Rule.{Rule}
use Rattle.emp_problem.specs.declared.problem.Purpose.{Purpose}
use Rattle.emp_problem.specs.declared.problem.Purpose.TheVariants.{Goal, Flow}
use Rattle.emp_problem.specs.declared.problem.BlockPart.{BlockPart}
use Rattle.emp_problem.specs.declared.problem.LeaderPart.{LeaderPart}
use Rattle.emp_problem.specs.declared.problem.AgentProblem.{AgentProblem}
use Rattle.emp_problem.specs.Left.{place_in}

-- the numbers of the variables that are left, in order
abbrev pub left_of : AgentProblem → List ℕ
left_of pr = map (λ v. v.variable.at) pr.variables

-- where the variable stands among them
abbrev pub place_of : AgentProblem → VarId → ℕ
place_of pr v = place_in (left_of pr) v.at

-- there is a function for each own variable of a variational inequality
abbrev pub HasFunctions : List VarId → Purpose → Type 0
HasFunctions own (Goal q) = Unit {0}
HasFunctions own (Flow fs) = length fs ≡ length own

-- the leader's own variables are among those that are left
abbrev pub LeaderFits : AgentProblem → Option LeaderPart → Type 0
LeaderFits pr None = Unit {0}
LeaderFits pr (Some l) = All (λ v. place_of pr v < length pr.variables) l.own

-- ---- coefficients times n
abbrev pub times_over : ℤ → Frac → ℤ
times_over n f = int_div (n *ℤ f.num) f.den

abbrev pub lin_row : ℤ → List ℕ → Lin → Row
lin_row n vs l = record { constant = times_over n l.constant; cells = map (λ v. times_over n (linear_at l.linear v)) vs }

-- the coefficient of a product stands with its first variable
abbrev pub upper_at : Quad → ℕ → ℕ → Frac
upper_at q u v = cond (nat_lt v u) (whole 0) (square_at q.square u v)

abbrev pub quad_quadratic : ℤ → List ℕ → Quad → Quadratic
quad_quadratic n vs q = record {
  constant = times_over n q.constant;
  linear = map (λ v. times_over n (linear_at q.linear v)) vs;
  square = map (λ u. map (λ v. times_over n (upper_at q u v)) vs) vs;
}

-- ---- the game
abbrev pub game_rule : ℤ → List ℕ → Rule → GameRule
game_rule n vs r = record { equation = r.equation.at; relation = r.relation; row = lin_row n vs r.row }

abbrev pub game_purpose : ℤ → List ℕ → Purpose → GamePurpose
game_purpose n vs (Goal q) = goal (quad_quadratic n vs q)
game_purpose n vs (Flow ls) = flow (map (lin_row n vs) ls)

abbrev pub game_player : ℤ → List ℕ → BlockPart → Player
game_player n vs b = record { own = map (λ v. place_in vs v.at) b.own; purpose = game_purpose n vs b.purpose; rules = map (game_rule n vs) b.rules }

abbrev pub game_leader : ℤ → List ℕ → Option LeaderPart → Option Leader
game_leader n vs None = None
game_leader n vs (Some l) = Some (record { own = map (λ v. place_in vs v.at) l.own; goal = lin_row n vs l.goal; rules = map (game_rule n vs) l.rules })

abbrev pub game : ℤ → AgentProblem → Game
game n pr = record {
  ranges = map (λ v. (v.low, v.high)) pr.variables;
  leader = game_leader n (left_of pr) pr.leader;
  players = map (game_player n (left_of pr)) pr.blocks;
  duals = map (λ d. (place_in (left_of pr) d.0.at, d.1.at)) pr.duals;
  visols = map (λ e. e.at) pr.visols;
}

-- ---- n is a multiple of each denominator
-- so that the coefficient times n is a whole number
abbrev pub IsWholeOver : ℤ → Frac → Type 0
IsWholeOver n f = times_over n f *ℤ f.den ≡ n *ℤ f.num

pub record LinIsOver (n : ℤ) (l : Lin) : Type 0 where
  pub constant : IsWholeOver n l.constant
  pub linear : (v : ℕ) → IsWholeOver n (linear_at l.linear v)

pub record QuadIsOver (n : ℤ) (q : Quad) : Type 0 where
  pub constant : IsWholeOver n q.constant
  pub linear : (v : ℕ) → IsWholeOver n (linear_at q.linear v)
  pub square : (u v : ℕ) → IsWholeOver n (square_at q.square u v)

abbrev pub PurposeIsOver : ℤ → Purpose → Type 0
PurposeIsOver n (Goal q) = QuadIsOver n q
PurposeIsOver n (Flow ls) = All (LinIsOver n) ls

pub record BlockIsOver (n : ℤ) (b : BlockPart) : Type 0 where
  pub purpose : PurposeIsOver n b.purpose
  pub rules : All (λ r. LinIsOver n r.row) b.rules

abbrev pub LeaderIsOver : ℤ → Option LeaderPart → Type 0
LeaderIsOver n None = Unit {0}
LeaderIsOver n (Some l) = LinIsOver n l.goal × All (λ r. LinIsOver n r.row) l.rules

pub record IsOver (n : ℤ) (pr : AgentProblem) : Type 0 where
  pub positive : pos 0 <ℤ n
  pub leads : LeaderIsOver n pr.leader
  pub blocks : All (BlockIsOver n) pr.blocks
