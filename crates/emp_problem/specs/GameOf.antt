-- The game of a file: its coordinates are the variables that are left, and all its numbers are those of the polynomials
-- times one number n above 0.
use Rattle.std.specs.Prelude.{◌≡◌, ℕ, suc, ◌<◌, ℤ, pos, ◌*ℤ◌, ◌<ℤ◌, Bool, true, false, List, [], ◌∷◌, All, map, length, slice_get, slice_index_or, Option, Some, None}
use Rattle.emp_algebra.specs.Vector.{cell}
use Rattle.emp_systems.specs.Steps.{Quadratic}
use Rattle.emp_ast.specs.declared.tree.EquId.{EquId}
use Rattle.emp_ast.specs.declared.model.Equation.{Equation}
use Rattle.emp_ast.specs.declared.model.Model.{Model}
use Rattle.emp_ast.specs.declared.annot.Block.{Block}
use Rattle.emp_ast.specs.declared.annot.Block.TheVariants.{Agent, Vi}
use Rattle.emp_ast.specs.declared.annot.Annot.{Annot}
use Rattle.emp_ast.specs.Parties.{leader, block, constraints}
use Rattle.emp_ast.specs.Convex.{counted}
use Rattle.emp_form.specs.Form.{Form}
use Rattle.emp_form.specs.Expansion.{form}
use Rattle.emp_game.specs.Game.{Row, Rule, Purpose, goal, flow, Player}
use Rattle.emp_game.specs.Conditions.{row_of}
use Rattle.emp_split.specs.Games.{Leader, Game}
use Rattle.emp_left.specs.Left.{upper}
use Rattle.emp_agents.specs.Given.{difference}
use Rattle.emp_problem.specs.Left.{left, place, range_of, leader_own, function_form, goal_form, block_flow}

-- n times the form, by its coefficients of the variables vs
pub record IsRowOf (n : ℤ) (vs : List ℕ) (f : Form) (r : Row) : Type 0 where
  pub count : length r.cells ≡ length vs
  pub constant : r.constant *ℤ f.den ≡ n *ℤ f.constant
  pub each : (i : ℕ) → i < length vs → cell r.cells i *ℤ f.den ≡ n *ℤ f.linear (slice_index_or vs i 0)

pub record IsQuadraticOf (n : ℤ) (vs : List ℕ) (f : Form) (q : Quadratic) : Type 0 where
  pub count : length q.linear ≡ length vs
  pub constant : q.constant *ℤ f.den ≡ n *ℤ f.constant
  pub each : (i : ℕ) → i < length vs → cell q.linear i *ℤ f.den ≡ n *ℤ f.linear (slice_index_or vs i 0)
  pub rows : length q.square ≡ length vs
  pub widths : All (λ r. length r ≡ length vs) q.square
  pub products : (i j : ℕ) → i < length vs → j < length vs → cell (row_of q.square i) j *ℤ f.den ≡ n *ℤ upper f.square (slice_index_or vs i 0) (slice_index_or vs j 0)

-- ---- blocks
abbrev pub AreFlowsOf : ℤ → Model → List ℕ → List (Option ℕ) → List Row → Type 0
AreFlowsOf n m vs [] [] = Unit {0}
AreFlowsOf n m vs [] (r ∷ rs) = ⊥
AreFlowsOf n m vs (g ∷ gs) [] = ⊥
AreFlowsOf n m vs (g ∷ gs) (r ∷ rs) = IsRowOf n vs (function_form m g) r × AreFlowsOf n m vs gs rs

abbrev pub IsPurposeOf : ℤ → Model → Annot → ℕ → Block → Purpose → Type 0
IsPurposeOf n m a k (Agent sense objective vars equs) (goal q) = IsQuadraticOf n (left m a) (goal_form m a (block k)) q
IsPurposeOf n m a k (Agent sense objective vars equs) (flow fs) = ⊥
IsPurposeOf n m a k (Vi zeros pairs equs) (goal q) = ⊥
IsPurposeOf n m a k (Vi zeros pairs equs) (flow fs) = AreFlowsOf n m (left m a) (block_flow (Vi zeros pairs equs)) fs

-- left minus right of the equation and its relation
pub record IsRuleOf (n : ℤ) (m : Model) (vs : List ℕ) (e : ℕ) (r : Rule) : Type 0 where
  pub equation : r.equation ≡ e
  pub relation : (q : Equation) → slice_get m.equations e ≡ Some q → r.relation ≡ q.relation
  pub row : (q : Equation) → slice_get m.equations e ≡ Some q → IsRowOf n vs (form (difference q)) r.row

abbrev pub AreRulesOf : ℤ → Model → List ℕ → List EquId → List Rule → Type 0
AreRulesOf n m vs [] [] = Unit {0}
AreRulesOf n m vs [] (r ∷ rs) = ⊥
AreRulesOf n m vs (e ∷ es) [] = ⊥
AreRulesOf n m vs (e ∷ es) (r ∷ rs) = IsRuleOf n m vs e.at r × AreRulesOf n m vs es rs

pub record IsPlayerOf (n : ℤ) (m : Model) (a : Annot) (k : ℕ) (b : Block) (pl : Player) : Type 0 where
  pub own : pl.own ≡ map (λ v. place m a v.at) (counted m a k)
  pub purpose : IsPurposeOf n m a k b pl.purpose
  pub rules : AreRulesOf n m (left m a) (constraints m a (block k)) pl.rules

abbrev pub ArePlayersOf : ℤ → Model → Annot → ℕ → List Block → List Player → Type 0
ArePlayersOf n m a k [] [] = Unit {0}
ArePlayersOf n m a k [] (pl ∷ pls) = ⊥
ArePlayersOf n m a k (b ∷ bs) [] = ⊥
ArePlayersOf n m a k (b ∷ bs) (pl ∷ pls) = IsPlayerOf n m a k b pl × ArePlayersOf n m a (suc k) bs pls

-- ---- the leader
pub record IsLeaderOf (n : ℤ) (m : Model) (a : Annot) (l : Leader) : Type 0 where
  pub own : l.own ≡ map (place m a) (leader_own m a)
  pub goal : IsRowOf n (left m a) (goal_form m a leader) l.goal
  pub rules : AreRulesOf n m (left m a) (constraints m a leader) l.rules

-- exactly in a bilevel file
abbrev pub LeadsAs : ℤ → Model → Annot → Bool → Option Leader → Type 0
LeadsAs n m a true (Some l) = IsLeaderOf n m a l
LeadsAs n m a true None = ⊥
LeadsAs n m a false (Some l) = ⊥
LeadsAs n m a false None = Unit {0}

pub record IsGameOf (n : ℤ) (m : Model) (a : Annot) (g : Game) : Type 0 where
  pub positive : pos 0 <ℤ n
  pub ranges : g.ranges ≡ map (range_of m) (left m a)
  pub leads : LeadsAs n m a a.bilevel g.leader
  pub players : ArePlayersOf n m a 0 a.blocks g.players
  pub duals : g.duals ≡ map (λ d. (place m a d.0.at, d.1.at)) a.duals
  pub visols : g.visols ≡ map (λ e. e.at) a.visols
