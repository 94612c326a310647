-- The problem of a file: what is left when each defined objective is put in the place of its variable.
use Rattle.std.specs.Prelude.{◌≡◌, ℕ, suc, Bool, true, false, List, [], ◌∷◌, map, slice_get, Option, Some, None}
use Rattle.emp_ast.specs.declared.tree.EquId.{EquId}
use Rattle.emp_ast.specs.declared.model.Equation.{Equation}
use Rattle.emp_ast.specs.declared.model.Model.{Model}
use Rattle.emp_ast.specs.declared.annot.Block.{Block}
use Rattle.emp_ast.specs.declared.annot.Block.TheVariants.{Agent, Vi}
use Rattle.emp_ast.specs.declared.annot.Annot.{Annot}
use Rattle.emp_ast.specs.Parties.{leader, block, constraints}
use Rattle.emp_ast.specs.Convex.{counted}
use Rattle.emp_form.specs.Expansion.{form}
use Rattle.emp_poly.specs.Quads.{HasForm}
use Rattle.emp_poly.specs.Gradient.{LinHasForm}
use Rattle.emp_poly.specs.declared.quad.Lin.{Lin}
use Rattle.emp_agents.specs.Given.{difference}
use Rattle.emp_problem.specs.declared.problem.LeftVariable.{LeftVariable}
use Rattle.emp_problem.specs.declared.problem.Rule.{Rule}
use Rattle.emp_problem.specs.declared.problem.Purpose.{Purpose}
use Rattle.emp_problem.specs.declared.problem.Purpose.TheVariants.{Goal, Flow}
use Rattle.emp_problem.specs.declared.problem.BlockPart.{BlockPart}
use Rattle.emp_problem.specs.declared.problem.LeaderPart.{LeaderPart}
use Rattle.emp_problem.specs.declared.problem.AgentProblem.{AgentProblem}
use Rattle.emp_problem.specs.Left.{left, range_of, leader_own, function_form, goal_form, block_flow}

abbrev pub left_variable : Model → ℕ → LeftVariable
left_variable m v = record { variable = record { at = v }; low = (range_of m v).0; high = (range_of m v).1 }

-- ---- constraints
pub record IsRuleFor (m : Model) (e : EquId) (r : Rule) : Type 0 where
  pub equation : r.equation ≡ e
  pub relation : (q : Equation) → slice_get m.equations e.at ≡ Some q → r.relation ≡ q.relation
  pub row : (q : Equation) → slice_get m.equations e.at ≡ Some q → LinHasForm r.row (form (difference q))

abbrev pub AreRulesFor : Model → List EquId → List Rule → Type 0
AreRulesFor m [] [] = Unit {0}
AreRulesFor m [] (r ∷ rs) = ⊥
AreRulesFor m (e ∷ es) [] = ⊥
AreRulesFor m (e ∷ es) (r ∷ rs) = IsRuleFor m e r × AreRulesFor m es rs

-- ---- blocks
abbrev pub AreFlowsFor : Model → List (Option ℕ) → List Lin → Type 0
AreFlowsFor m [] [] = Unit {0}
AreFlowsFor m [] (l ∷ ls) = ⊥
AreFlowsFor m (g ∷ gs) [] = ⊥
AreFlowsFor m (g ∷ gs) (l ∷ ls) = LinHasForm l (function_form m g) × AreFlowsFor m gs ls

abbrev pub IsPurposeFor : Model → Annot → ℕ → Block → Purpose → Type 0
IsPurposeFor m a k (Agent sense objective vars equs) (Goal q) = HasForm q (goal_form m a (block k))
IsPurposeFor m a k (Agent sense objective vars equs) (Flow ls) = ⊥
IsPurposeFor m a k (Vi zeros pairs equs) (Goal q) = ⊥
IsPurposeFor m a k (Vi zeros pairs equs) (Flow ls) = AreFlowsFor m (block_flow (Vi zeros pairs equs)) ls

pub record IsBlockFor (m : Model) (a : Annot) (k : ℕ) (b : Block) (part : BlockPart) : Type 0 where
  pub own : part.own ≡ counted m a k
  pub purpose : IsPurposeFor m a k b part.purpose
  pub rules : AreRulesFor m (constraints m a (block k)) part.rules

abbrev pub AreBlocksFor : Model → Annot → ℕ → List Block → List BlockPart → Type 0
AreBlocksFor m a k [] [] = Unit {0}
AreBlocksFor m a k [] (p ∷ ps) = ⊥
AreBlocksFor m a k (b ∷ bs) [] = ⊥
AreBlocksFor m a k (b ∷ bs) (p ∷ ps) = IsBlockFor m a k b p × AreBlocksFor m a (suc k) bs ps

-- ---- the leader
pub record IsLeaderFor (m : Model) (a : Annot) (l : LeaderPart) : Type 0 where
  pub own : l.own ≡ map (λ v. record { at = v }) (leader_own m a)
  pub goal : LinHasForm l.goal (goal_form m a leader)
  pub rules : AreRulesFor m (constraints m a leader) l.rules

abbrev pub LeadsFor : Model → Annot → Bool → Option LeaderPart → Type 0
LeadsFor m a true (Some l) = IsLeaderFor m a l
LeadsFor m a true None = ⊥
LeadsFor m a false (Some l) = ⊥
LeadsFor m a false None = Unit {0}

pub record IsProblemOf (m : Model) (a : Annot) (pr : AgentProblem) : Type 0 where
  pub variables : pr.variables ≡ map (left_variable m) (left m a)
  pub leads : LeadsFor m a a.bilevel pr.leader
  pub blocks : AreBlocksFor m a 0 a.blocks pr.blocks
  pub duals : pr.duals ≡ a.duals
  pub visols : pr.visols ≡ a.visols
