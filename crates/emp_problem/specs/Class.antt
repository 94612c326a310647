-- Files whose equations are polynomials, affine where they are constraints or functions, and what solves a file.
use Rattle.std.specs.Prelude.{◌≡◌, ℕ, zero, suc, ◌<◌, Bool, true, false, ◌&&◌, ◌||◌, List, All, length, slice_get, Option, Some, None}
use Rattle.emp_num.specs.Point.{Point}
use Rattle.emp_ast.specs.declared.tree.VarId.{VarId}
use Rattle.emp_ast.specs.declared.tree.EquId.{EquId}
use Rattle.emp_ast.specs.declared.model.Equation.{Equation}
use Rattle.emp_ast.specs.declared.model.Sense.{Sense}
use Rattle.emp_ast.specs.declared.model.Model.{Model}
use Rattle.emp_ast.specs.declared.annot.Block.{Block}
use Rattle.emp_ast.specs.declared.annot.Block.TheVariants.{Agent, Vi}
use Rattle.emp_ast.specs.declared.annot.Annot.{Annot}
use Rattle.emp_ast.specs.Expression.{expression_of}
use Rattle.emp_ast.specs.Parties.{leader, block, is_constraint}
use Rattle.emp_ast.specs.Equilibrium.{IsEquilibrium}
use Rattle.emp_ast.specs.Bilevel.{IsAdmissible}
use Rattle.emp_form.specs.Form.{IsLinear}
use Rattle.emp_form.specs.Expansion.{form, IsPolynomial}
use Rattle.emp_owner.specs.Rules.{is_function}
use Rattle.emp_owner.specs.Settled.{IsKept}
use Rattle.emp_agents.specs.Given.{difference, given_form}

-- ---- numbers that are those of a model with so many variables and equations
abbrev pub VariablesFit : ℕ → List VarId → Type 0
VariablesFit n vs = All (λ v. v.at < n) vs

abbrev pub EquationsFit : ℕ → List EquId → Type 0
EquationsFit n es = All (λ e. e.at < n) es

abbrev pub BlockFits : ℕ → ℕ → Block → Type 0
BlockFits v e (Agent sense objective vars equs) = (objective.at < v) × VariablesFit v vars × EquationsFit e equs
BlockFits v e (Vi zeros pairs equs) = VariablesFit v zeros × All (λ q. (q.0.at < e) × (q.1.at < v)) pairs × EquationsFit e equs

abbrev pub GoalFits : Model → Type 0
GoalFits m = by_goal m.goal
  where
    by_goal : Option (Sense × VarId) → Type 0
    by_goal None = Unit {0}
    by_goal (Some g) = g.1.at < length m.variables

-- the numbers that the annotation names are those of the model
pub record AnnotFits (m : Model) (a : Annot) : Type 0 where
  pub leader : VariablesFit (length m.variables) a.leader
  pub blocks : All (BlockFits (length m.variables) (length m.equations)) a.blocks
  pub duals : All (λ d. (d.0.at < length m.variables) × (d.1.at < length m.equations)) a.duals
  pub visols : EquationsFit (length m.equations) a.visols
  pub implicits : All (λ i. (i.0.at < length m.variables) × (i.1.at < length m.equations)) a.implicits

-- ---- the class
-- a constraint of one of the first k blocks
abbrev pub some_block_constrains : Model → Annot → ℕ → ℕ → Bool
some_block_constrains m a e zero = false
some_block_constrains m a e (suc k) = is_constraint m a (block k) e || some_block_constrains m a e k

-- a constraint of a block, a leader's constraint, or the function of a pair
abbrev pub is_affine : Model → Annot → ℕ → Bool
is_affine m a e = some_block_constrains m a e (length a.blocks) || ((a.bilevel && is_constraint m a leader e) || is_function a e)

-- both sides are polynomials
abbrev pub Expands : Equation → Type 0
Expands q = IsPolynomial (expression_of q.left.nodes) × IsPolynomial (expression_of q.right.nodes)

pub record IsClassFile (m : Model) (a : Annot) : Type 0 where
  pub goal : GoalFits m
  pub fits : AnnotFits m a
  pub kept : IsKept m a
  pub expanded : (e : ℕ) (q : Equation) → slice_get m.equations e ≡ Some q → Expands q
  pub linear : (e : ℕ) (q : Equation) → slice_get m.equations e ≡ Some q → is_affine m a e ≡ true → IsLinear (form (difference q))
  pub leads : a.bilevel ≡ true → IsLinear (given_form m a leader)

-- ---- what solves a file: an equilibrium, or in a bilevel file an admissible point
abbrev pub SolvesBy : Bool → Model → Annot → Point → Type 0
SolvesBy false m a p = IsEquilibrium m a p
SolvesBy true m a p = IsAdmissible m a p

abbrev pub SolvesFile : Model → Annot → Point → Type 0
SolvesFile m a p = SolvesBy a.bilevel m a p
