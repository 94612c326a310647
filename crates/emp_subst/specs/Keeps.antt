-- What the problem of a file keeps.
use Rattle.std.specs.Prelude.{◌≡◌, ℕ, suc, ◌<◌, ◌≤◌, List, [], ◌∷◌, All, map, length, slice_get, Some}
use Rattle.emp_ast.specs.declared.model.Model.{Model}
use Rattle.emp_ast.specs.declared.annot.Annot.{Annot}
use Rattle.emp_game.specs.Game.{AreApart}
use Rattle.emp_problem.specs.declared.problem.Rule.{Rule}
use Rattle.emp_problem.specs.declared.problem.BlockPart.{BlockPart}
use Rattle.emp_problem.specs.declared.problem.AgentProblem.{AgentProblem}
use Rattle.emp_problem.specs.Problem.{left_of, place_of, HasFunctions, LeaderFits}
use Rattle.emp_problem.specs.ProblemOf.{IsProblemOf}
use Rattle.emp_problem.specs.Class.{IsClassFile}

-- strictly rising, from `least` on
abbrev pub RisesFrom : ℕ → List ℕ → Type 0
RisesFrom least [] = Unit {0}
RisesFrom least (v ∷ vs) = (least ≤ v) × RisesFrom (suc v) vs

-- the rule stands in some block
pub record HasRule (pr : AgentProblem) (r : Rule) : Type 0 where
  pub number : ℕ
  pub part : BlockPart
  pub is : slice_get pr.blocks number ≡ Some part
  pub place : ℕ
  pub at : slice_get part.rules place ≡ Some r

-- the variables that are left rise, own and dual variables are among them, the own variables of a block differ and so do the
-- equations of its rules, there is a function for each own variable of a variational inequality, and an equation has one rule in
-- all blocks
pub record KeepsParts (m : Model) (a : Annot) (pr : AgentProblem) : Type 0 where
  pub rising : RisesFrom 0 (left_of pr)
  pub few : length pr.variables ≤ length m.variables
  pub blocks : length pr.blocks ≡ length a.blocks
  pub own : All (λ b. All (λ v. place_of pr v < length pr.variables) b.own) pr.blocks
  pub apart : All (λ b. AreApart (map (λ v. v.at) b.own) × AreApart (map (λ r. r.equation.at) b.rules)) pr.blocks
  pub functions : All (λ b. HasFunctions b.own b.purpose) pr.blocks
  pub duals : All (λ d. place_of pr d.0 < length pr.variables) pr.duals
  pub leader : LeaderFits pr pr.leader
  pub rules : (r s : Rule) → HasRule pr r → HasRule pr s → r.equation ≡ s.equation → r ≡ s

abbrev pub ProblemsKeep : Type 0
ProblemsKeep = (m : Model) (a : Annot) (pr : AgentProblem) → IsClassFile m a → IsProblemOf m a pr → KeepsParts m a pr
