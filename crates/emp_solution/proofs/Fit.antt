-- The problem of a file of the class is fit to have rows.
use Rattle.std.proofs.Common.{◌≡◌, ◌≤◌, length, Ok, arith}
use Rattle.std.proofs.lemmas.List.{length-map}
use Rattle.emp_ast.specs.declared.model.Model.{Model}
use Rattle.emp_ast.specs.declared.annot.Annot.{Annot}
use Rattle.emp_rows.specs.declared.system.RowSystem.{RowSystem}
use Rattle.emp_split.specs.Games.{coordinates}
use Rattle.emp_problem.specs.declared.problem.AgentProblem.{AgentProblem}
use Rattle.emp_problem.specs.Problem.{game}
use Rattle.emp_problem.specs.ProblemOf.{IsProblemOf}
use Rattle.emp_problem.specs.Class.{IsClassFile}
use Rattle.emp_whole.proofs.Multiples.{each_problem_is_whole}
use Rattle.emp_subst.proofs.Keeping.{own_keeps, functions_keep, duals_keep, leader_keeps}
use Rattle.emp_kkt.specs.Gives.{IsFit, KktGives}

pub fit : (m : Model) (a : Annot) (pr : AgentProblem) → IsClassFile m a → IsProblemOf m a pr → IsFit pr
fit m a pr class problem = record {
  own = own_keeps m a pr class problem;
  functions = functions_keep m a pr problem;
  duals = duals_keep m a pr class problem;
  leader = leader_keeps m a pr problem;
}

-- the base variables begin with those that are left
pub base_reaches : (pr : AgentProblem) (s : RowSystem) → KktGives pr (Ok s) → length pr.variables ≤ s.base
base_reaches pr s h =
    let n = each_problem_is_whole pr in
    let base = (h.over n.0 n.1).base in
    let count : coordinates (game n.0 pr) ≡ length pr.variables = length-map pr.variables _ in
    omega (arith, base, count)
