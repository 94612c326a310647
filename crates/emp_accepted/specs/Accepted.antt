-- Accepted pairs, in the words of the files.
use Rattle.std.specs.Prelude.{ℕ, ◌<◌, length}
use Rattle.emp_ast.specs.declared.model.Model.{Model}
use Rattle.emp_ast.specs.declared.annot.Annot.{Annot}
use Rattle.emp_ast.specs.Convex.{IsConvex}
use Rattle.emp_problem.specs.declared.problem.AgentProblem.{AgentProblem}
use Rattle.emp_problem.specs.Class.{IsClassFile}
use Rattle.emp_problem.specs.ProblemOf.{IsProblemOf}
use Rattle.emp_kkt.specs.Gives.{Fits}

-- no rule of ownership is broken, each equation is a polynomial of degree at most 2 on both sides, constraints, functions and a leader's
-- objective are affine, each agent is convex in all its counted own variables, and there are at most 256 base variables and 512 quantities: those of the problem of
-- the file, where its coefficients are fractions; where one is none, the pair's numbers are wide and nothing is asked
pub record IsAcceptedPair (m : Model) (a : Annot) : Type 0 where
  pub class : IsClassFile m a
  pub convex : (k : ℕ) → k < length a.blocks → IsConvex m a k
  pub sizes : (pr : AgentProblem) → IsProblemOf m a pr → Fits pr
