-- Numbers over which the coefficients of a problem are whole, and the game of its file, as statements.
use Rattle.std.specs.Prelude.{ℤ}
use Rattle.emp_ast.specs.declared.model.Model.{Model}
use Rattle.emp_ast.specs.declared.annot.Annot.{Annot}
use Rattle.emp_problem.specs.declared.problem.AgentProblem.{AgentProblem}
use Rattle.emp_problem.specs.GameOf.{IsGameOf}
use Rattle.emp_problem.specs.Problem.{game, IsOver}
use Rattle.emp_problem.specs.ProblemOf.{IsProblemOf}

-- there is such a number
abbrev pub EachProblemIsWhole : Type 0
EachProblemIsWhole = (pr : AgentProblem) → (n : ℤ) × IsOver n pr

-- over each such number the problem of a file is the game of the file
abbrev pub ProblemsHaveGames : Type 0
ProblemsHaveGames = (n : ℤ) (m : Model) (a : Annot) (pr : AgentProblem) → IsProblemOf m a pr → IsOver n pr → IsGameOf n m a (game n pr)
