-- What fits and solves a file and the problem of its variables that are left, and which of two points is better.
use Rattle.std.specs.Prelude.{◌≡◌, ℤ, Bool, true, false, length, Ok}
use Rattle.emp_num.specs.Point.{Point}
use Rattle.emp_ast.specs.declared.model.Model.{Model}
use Rattle.emp_ast.specs.declared.annot.Annot.{Annot}
use Rattle.emp_ast.specs.Bilevel.{IsBetterForLeader}
use Rattle.emp_rows.specs.declared.system.RowSystem.{RowSystem}
use Rattle.emp_split.specs.Meaning.{IsAdmissible, IsBetter}
use Rattle.emp_problem.specs.declared.problem.AgentProblem.{AgentProblem}
use Rattle.emp_problem.specs.Problem.{game, IsOver}
use Rattle.emp_problem.specs.ProblemOf.{IsProblemOf}
use Rattle.emp_problem.specs.Class.{IsClassFile}
use Rattle.emp_meaning.specs.Laws.{IsWellMade}
use Rattle.emp_share.specs.Share.{ShareGives}
use Rattle.emp_kkt.specs.Gives.{KktGives}

-- ---- a file: an equilibrium or an admissible point solves it (`SolvesFile`)
abbrev pub BetterBy : Bool → Model → Annot → Point → Point → Type 0
BetterBy false m a p q = ⊥
BetterBy true m a p q = IsBetterForLeader m a p q

-- by the leader's objective; in an equilibrium file no point is better
abbrev pub IsBetterOfFile : Model → Annot → Point → Point → Type 0
IsBetterOfFile m a p q = BetterBy a.bilevel m a p q

-- ---- the problem of the variables that are left: one coordinate for each
abbrev pub FitsProblem : AgentProblem → Point → Type 0
FitsProblem pr p = length p.nums ≡ length pr.variables

-- over each number that makes all coefficients whole, the point solves the game
pub record SolvesProblem (pr : AgentProblem) (p : Point) : Type 0 where
  pub fits : FitsProblem pr p
  pub over : (n : ℤ) → IsOver n pr → IsAdmissible (game n pr) p.den p.nums

-- and by the leader of this game the first point is better
abbrev pub IsBetterOfProblem : AgentProblem → Point → Point → Type 0
IsBetterOfProblem pr p q = (n : ℤ) → IsOver n pr → IsBetter (game n pr).leader p.den p.nums q.den q.nums

-- ---- what the steps from one to the next have kept
-- the problem is that of the file, which is of the class
pub record IsFilesProblem (m : Model) (a : Annot) (pr : AgentProblem) : Type 0 where
  pub class : IsClassFile m a
  pub problem : IsProblemOf m a pr

-- the system is that of the problem; its agents are convex, and over each number that makes all coefficients whole its game is one
pub record IsProblemsSystem (pr : AgentProblem) (s : RowSystem) : Type 0 where
  pub made : (n : ℤ) → IsOver n pr → IsWellMade (game n pr)
  pub convex : ShareGives pr (Ok tt)
  pub rows : KktGives pr (Ok s)
