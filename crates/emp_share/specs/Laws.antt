-- What the answer of the test of convexity says of the game and of the file, as statements.
use Rattle.std.specs.Prelude.{◌≡◌, ℕ, ◌+◌, ◌<◌, ℤ, length, Ok, Err}
use Rattle.emp_ast.specs.declared.model.Model.{Model}
use Rattle.emp_ast.specs.declared.annot.Annot.{Annot}
use Rattle.emp_ast.specs.Convex.{IsConvexUpTo, IsConvex}
use Rattle.emp_split.specs.Games.{IsGame, IsConvexGame}
use Rattle.emp_problem.specs.declared.problem.AgentProblem.{AgentProblem}
use Rattle.emp_problem.specs.Problem.{game, IsOver}
use Rattle.emp_problem.specs.ProblemOf.{IsProblemOf}
use Rattle.emp_problem.specs.Class.{IsClassFile}
use Rattle.emp_share.specs.declared.share.ShareFault.{ShareFault}
use Rattle.emp_share.specs.declared.share.ShareFault.TheVariants.{NotConvex, WideCurve, NoMemory}
use Rattle.emp_share.specs.Share.{ShareGives}

-- where all agents pass, the game of the problem is convex
abbrev pub PassingIsConvex : Type 0
PassingIsConvex = (n : ℤ) (pr : AgentProblem) → IsOver n pr → IsGame (game n pr) → ShareGives pr (Ok tt) → IsConvexGame (game n pr)

-- and each agent of the file is convex in all its counted variables
abbrev pub PassingTells : Type 0
PassingTells = (m : Model) (a : Annot) (pr : AgentProblem) → IsProblemOf m a pr → IsClassFile m a → ShareGives pr (Ok tt) → (k : ℕ) → k < length a.blocks → IsConvex m a k

-- the agent of the block of this number, counted from 1, is convex in fewer than its first k counted variables
pub record IsConvexBelow (m : Model) (a : Annot) (number k : ℕ) : Type 0 where
  pub at : ℕ
  pub is : number ≡ at + 1
  pub below : at < length a.blocks
  pub fewer : (h : ℕ) → h < k → IsConvexUpTo m a at h

-- and not in these
pub record IsNotConvex (m : Model) (a : Annot) (number k : ℕ) : Type 0 where
  pub least : IsConvexBelow m a number k
  pub not : IsConvexUpTo m a least.at k → ⊥

abbrev pub FaultSays : Model → Annot → ShareFault → Type 0
FaultSays m a (NotConvex b k) = IsNotConvex m a b k
FaultSays m a (WideCurve b k) = IsConvexBelow m a b k
FaultSays m a NoMemory = Unit {0}

-- what a fault says of the file
abbrev pub FaultTells : Type 0
FaultTells = (m : Model) (a : Annot) (pr : AgentProblem) → IsProblemOf m a pr → IsClassFile m a → (f : ShareFault) → ShareGives pr (Err f) → FaultSays m a f
