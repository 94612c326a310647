-- The laws of the layers, as statements.
use Rattle.std.specs.Prelude.{◌≡◌, ◌↔◌, length}
use Rattle.emp_num.specs.Point.{Point}
use Rattle.emp_num.specs.SamePoint.{SamePoint}
use Rattle.emp_ast.specs.declared.model.Model.{Model}
use Rattle.emp_ast.specs.declared.annot.Annot.{Annot}
use Rattle.emp_ast.specs.Rivals.{Fits}
use Rattle.emp_rows.specs.declared.system.RowSystem.{RowSystem}
use Rattle.emp_rows.specs.RowPoints.{Solves}
use Rattle.emp_quantities.specs.System.{IsBelowBy}
use Rattle.emp_problem.specs.declared.problem.AgentProblem.{AgentProblem}
use Rattle.emp_problem.specs.Class.{SolvesFile}
use Rattle.emp_split.proofs.Reforms.{front}
use Rattle.emp_verdict.specs.Laws.{IsFileOf}
use Rattle.emp_layers.specs.Layers.{IsBetterOfFile, FitsProblem, SolvesProblem, IsBetterOfProblem, IsFilesProblem, IsProblemsSystem}
use Rattle.emp_layers.specs.Image.{image}

-- ---- from the problem to its file
-- only points that fit solve a file
abbrev pub SolvingFits : Type 0
SolvingFits = (m : Model) (a : Annot) (p : Point) → SolvesFile m a p → Fits m p

-- the image has the point's coordinates and meets the definitions
abbrev pub ImageIsFile : Type 0
ImageIsFile = (m : Model) (a : Annot) (pr : AgentProblem) (p : Point) → IsFilesProblem m a pr → FitsProblem pr p → IsFileOf m a p (image m a pr p)

-- and each point of the file that does is this one
abbrev pub ImageIsOne : Type 0
ImageIsOne = (m : Model) (a : Annot) (pr : AgentProblem) (p q : Point) → IsFilesProblem m a pr → FitsProblem pr p → IsFileOf m a p q → SamePoint (image m a pr p) q

-- the image of the same point is the same point
abbrev pub ImagesAreSame : Type 0
ImagesAreSame = (m : Model) (a : Annot) (pr : AgentProblem) (p q : Point) → IsFilesProblem m a pr → FitsProblem pr p → FitsProblem pr q → SamePoint p q → SamePoint (image m a pr p) (image m a pr q)

-- what solves the problem has an image that solves the file
abbrev pub ProblemIsSound : Type 0
ProblemIsSound = (m : Model) (a : Annot) (pr : AgentProblem) (p : Point) → IsFilesProblem m a pr → SolvesProblem pr p → SolvesFile m a (image m a pr p)

abbrev pub ProblemKeepsOrder : Type 0
ProblemKeepsOrder = (m : Model) (a : Annot) (pr : AgentProblem) (p q : Point) → IsFilesProblem m a pr → SolvesProblem pr p → SolvesProblem pr q → IsBetterOfProblem pr p q ↔ IsBetterOfFile m a (image m a pr p) (image m a pr q)

-- what solves the file is the image of what solves the problem
abbrev pub ProblemLifts : Type 0
ProblemLifts = (m : Model) (a : Annot) (pr : AgentProblem) (q : Point) → IsFilesProblem m a pr → SolvesFile m a q → (p : Point) × SolvesProblem pr p × SamePoint (image m a pr p) q

-- ---- from the rows to their problem, by the first coordinates
abbrev pub RowsFit : Type 0
RowsFit = (pr : AgentProblem) (s : RowSystem) (p : Point) → IsProblemsSystem pr s → length p.nums ≡ s.base → FitsProblem pr (front (length pr.variables) p)

abbrev pub RowsAreSound : Type 0
RowsAreSound = (pr : AgentProblem) (s : RowSystem) (p : Point) → IsProblemsSystem pr s → Solves s p → SolvesProblem pr (front (length pr.variables) p)

abbrev pub RowsKeepOrder : Type 0
RowsKeepOrder = (pr : AgentProblem) (s : RowSystem) (p q : Point) → IsProblemsSystem pr s → Solves s p → Solves s q → IsBelowBy s.objective p q ↔ IsBetterOfProblem pr (front (length pr.variables) p) (front (length pr.variables) q)

abbrev pub RowsLift : Type 0
RowsLift = (pr : AgentProblem) (s : RowSystem) (q : Point) → IsProblemsSystem pr s → SolvesProblem pr q → (p : Point) × Solves s p × SamePoint (front (length pr.variables) p) q
