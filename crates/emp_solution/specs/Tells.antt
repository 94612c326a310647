-- What a verdict on the row system of a file says of the file.
use Rattle.emp_num.specs.Point.{Point, StandsFor}
use Rattle.emp_ast.specs.declared.model.Model.{Model}
use Rattle.emp_ast.specs.declared.annot.Annot.{Annot}
use Rattle.emp_ast.specs.Rivals.{Fits}
use Rattle.emp_ast.specs.Equilibrium.{IsEquilibrium}
use Rattle.emp_ast.specs.Bilevel.{IsBest, IsRay}
use Rattle.emp_cert.specs.declared.cert.Verdict.{Verdict}
use Rattle.emp_cert.specs.declared.cert.Verdict.TheVariants.{Point as PointVerdict, Missing, Best, Unbounded}
use Rattle.emp_problem.specs.Class.{SolvesFile}
use Rattle.emp_verdict.specs.Laws.{IsFileOf, HasCoordinates}

-- of each file's point of the row point that the verdict names, and of each step: an equilibrium; none solves the file; a best point; a
-- ray
abbrev pub VerdictTells : Model → Annot → Verdict → Type 0
VerdictTells m a (PointVerdict fs) = (q p : Point) → StandsFor fs q → IsFileOf m a q p → IsEquilibrium m a p
VerdictTells m a (Missing t) = (p : Point) → SolvesFile m a p → ⊥
VerdictTells m a (Best fs t) = (q p : Point) → StandsFor fs q → IsFileOf m a q p → IsBest m a p
VerdictTells m a (Unbounded fs gs) = (q d p v : Point) → StandsFor fs q → StandsFor gs d → IsFileOf m a q p → Fits m v → HasCoordinates m a v d → IsRay m a p v
