-- The laws of files and their rows, as statements.
use Rattle.std.specs.Prelude.{◌≡◌, List, length, take, Ok}
use Rattle.emp_num.specs.declared.frac.Frac.{Frac}
use Rattle.emp_num.specs.Point.{Point, StandsFor}
use Rattle.emp_ast.specs.declared.model.Model.{Model}
use Rattle.emp_ast.specs.declared.annot.Annot.{Annot}
use Rattle.emp_ast.specs.Rivals.{Fits}
use Rattle.emp_cert.specs.declared.cert.Verdict.{Verdict}
use Rattle.emp_cert.specs.Verdicts.{VerdictShown}
use Rattle.emp_verdict.specs.Laws.{HasRows, IsFileOf, HasCoordinates}
use Rattle.emp_subst.specs.Fill.{FillGives, spread}
use Rattle.emp_solution.specs.declared.state.Stated.{Stated}
use Rattle.emp_solution.specs.Stated.{IsStated}
use Rattle.emp_solution.specs.Tells.{VerdictTells}

-- the row system of a file is that of its game
abbrev pub StatedHasRows : Type 0
StatedHasRows = (m : Model) (a : Annot) (s : Stated) → IsStated m a s → HasRows m a s.system

-- a verdict that is shown of the row system tells what it tells of the file
abbrev pub StatedTells : Type 0
StatedTells = (m : Model) (a : Annot) (s : Stated) (v : Verdict) → IsStated m a s → VerdictShown s.system v → VerdictTells m a v

-- the point that is filled from a row point's first numbers is the file's point of the row point
abbrev pub FilledIsFile : Type 0
FilledIsFile = (m : Model) (a : Annot) (s : Stated) (fs values : List Frac) (q p : Point) → IsStated m a s → length fs ≡ s.system.base → FillGives m a s.problem (take (length s.problem.variables) fs) (Ok values) → StandsFor fs q → StandsFor values p → IsFileOf m a q p

-- and the step that is spread over all variables is one of the file
abbrev pub SpreadIsStep : Type 0
SpreadIsStep = (m : Model) (a : Annot) (s : Stated) (gs : List Frac) (d v : Point) → IsStated m a s → length gs ≡ s.system.base → StandsFor gs d → StandsFor (spread m a gs) v → Fits m v × HasCoordinates m a v d
