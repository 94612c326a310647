-- What the faces that a walk lists say of a file. For an equilibrium file `SolvesFile` is being an equilibrium.
use Rattle.std.specs.Prelude.{◌↔◌, ℕ, List}
use Rattle.emp_num.specs.Point.{Point}
use Rattle.emp_ast.specs.declared.model.Model.{Model}
use Rattle.emp_ast.specs.declared.annot.Annot.{Annot}
use Rattle.emp_rows.specs.declared.system.RowSystem.{RowSystem}
use Rattle.emp_problem.specs.Class.{SolvesFile}
use Rattle.emp_verdict.specs.Laws.{HasRows, IsFileOf}
use Rattle.emp_faces.specs.Shown.{OnSome, AreFaces}

-- where the row points are those of the faces, what solves the file is the file's point of a point of one of them
abbrev pub FacesSolveFiles : Type 0
FacesSolveFiles = (m : Model) (a : Annot) (s : RowSystem) (paths : List (List ℕ)) (p : Point) → HasRows m a s → AreFaces s paths → SolvesFile m a p ↔ ((q : Point) × OnSome s paths q × IsFileOf m a q p)
