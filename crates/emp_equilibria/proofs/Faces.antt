-- What solves a file is what lies on a listed face.
use Rattle.std.proofs.Common.{Bool, true, false}
use Rattle.emp_num.specs.Point.{Point}
use Rattle.emp_ast.specs.declared.model.Model.{Model}
use Rattle.emp_ast.specs.declared.annot.Annot.{Annot}
use Rattle.emp_ast.specs.Rivals.{Fits}
use Rattle.emp_problem.specs.Class.{SolvesBy}
use Rattle.emp_verdict.proofs.Verdicts.{file_lifts, points_solve}
use Rattle.emp_verdict.proofs.Meaning.{file_is_game}
use Rattle.emp_equilibria.specs.Laws.{FacesSolveFiles}

fits_of : (b : Bool) (m : Model) (a : Annot) (p : Point) → SolvesBy b m a p → Fits m p
fits_of false m a p h = h.fits
fits_of true m a p h = h.follows.fits

pub faces_solve_files : FacesSolveFiles
faces_solve_files m a s paths p rows are = (
  λ h. let r = file_lifts file_is_game m a s p rows h in
      (r.row, (are r.row).0 r.solves, record { fits = fits_of a.bilevel m a p h; definitions = (file_is_game.complete rows.times m a rows.game p rows.class rows.is h).0; same = r.same }),
  λ x. points_solve file_is_game m a s p x.0 rows ((are x.0).1 x.1) x.2,
)
