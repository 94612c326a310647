-- The point of the file that an accepted certificate tells of is there, as a statement.
use Rattle.std.specs.Prelude.{◌≡◌, List}
use Rattle.emp_num.specs.declared.frac.Frac.{Frac}
use Rattle.emp_num.specs.Point.{Point, StandsFor}
use Rattle.emp_ast.specs.declared.model.Model.{Model}
use Rattle.emp_ast.specs.declared.annot.Annot.{Annot}
use Rattle.emp_ast.specs.Rivals.{Fits}
use Rattle.emp_ast.specs.Equilibrium.{IsEquilibrium}
use Rattle.emp_ast.specs.Bilevel.{IsBest, IsRay}
use Rattle.emp_cert.specs.declared.cert.Cert.{Cert}
use Rattle.emp_cert.specs.declared.cert.Verdict.{Verdict}
use Rattle.emp_cert.specs.declared.cert.Verdict.TheVariants.{Point as PointVerdict, Missing, Best, Unbounded}
use Rattle.emp_check.specs.declared.outcome.Checked.TheVariants.{Accepted}
use Rattle.emp_check.specs.Checks.{checked}
use Rattle.emp_verdict.specs.Laws.{IsFileOf, HasCoordinates}
use Rattle.emp_solution.specs.declared.state.Stated.{Stated}
use Rattle.emp_solution.specs.Stated.{IsStated}

-- there is a point of the file of the row point that these fractions stand for, and it is so
pub record HasPoint (m : Model) (a : Annot) (fs : List Frac) (is_so : Point → Type 0) : Type 0 where
  pub row : Point
  pub point : Point
  pub stands : StandsFor fs row
  pub is : IsFileOf m a row point
  pub so : is_so point

-- there are a point and a step of the file of the row point and the row step that these fractions stand for, and they are a ray
pub record HasRay (m : Model) (a : Annot) (fs gs : List Frac) : Type 0 where
  pub row : Point
  pub row_step : Point
  pub point : Point
  pub step : Point
  pub stands : StandsFor fs row
  pub steps_stand : StandsFor gs row_step
  pub is : IsFileOf m a row point
  pub fits : Fits m step
  pub same : HasCoordinates m a step row_step
  pub ray : IsRay m a point step

-- the file has what the verdict names: an equilibrium, a best point, or a ray
abbrev pub VerdictStands : Model → Annot → Verdict → Type 0
VerdictStands m a (PointVerdict fs) = HasPoint m a fs (IsEquilibrium m a)
VerdictStands m a (Missing t) = Unit {0}
VerdictStands m a (Best fs t) = HasPoint m a fs (IsBest m a)
VerdictStands m a (Unbounded fs gs) = HasRay m a fs gs

-- so it is where a certificate is accepted for the rows of the file
abbrev pub AcceptedStands : Type 0
AcceptedStands = (m : Model) (a : Annot) (s : Stated) (c : Cert) → IsStated m a s → checked s.system c ≡ Accepted → VerdictStands m a c.verdict
