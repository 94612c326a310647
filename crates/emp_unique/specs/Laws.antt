-- What a file determines, as statements.
use Rattle.std.specs.Prelude.{◌≡◌, ◌≢◌, Result, Err}
use Rattle.emp_ast.specs.declared.model.Model.{Model}
use Rattle.emp_ast.specs.declared.annot.Annot.{Annot}
use Rattle.emp_form.specs.Form.{Form}
use Rattle.emp_poly.specs.Quads.{HasForm}
use Rattle.emp_poly.specs.Gradient.{LinHasForm}
use Rattle.emp_poly.specs.declared.quad.Quad.{Quad}
use Rattle.emp_poly.specs.declared.quad.Lin.{Lin}
use Rattle.emp_rows.specs.declared.system.RowSystem.{RowSystem}
use Rattle.emp_problem.specs.declared.problem.AgentProblem.{AgentProblem}
use Rattle.emp_problem.specs.Class.{IsClassFile}
use Rattle.emp_problem.specs.ProblemOf.{IsProblemOf}
use Rattle.emp_share.specs.declared.share.ShareFault.{ShareFault}
use Rattle.emp_share.specs.declared.share.ShareFault.TheVariants as ShareWords
use Rattle.emp_share.specs.Share.{ShareGives}
use Rattle.emp_kkt.specs.declared.make.KktFault.{KktFault}
use Rattle.emp_kkt.specs.declared.make.KktFault.TheVariants as KktWords
use Rattle.emp_kkt.specs.Gives.{KktGives}
use Rattle.emp_solution.specs.declared.state.StateFault.{StateFault}
use Rattle.emp_solution.specs.declared.state.StateFault.TheVariants as StateWords
use Rattle.emp_solution.specs.declared.state.Stated.{Stated}
use Rattle.emp_solution.specs.Stated.{IsStated, StateGives}

-- a form is that of one polynomial, and of one linear polynomial
pub record OnePolynomial : Type 0 where
  pub quad : (f : Form) (q r : Quad) → HasForm q f → HasForm r f → q ≡ r
  pub lin : (f : Form) (l k : Lin) → LinHasForm l f → LinHasForm k f → l ≡ k

-- a file of the class has one problem
abbrev pub OneProblem : Type 0
OneProblem = (m : Model) (a : Annot) (p q : AgentProblem) → IsClassFile m a → IsProblemOf m a p → IsProblemOf m a q → p ≡ q

-- the test of a problem's agents has one answer, but for the want of memory
abbrev pub OneTest : Type 0
OneTest = (pr : AgentProblem) (r s : Result (Unit {0}) ShareFault) → r ≢ Err ShareWords.NoMemory → s ≢ Err ShareWords.NoMemory → ShareGives pr r → ShareGives pr s → r ≡ s

-- and so have its rows
abbrev pub OneSystem : Type 0
OneSystem = (pr : AgentProblem) (r s : Result RowSystem KktFault) → r ≢ Err KktWords.NoMemory → s ≢ Err KktWords.NoMemory → KktGives pr r → KktGives pr s → r ≡ s

-- a file has one problem and one row system
abbrev pub OneState : Type 0
OneState = (m : Model) (a : Annot) (s t : Stated) → IsStated m a s → IsStated m a t → s ≡ t

-- a file that has a row system has no fault, but for the want of memory
abbrev pub StatedHasNoFault : Type 0
StatedHasNoFault = (m : Model) (a : Annot) (s : Stated) (f : StateFault) → IsStated m a s → StateGives m a (Err f) → f ≡ StateWords.NoMemory
