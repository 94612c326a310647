-- What a file and a request of it determine, and what a certificate of the program's own comes to, as statements.
use Rattle.std.specs.Prelude.{◌≡◌, ◌≢◌, ◌⊎◌, ℕ, List, length, Result, Ok, Err}
use Rattle.emp_num.specs.declared.frac.Frac.{Frac}
use Rattle.emp_command.specs.Words.{Asked}
use Rattle.emp_command.specs.Course.{Outcome, refusal}
use Rattle.emp_ast.specs.declared.model.Model.{Model}
use Rattle.emp_ast.specs.declared.annot.Annot.{Annot}
use Rattle.emp_owner.specs.declared.owned.OwnFault.{OwnFault}
use Rattle.emp_owner.specs.declared.owned.OwnFault.TheVariants as OwnWords
use Rattle.emp_owner.specs.Settled.{IsFirstBroken}
use Rattle.emp_problem.specs.declared.problem.AgentProblem.{AgentProblem}
use Rattle.emp_problem.specs.Class.{IsClassFile}
use Rattle.emp_problem.specs.ProblemOf.{IsProblemOf}
use Rattle.emp_subst.specs.declared.fault.FillFault.{FillFault}
use Rattle.emp_subst.specs.declared.fault.FillFault.TheVariants as FillWords
use Rattle.emp_subst.specs.Fill.{FillGives}
use Rattle.emp_rows.specs.declared.system.RowSystem.{RowSystem}
use Rattle.emp_cert.specs.declared.cert.Found.{Found}
use Rattle.emp_cert_text.specs.Text.{cert_text}
use Rattle.emp_walk.specs.declared.fault.WalkFault.{WalkFault}
use Rattle.emp_walk.specs.declared.fault.WalkFault.TheVariants as WalkWords
use Rattle.emp_walk.specs.Founds.{CertGives}
use Rattle.emp_solution.specs.declared.state.StateFault.{StateFault}
use Rattle.emp_solution.specs.declared.state.StateFault.TheVariants as StateWords
use Rattle.emp_solution.specs.declared.state.Stated.{Stated}
use Rattle.emp_solution.specs.Stated.{IsStated, StateGives}
use Rattle.emp_report.specs.CertLines.{sum_line, accepted_line}
use Rattle.emp_outcomes.specs.Outcomes.{saying, Solves, Checks}

-- a file has one first broken rule of ownership, but for the want of memory
abbrev pub OneBroken : Type 0
OneBroken = (m : Model) (a : Annot) (f g : OwnFault) → f ≢ OwnWords.NoMemory → g ≢ OwnWords.NoMemory → IsFirstBroken m a f → IsFirstBroken m a g → f ≡ g

-- and one fault for which it has no row system
abbrev pub OneFault : Type 0
OneFault = (m : Model) (a : Annot) (f g : StateFault) → f ≢ StateWords.NoMemory → g ≢ StateWords.NoMemory → StateGives m a (Err f) → StateGives m a (Err g) → f ≡ g

-- the search of a row system with so many units ends with one certificate, work and number of nodes, or with one fault, but for the want
-- of memory
abbrev pub OneEnd : Type 0
OneEnd = (s : RowSystem) (limit : ℕ) (r t : Result Found WalkFault) → r ≢ Err WalkWords.NoMemory → t ≢ Err WalkWords.NoMemory → CertGives s limit r → CertGives s limit t → r ≡ t

-- the values of the variables that are left, one for each, give one list of values of all variables, or one first value that is wide, but
-- for the want of memory
abbrev pub OneFilling : Type 0
OneFilling = (m : Model) (a : Annot) (pr : AgentProblem) (values : List Frac) (r t : Result (List Frac) FillFault) → IsClassFile m a → IsProblemOf m a pr → length values ≡ length pr.variables → r ≢ Err FillWords.NoMemory → t ≢ Err FillWords.NoMemory → FillGives m a pr values r → FillGives m a pr values t → r ≡ t

-- `solve` has one outcome: one status, one certificate that is stored, and one text that is said
abbrev pub OneAnswer : Type 0
OneAnswer = (m : Model) (a : Annot) (r : Asked) (o p : Outcome) → Solves m a r o → Solves m a r p → o ≡ p

-- the text of the certificate that a search of a file's rows found is accepted for the file, with the verdict that was found, or a
-- number that is formed in its test is wide: no other answer is one of the check of this text
abbrev pub OwnPasses : Type 0
OwnPasses = (m : Model) (a : Annot) (s : Stated) (limit : ℕ) (f : Found) (o : Outcome) → IsStated m a s → CertGives s.system limit (Ok f) → Checks m a (cert_text f.cert) o → (o ≡ saying 0 (accepted_line f.cert.verdict)) ⊎ ((node : ℕ) × (o ≡ refusal 19 (sum_line node)))
