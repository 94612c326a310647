-- The certificate that a call gives for what the search found.
use Rattle.std.specs.Prelude.{◌≡◌, ℕ, length, Some, Result, Ok, Err}
use Rattle.emp_rows.specs.declared.system.RowSystem.{RowSystem}
use Rattle.emp_cert.specs.declared.cert.Found.{Found}
use Rattle.emp_cert.specs.declared.cert.Verdict.{Verdict}
use Rattle.emp_cert.specs.declared.cert.Verdict.TheVariants.{Point, Missing, Best, Unbounded}
use Rattle.emp_cert.specs.Verdicts.{VerdictShown}
use Rattle.emp_search.specs.Search.{search_of}
use Rattle.emp_walk.specs.declared.fault.WalkFault.{WalkFault}
use Rattle.emp_walk.specs.declared.search.Answer.{Answer}
use Rattle.emp_walk.specs.Courses.{FaultGives}
use Rattle.emp_walk.specs.Searches.{AnswerGives}

-- the certificate has the system's counts and pairs
pub record NamesSystem (s : RowSystem) (f : Found) : Type 0 where
  pub base : f.cert.base ≡ s.base
  pub quantities : f.cert.quantities ≡ length s.quantities
  pub pairs : f.cert.pairs ≡ length s.pairs
  pub links : f.cert.links ≡ Some s.pairs

abbrev pub answer_of : Found → Answer
answer_of f = record { verdict = f.cert.verdict; work = f.work; nodes = f.nodes }

-- the certificate is the system's with the verdict of the search, which it shows
pub record FoundGives (s : RowSystem) (limit : ℕ) (f : Found) : Type 0 where
  pub names : NamesSystem s f
  pub answer : AnswerGives (search_of s limit) limit (answer_of f)
  pub shown : VerdictShown s f.cert.verdict

-- each outcome comes exactly where the search of the system with so many units ends so
abbrev pub CertGives : RowSystem → ℕ → Result Found WalkFault → Type 0
CertGives s limit (Ok f) = FoundGives s limit f
CertGives s limit (Err f) = FaultGives (search_of s limit) limit f

-- ---- the verdicts of systems without an objective, and of those with one
abbrev pub IsWalkVerdict : Verdict → Type 0
IsWalkVerdict (Point p) = Unit {0}
IsWalkVerdict (Missing t) = Unit {0}
IsWalkVerdict (Best p t) = ⊥
IsWalkVerdict (Unbounded p y) = ⊥

abbrev pub IsBestVerdict : Verdict → Type 0
IsBestVerdict (Point p) = ⊥
IsBestVerdict (Missing t) = Unit {0}
IsBestVerdict (Best p t) = Unit {0}
IsBestVerdict (Unbounded p y) = Unit {0}
