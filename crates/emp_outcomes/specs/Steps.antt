-- What an answer of the code comes to, step by step. This serves proofs; no meaning cites it.
use Rattle.std.specs.Prelude.{◌≡◌, ◌⊎◌, ℕ, ◌<◌, ◌≤◌, List, [], ◌∷◌, length, map, Option, Result, Ok, Err}
use Rattle.emp_command.specs.Course.{Outcome, refusal}
use Rattle.emp_command.specs.Deliveries.{stored_of}
use Rattle.emp_ast.specs.declared.model.Model.{Model}
use Rattle.emp_ast.specs.declared.annot.Annot.{Annot}
use Rattle.emp_report.specs.CertLines.{long_line, migrated_line}
use Rattle.emp_cert_text.specs.Text.{cert_text}
use Rattle.emp_cert_text.specs.Writing.{longest}
use Rattle.emp_cert_text.specs.Upgrading.{IsUpgrade}
use Rattle.emp_check.specs.Checks.{SizesAre}
use Rattle.emp_rows.specs.declared.system.RowSystem.{RowSystem}
use Rattle.emp_outcomes.specs.declared.certificates.Tried.{Tried}
use Rattle.emp_outcomes.specs.declared.certificates.Tried.TheVariants.{Accepted, Refused}
use Rattle.emp_report.specs.ClassLines.{value_line}
use Rattle.emp_owner.specs.Settled.{IsKept, IsFirstBroken, AreOwned}
use Rattle.emp_cert.specs.declared.cert.Cert.{Cert}
use Rattle.emp_cert.specs.declared.cert.Found.{Found}
use Rattle.emp_cert_text.specs.declared.write.WriteFault.{WriteFault}
use Rattle.emp_cert_text.specs.declared.write.WriteFault.TheVariants as WriteWords
use Rattle.emp_solution.specs.declared.state.Stated.{Stated}
use Rattle.emp_subst.specs.declared.fault.FillFault.{FillFault}
use Rattle.emp_subst.specs.declared.fault.FillFault.TheVariants as FillWords
use Rattle.emp_solution.specs.Stated.{IsStated, StateGives}
use Rattle.emp_outcomes.specs.declared.said.Answer.{Answer}
use Rattle.emp_outcomes.specs.declared.said.Answer.TheVariants.{Said, Refusal}
use Rattle.emp_outcomes.specs.declared.stated.Unstated.{Unstated}
use Rattle.emp_outcomes.specs.declared.stated.Unstated.TheVariants as UnstatedWords
use Rattle.emp_outcomes.specs.declared.stated.Ready.{Ready}
use Rattle.emp_num.specs.declared.frac.Frac.{Frac}
use Rattle.emp_outcomes.specs.declared.reports.Report.{Report}
use Rattle.emp_outcomes.specs.Outcomes.{Fills, IsPointReport, IsReport, IsUnfilled, cert_stores, CertFits, CertIsLong, Unaccepted, IsAccepted}

abbrev pub outcome_of : Answer → Outcome
outcome_of (Said status stores text) = record { status = status; stores = map stored_of stores.items; says = text.items }
outcome_of (Refusal status line) = refusal status line.items

-- ---- files with their rows
pub record IsReady (m : Model) (a : Annot) (r : Ready) : Type 0 where
  pub kept : IsKept m a
  pub owned : AreOwned m a r.owned
  pub stated : IsStated m a r.stated
  pub base : length r.stated.problem.variables ≤ r.stated.system.base

abbrev pub ReadyGives : Model → Annot → Result Ready Unstated → Type 0
ReadyGives m a (Ok r) = IsReady m a r
ReadyGives m a (Err (UnstatedWords.Owner f)) = IsFirstBroken m a f
ReadyGives m a (Err (UnstatedWords.Rows f)) = IsKept m a × StateGives m a (Err f)

-- ---- reports and stores
abbrev pub report_of : Report → ℕ × List ℕ
report_of t = (t.status, t.text.items)

-- of a point, by the text for its values
abbrev pub PointReportGives : Model → Annot → Stated → List Frac → ℕ → (List Frac → List ℕ) → Result Report FillFault → Type 0
PointReportGives m a s fs status text (Ok t) = IsPointReport m a s fs status text (report_of t)
PointReportGives m a s fs status text (Err (FillWords.Wide w)) = Fills m a s fs (Err (FillWords.Wide w))
PointReportGives m a s fs status text (Err FillWords.NoMemory) = Unit {0}

abbrev pub ReportGives : Model → Annot → Stated → Found → Result Report FillFault → Type 0
ReportGives m a s f (Ok t) = IsReport m a s f (report_of t)
ReportGives m a s f (Err (FillWords.Wide w)) = IsUnfilled m a s f.cert.verdict w
ReportGives m a s f (Err FillWords.NoMemory) = Unit {0}

-- the line of the variable whose value is wide
abbrev pub ValueRefused : Model → FillFault → Outcome → Type 0
ValueRefused m (FillWords.Wide w) o = o ≡ refusal 19 (value_line m w)
ValueRefused m FillWords.NoMemory o = ⊥

-- why a certificate is not stored
abbrev pub StoresFail : Option (List ℕ) → Cert → WriteFault → Type 0
StoresFail o c WriteWords.TooLong = CertIsLong o c
StoresFail o c WriteWords.NoMemory = Unit {0}

-- the report is said and the certificate stored, or the certificate is too long
abbrev pub Delivered : Option (List ℕ) → Cert → ℕ × List ℕ → Outcome → Type 0
Delivered name c t o = (CertFits name c × (o ≡ record { status = t.0; stores = cert_stores name c; says = t.1 })) ⊎ (CertIsLong name c × (o ≡ refusal 24 long_line))

-- ---- certificates
-- an accepted certificate of the file's rows, or what is answered where there is none
abbrev pub AcceptGives : Model → Annot → List ℕ → Tried → Type 0
AcceptGives m a ct (Accepted ready cert) = IsReady m a ready × IsAccepted m a ct ready.stated cert × SizesAre ready.stated.system cert
AcceptGives m a ct (Refused answer) = Unaccepted m a ct (outcome_of answer)

-- the certificate with the system's pairs named is stored, or too long
pub record StoredAnew (s : RowSystem) (c : Cert) (name : List ℕ) (o : Outcome) : Type 0 where
  pub named : Cert
  pub is : IsUpgrade c s.pairs named
  pub ends : ((length (cert_text named) ≤ longest) × (o ≡ record { status = 0; stores = (name, cert_text named) ∷ []; says = migrated_line named.verdict })) ⊎ ((longest < length (cert_text named)) × (o ≡ refusal 24 long_line))
