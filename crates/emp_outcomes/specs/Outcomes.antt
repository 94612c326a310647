-- What `solve`, `check` and `migrate` answer over a model and an annotation of it: a status, what is stored, and what is said.
use Rattle.std.specs.Prelude.{◌≡◌, ◌≢◌, ℕ, ◌<◌, ◌≤◌, List, [], ◌∷◌, length, take, Option, Some, None, Result, Ok, Err}
use Rattle.emp_num.specs.declared.frac.Frac.{Frac}
use Rattle.emp_command.specs.Words.{Asked}
use Rattle.emp_command.specs.Lines.{no_memory_line}
use Rattle.emp_command.specs.Course.{Outcome, refusal}
use Rattle.emp_ast.specs.declared.tree.VarId.{VarId}
use Rattle.emp_ast.specs.declared.model.Model.{Model}
use Rattle.emp_ast.specs.declared.annot.Annot.{Annot}
use Rattle.emp_ast.specs.Names.{variable_names}
use Rattle.emp_owner.specs.declared.owned.OwnFault.{OwnFault}
use Rattle.emp_owner.specs.declared.owned.OwnFault.TheVariants as OwnWords
use Rattle.emp_owner.specs.Settled.{IsKept, IsFirstBroken}
use Rattle.emp_poly.specs.declared.tree.PolyFault.TheVariants as PolyWords
use Rattle.emp_cert.specs.declared.cert.Cert.{Cert}
use Rattle.emp_cert.specs.declared.cert.Found.{Found}
use Rattle.emp_cert.specs.declared.cert.Verdict.{Verdict}
use Rattle.emp_cert.specs.declared.cert.Verdict.TheVariants.{Point, Missing, Best, Unbounded}
use Rattle.emp_cert_text.specs.declared.read.CertFault.{CertFault}
use Rattle.emp_cert_text.specs.declared.read.CertFault.TheVariants as CertWords
use Rattle.emp_cert_text.specs.Text.{cert_text}
use Rattle.emp_cert_text.specs.Writing.{longest}
use Rattle.emp_cert_text.specs.Reading.{ReadFails}
use Rattle.emp_cert_text.specs.Upgrading.{IsUpgrade}
use Rattle.emp_check.specs.declared.outcome.Why.{Why}
use Rattle.emp_check.specs.declared.outcome.Checked.TheVariants.{Accepted, Rejected, Wide as WideSum}
use Rattle.emp_check.specs.Checks.{checked}
use Rattle.emp_walk.specs.declared.fault.WalkFault.{WalkFault}
use Rattle.emp_walk.specs.declared.fault.WalkFault.TheVariants as WalkWords
use Rattle.emp_walk.specs.Founds.{CertGives}
use Rattle.emp_solution.specs.declared.state.StateFault.{StateFault}
use Rattle.emp_solution.specs.declared.state.StateFault.TheVariants as StateWords
use Rattle.emp_solution.specs.declared.state.Stated.{Stated}
use Rattle.emp_solution.specs.Stated.{IsStated, StateGives}
use Rattle.emp_subst.specs.declared.fault.FillFault.{FillFault}
use Rattle.emp_subst.specs.declared.fault.FillFault.TheVariants.{Wide as WideValue}
use Rattle.emp_subst.specs.Fill.{FillGives, spread}
use Rattle.emp_report.specs.TextLines.{own_line}
use Rattle.emp_report.specs.ClassLines.{poly_line, poly_status, quadratic_line, leader_line, convex_line, curvature_line, value_line, row_line, pivot_line, spent_line, rows_line}
use Rattle.emp_report.specs.CertLines.{cert_line, long_line, rejected_line, sum_line, accepted_line, migrated_line}
use Rattle.emp_report.specs.Report.{equilibrium_report, best_report, unbounded_report, missing_report}

-- nothing is stored and a text is said
abbrev pub saying : ℕ → List ℕ → Outcome
saying status text = record { status = status; stores = []; says = text }

-- ---- files without a row system
abbrev pub state_status : StateFault → ℕ
state_status (StateWords.Poly f) = poly_status f
state_status (StateWords.Quadratic e u v) = 17
state_status (StateWords.LeaderNotLinear u v) = 17
state_status (StateWords.NotConvex b k) = 18
state_status (StateWords.WideCurve b k) = 19
state_status StateWords.TooLarge = 24
state_status (StateWords.WideRow k) = 19
state_status StateWords.NoMemory = 21

abbrev pub state_line : Model → StateFault → List ℕ
state_line m (StateWords.Poly f) = poly_line f
state_line m (StateWords.Quadratic e u v) = quadratic_line m e u v
state_line m (StateWords.LeaderNotLinear u v) = leader_line m u v
state_line m (StateWords.NotConvex b k) = convex_line b k
state_line m (StateWords.WideCurve b k) = curvature_line b k
state_line m StateWords.TooLarge = rows_line
state_line m (StateWords.WideRow k) = row_line k
state_line m StateWords.NoMemory = no_memory_line

-- the fault is no want of memory
abbrev pub IsNamedFault : StateFault → Type 0
IsNamedFault StateWords.NoMemory = ⊥
IsNamedFault (StateWords.Poly PolyWords.NoMemory) = ⊥
IsNamedFault f = Unit {0}

-- a rule of ownership is broken, or there is no row system
pub data Refuses (m : Model) (a : Annot) : Outcome → Type 0 where
  bad_owner : (f : OwnFault) → f ≢ OwnWords.NoMemory → IsFirstBroken m a f → Refuses m a (refusal 16 (own_line m f))
  unstated : (f : StateFault) → IsNamedFault f → IsKept m a → StateGives m a (Err f) → Refuses m a (refusal (state_status f) (state_line m f))

-- ---- searches that do not end
abbrev pub walk_status : WalkFault → ℕ
walk_status (WalkWords.Wide node pivot) = 19
walk_status (WalkWords.Spent limit) = 20
walk_status WalkWords.NoMemory = 21

abbrev pub walk_line : WalkFault → List ℕ
walk_line (WalkWords.Wide node pivot) = pivot_line node pivot
walk_line (WalkWords.Spent limit) = spent_line limit
walk_line WalkWords.NoMemory = no_memory_line

-- ---- reports
-- the first numbers of a row point are those of the variables that are left
abbrev pub Fills : Model → Annot → Stated → List Frac → Result (List Frac) FillFault → Type 0
Fills m a s fs r = FillGives m a s.problem (take (length s.problem.variables) fs) r

abbrev pub verdict_point : Verdict → Option (List Frac)
verdict_point (Point fs) = Some fs
verdict_point (Missing t) = None
verdict_point (Best fs t) = Some fs
verdict_point (Unbounded fs gs) = Some fs

-- the value of a defined objective at the verdict's point is wide
pub record IsUnfilled (m : Model) (a : Annot) (s : Stated) (v : Verdict) (w : VarId) : Type 0 where
  pub point : List Frac
  pub is : verdict_point v ≡ Some point
  pub fills : Fills m a s point (Err (WideValue w))

pub record IsPointReport (m : Model) (a : Annot) (s : Stated) (fs : List Frac) (status : ℕ) (text : List Frac → List ℕ) (r : ℕ × List ℕ) : Type 0 where
  pub values : List Frac
  pub fills : Fills m a s fs (Ok values)
  pub is : r ≡ (status, text values)

-- the status and the report of what was found
abbrev pub ReportOf : Model → Annot → Stated → Found → Verdict → ℕ × List ℕ → Type 0
ReportOf m a s f (Point fs) r = IsPointReport m a s fs 0 (λ vs. equilibrium_report f.work (variable_names m) vs) r
ReportOf m a s f (Missing t) r = r ≡ (1, missing_report a.bilevel f.work f.nodes t.nodes)
ReportOf m a s f (Best fs t) r = IsPointReport m a s fs 0 (λ vs. best_report f.work (variable_names m) vs) r
ReportOf m a s f (Unbounded fs gs) r = IsPointReport m a s fs 2 (λ vs. unbounded_report f.work (variable_names m) vs (spread m a gs)) r

abbrev pub IsReport : Model → Annot → Stated → Found → ℕ × List ℕ → Type 0
IsReport m a s f r = ReportOf m a s f f.cert.verdict r

-- ---- certificates that are stored, where the words name a file for one
abbrev pub cert_stores : Option (List ℕ) → Cert → List (List ℕ × List ℕ)
cert_stores None c = []
cert_stores (Some name) c = (name, cert_text c) ∷ []

abbrev pub CertFits : Option (List ℕ) → Cert → Type 0
CertFits None c = Unit {0}
CertFits (Some name) c = length (cert_text c) ≤ longest

abbrev pub CertIsLong : Option (List ℕ) → Cert → Type 0
CertIsLong None c = ⊥
CertIsLong (Some name) c = longest < length (cert_text c)

-- ---- `solve`
pub data Solves (m : Model) (a : Annot) (r : Asked) : Outcome → Type 0 where
  refused : (o : Outcome) → Refuses m a o → Solves m a r o
  unfinished : (s : Stated) (f : WalkFault) → f ≢ WalkWords.NoMemory → IsStated m a s → CertGives s.system r.work (Err f) → Solves m a r (refusal (walk_status f) (walk_line f))
  unfilled : (s : Stated) (f : Found) (w : VarId) → IsStated m a s → CertGives s.system r.work (Ok f) → IsUnfilled m a s f.cert.verdict w → Solves m a r (refusal 19 (value_line m w))
  too_long : (s : Stated) (f : Found) (t : ℕ × List ℕ) → IsStated m a s → CertGives s.system r.work (Ok f) → IsReport m a s f t → CertIsLong r.output f.cert → Solves m a r (refusal 24 long_line)
  answered : (s : Stated) (f : Found) (t : ℕ × List ℕ) → IsStated m a s → CertGives s.system r.work (Ok f) → IsReport m a s f t → CertFits r.output f.cert → Solves m a r (record { status = t.0; stores = cert_stores r.output f.cert; says = t.1 })

-- ---- `check` and `migrate`, over the text of a certificate
pub data Unaccepted (m : Model) (a : Annot) (ct : List ℕ) : Outcome → Type 0 where
  no_rows : (o : Outcome) → Refuses m a o → Unaccepted m a ct o
  bad_text : (s : Stated) (f : CertFault) → f ≢ CertWords.NoMemory → f ≢ CertWords.TooLong → IsStated m a s → ReadFails ct f → Unaccepted m a ct (refusal 22 (cert_line f))
  rejected : (s : Stated) (c : Cert) (node : ℕ) (w : Why) → IsStated m a s → ct ≡ cert_text c → checked s.system c ≡ Rejected node w → Unaccepted m a ct (refusal 23 (rejected_line node w))
  wide_sum : (s : Stated) (c : Cert) (node : ℕ) → IsStated m a s → ct ≡ cert_text c → checked s.system c ≡ WideSum node → Unaccepted m a ct (refusal 19 (sum_line node))

-- the text is that of a certificate that is accepted for the file's rows
pub record IsAccepted (m : Model) (a : Annot) (ct : List ℕ) (s : Stated) (c : Cert) : Type 0 where
  pub stated : IsStated m a s
  pub text : ct ≡ cert_text c
  pub accepted : checked s.system c ≡ Accepted

pub data Checks (m : Model) (a : Annot) (ct : List ℕ) : Outcome → Type 0 where
  unaccepted : (o : Outcome) → Unaccepted m a ct o → Checks m a ct o
  accepted : (s : Stated) (c : Cert) → IsAccepted m a ct s c → Checks m a ct (saying 0 (accepted_line c.verdict))

-- d is the certificate with the pairs of the file's rows named
pub data Migrates (m : Model) (a : Annot) (ct name : List ℕ) : Outcome → Type 0 where
  unmigrated : (o : Outcome) → Unaccepted m a ct o → Migrates m a ct name o
  migrated_long : (s : Stated) (c d : Cert) → IsAccepted m a ct s c → IsUpgrade c s.system.pairs d → longest < length (cert_text d) → Migrates m a ct name (refusal 24 long_line)
  migrated : (s : Stated) (c d : Cert) → IsAccepted m a ct s c → IsUpgrade c s.system.pairs d → length (cert_text d) ≤ longest → Migrates m a ct name (record { status = 0; stores = (name, cert_text d) ∷ []; says = migrated_line d.verdict })
