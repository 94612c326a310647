-- What `check` and `migrate` answer over the text of a certificate, as statements.
use Rattle.std.specs.Prelude.{◌≡◌, ℕ, nat_lt, cond, List, [], ◌∷◌, length}
use Rattle.emp_command.specs.Course.{Outcome, refusal}
use Rattle.emp_ast.specs.declared.model.Model.{Model}
use Rattle.emp_ast.specs.declared.annot.Annot.{Annot}
use Rattle.emp_cert.specs.declared.cert.Cert.{Cert}
use Rattle.emp_cert_text.specs.Text.{cert_text}
use Rattle.emp_cert_text.specs.Writing.{longest}
use Rattle.emp_cert_text.specs.Upgrading.{IsUpgrade}
use Rattle.emp_check.specs.declared.outcome.Checked.{Checked}
use Rattle.emp_check.specs.declared.outcome.Checked.TheVariants.{Accepted, Rejected, Wide as WideSum}
use Rattle.emp_check.specs.Checks.{checked}
use Rattle.emp_report.specs.CertLines.{long_line, rejected_line, sum_line, accepted_line, migrated_line}
use Rattle.emp_solution.specs.declared.state.Stated.{Stated}
use Rattle.emp_solution.specs.Stated.{IsStated}
use Rattle.emp_outcomes.specs.Outcomes.{saying, Checks, Migrates}

-- what `check` answers of a certificate, by the answer of its test
abbrev pub check_outcome : Cert → Checked → Outcome
check_outcome c Accepted = saying 0 (accepted_line c.verdict)
check_outcome c (Rejected node w) = refusal 23 (rejected_line node w)
check_outcome c (WideSum node) = refusal 19 (sum_line node)

-- a certificate with its pairs named is stored, unless its text is too long
abbrev pub store_outcome : List ℕ → Cert → Outcome
store_outcome name d = cond (nat_lt longest (length (cert_text d))) (refusal 24 long_line) (record { status = 0; stores = (name, cert_text d) ∷ []; says = migrated_line d.verdict })

-- what `migrate` answers; d is the certificate with its pairs named
abbrev pub migrate_outcome : List ℕ → Cert → Checked → Outcome
migrate_outcome name d Accepted = store_outcome name d
migrate_outcome name d (Rejected node w) = refusal 23 (rejected_line node w)
migrate_outcome name d (WideSum node) = refusal 19 (sum_line node)

-- the text of a certificate, checked for a file that has its rows, is answered by its test against these rows, and not otherwise
abbrev pub OneCheck : Type 0
OneCheck = (m : Model) (a : Annot) (s : Stated) (c : Cert) (o : Outcome) → IsStated m a s → Checks m a (cert_text c) o → o ≡ check_outcome c (checked s.system c)

-- and so it is migrated
abbrev pub OneMigration : Type 0
OneMigration = (m : Model) (a : Annot) (s : Stated) (c d : Cert) (name : List ℕ) (o : Outcome) → IsStated m a s → IsUpgrade c s.system.pairs d → Migrates m a (cert_text c) name o → o ≡ migrate_outcome name d (checked s.system c)

-- `check` and `migrate` have one outcome, whatever the third text is
pub record OneOfText : Type 0 where
  pub check : (m : Model) (a : Annot) (ct : List ℕ) (o p : Outcome) → Checks m a ct o → Checks m a ct p → o ≡ p
  pub migrate : (m : Model) (a : Annot) (ct name : List ℕ) (o p : Outcome) → Migrates m a ct name o → Migrates m a ct name p → o ≡ p
