-- What `check` and `migrate` answer, step by step.
use Rattle.std.proofs.Common.{◌≡◌, ◌≢◌, ◌⊎◌, inl, inr, ℕ, ◌<◌, ◌≤◌, List, [], ◌∷◌, length, Some, Result, IfOk, subst, sym, ap, ap₂, ◌∙◌, arith}
use Rattle.emp_list.specs.declared.memory.NoMemory.{NoMemory}
use Rattle.emp_ast.specs.declared.model.Model.{Model}
use Rattle.emp_ast.specs.declared.annot.Annot.{Annot}
use Rattle.emp_command.specs.Course.{Outcome, refusal}
use Rattle.emp_rows.specs.declared.system.RowSystem.{RowSystem}
use Rattle.emp_cert.specs.declared.cert.Cert.{Cert}
use Rattle.emp_cert_text.specs.declared.read.CertFault.{CertFault}
use Rattle.emp_cert_text.specs.declared.read.CertFault.TheVariants as CertWords
use Rattle.emp_cert_text.specs.Text.{cert_text}
use Rattle.emp_cert_text.specs.Reading.{ReadFails}
use Rattle.emp_check.specs.Checks.{checked}
use Rattle.emp_check.specs.declared.outcome.Why.{Why}
use Rattle.emp_check.specs.declared.outcome.Checked.TheVariants.{Rejected, Wide as WideSum}
use Rattle.emp_cert_text.specs.Writing.{longest}
use Rattle.emp_cert_text.specs.Upgrading.{IsUpgrade}
use Rattle.emp_report.specs.CertLines.{cert_line, long_line, rejected_line, sum_line, accepted_line, migrated_line}
use Rattle.emp_solution.specs.declared.state.Stated.{Stated}
use Rattle.emp_solution.specs.Stated.{IsStated}
use Rattle.emp_outcomes.specs.declared.said.Answer.{Answer}
use Rattle.emp_outcomes.specs.Outcomes.{saying, cert_stores, CertFits, CertIsLong, Unaccepted, bad_text, rejected, wide_sum, IsAccepted, Checks, accepted, Migrates, migrated_long, migrated}
use Rattle.emp_outcomes.specs.Steps.{outcome_of, StoredAnew}
use Rattle.emp_outcomes.proofs.Oks.{ok_map}

-- a text of a file that is loaded is not too long
pub read_fault : (t : List ℕ) (f : CertFault) → length t ≤ 16777216 → ReadFails t f → f ≢ CertWords.TooLong
read_fault t f l h e = absurd (let k : ReadFails t CertWords.TooLong = subst (ReadFails t) e h in omega (arith, k, l))

-- ---- what the checker's answers come to
pub rejected_tried : (m : Model) (a : Annot) (ct : List ℕ) (s : Stated) (c : Cert) (node : ℕ) (w : Why) (o : List ℕ) → IsStated m a s → ct ≡ cert_text c → checked s.system c ≡ Rejected node w → o ≡ rejected_line node w → Unaccepted m a ct (refusal 23 o)
rejected_tried m a ct s c node w o i t k e = subst (λ l. Unaccepted m a ct (refusal 23 l)) (sym e) (rejected s c node w i t k)

pub wide_tried : (m : Model) (a : Annot) (ct : List ℕ) (s : Stated) (c : Cert) (node : ℕ) (o : List ℕ) → IsStated m a s → ct ≡ cert_text c → checked s.system c ≡ WideSum node → o ≡ sum_line node → Unaccepted m a ct (refusal 19 o)
wide_tried m a ct s c node o i t k e = subst (λ l. Unaccepted m a ct (refusal 19 l)) (sym e) (wide_sum s c node i t k)

pub text_tried : (m : Model) (a : Annot) (ct : List ℕ) (s : Stated) (f : CertFault) (o : Outcome) → IsStated m a s → length ct ≤ 16777216 → ReadFails ct f → f ≢ CertWords.NoMemory → o ≡ refusal 22 (cert_line f) → Unaccepted m a ct o
text_tried m a ct s f o i l h n e = subst (Unaccepted m a ct) (sym e) (bad_text s f n (read_fault ct f l h) i h)

-- ---- certificates that are accepted, and stored anew
pub accepted_checks : (m : Model) (a : Annot) (ct : List ℕ) (s : Stated) (c : Cert) (o : Outcome) → IsAccepted m a ct s c → o ≡ saying 0 (accepted_line c.verdict) → Checks m a ct o
accepted_checks m a ct s c o h e = subst (Checks m a ct) (sym e) (accepted s c h)

anew_one : (m : Model) (a : Annot) (ct name : List ℕ) (s : Stated) (c : Cert) (o : Outcome) → IsAccepted m a ct s c → StoredAnew s.system c name o → Migrates m a ct name o
anew_one m a ct name s c o h k = go k.ends
  where
    go : ((length (cert_text k.named) ≤ longest) × (o ≡ record { status = 0; stores = (name, cert_text k.named) ∷ []; says = migrated_line k.named.verdict })) ⊎ ((longest < length (cert_text k.named)) × (o ≡ refusal 24 long_line)) → Migrates m a ct name o
    go (inl e) = subst (Migrates m a ct name) (sym e.1) (migrated s c k.named h k.is e.0)
    go (inr e) = subst (Migrates m a ct name) (sym e.1) (migrated_long s c k.named h k.is e.0)

pub anew_migrates : (x : Result Answer NoMemory) (m : Model) (a : Annot) (ct name : List ℕ) (s : Stated) (c : Cert) → IsAccepted m a ct s c → IfOk x (λ o. StoredAnew s.system c name (outcome_of o)) → IfOk x (λ o. Migrates m a ct name (outcome_of o))
anew_migrates x m a ct name s c h p = ok_map x (λ o. StoredAnew s.system c name (outcome_of o)) (λ o. Migrates m a ct name (outcome_of o)) (λ o k. anew_one m a ct name s c (outcome_of o) h k) p

-- what `?` of a refusal passes on
pub text_refused : (m : Model) (a : Annot) (ct : List ℕ) (s : Stated) (f : CertFault) (o : Outcome) → IsStated m a s → length ct ≤ 16777216 → ReadFails ct f → (f ≢ CertWords.NoMemory) × (o ≡ refusal 22 (cert_line f)) → Unaccepted m a ct o
text_refused m a ct s f o i l h p = text_tried m a ct s f o i l h p.0 p.1

-- ---- what is said with files stored
stored_one : (s : RowSystem) (c d : Cert) (name : List ℕ) (files : List (List ℕ × List ℕ)) (line : List ℕ) (o : Outcome) → IsUpgrade c s.pairs d → files ≡ cert_stores (Some name) d → CertFits (Some name) d → line ≡ migrated_line d.verdict → o ≡ record { status = 0; stores = files; says = line } → StoredAnew s c name o
stored_one s c d name files line o u f l m e = record {
  named = d;
  is = u;
  ends = inl (l, e ∙ ap₂ (λ ss t. record { status = 0; stores = ss; says = t }) f m);
}

pub stored_said : (x : Result Answer NoMemory) (s : RowSystem) (c d : Cert) (name : List ℕ) (files : List (List ℕ × List ℕ)) (line : List ℕ) → IsUpgrade c s.pairs d → files ≡ cert_stores (Some name) d → CertFits (Some name) d → line ≡ migrated_line d.verdict → IfOk x (λ a. outcome_of a ≡ record { status = 0; stores = files; says = line }) → IfOk x (λ a. StoredAnew s c name (outcome_of a))
stored_said x s c d name files line u f l m p = ok_map x (λ a. outcome_of a ≡ record { status = 0; stores = files; says = line }) (λ a. StoredAnew s c name (outcome_of a)) (λ a e. stored_one s c d name files line (outcome_of a) u f l m e) p

pub stored_long : (s : RowSystem) (c d : Cert) (name line : List ℕ) → IsUpgrade c s.pairs d → CertIsLong (Some name) d → line ≡ long_line → StoredAnew s c name (refusal 24 line)
stored_long s c d name line u l e = record { named = d; is = u; ends = inr (l, ap (λ t. refusal 24 t) e) }

said_one : (m : Model) (a : Annot) (ct : List ℕ) (s : Stated) (c : Cert) (files : List (List ℕ × List ℕ)) (line : List ℕ) (o : Outcome) → IsAccepted m a ct s c → files ≡ [] → line ≡ accepted_line c.verdict → o ≡ record { status = 0; stores = files; says = line } → Checks m a ct o
said_one m a ct s c files line o h f l e = accepted_checks m a ct s c o h (e ∙ ap₂ (λ ss t. record { status = 0; stores = ss; says = t }) f l)

pub said_checks : (x : Result Answer NoMemory) (m : Model) (a : Annot) (ct : List ℕ) (s : Stated) (c : Cert) (files : List (List ℕ × List ℕ)) (line : List ℕ) → IsAccepted m a ct s c → files ≡ [] → line ≡ accepted_line c.verdict → IfOk x (λ o. outcome_of o ≡ record { status = 0; stores = files; says = line }) → IfOk x (λ o. Checks m a ct (outcome_of o))
said_checks x m a ct s c files line h f l p = ok_map x (λ o. outcome_of o ≡ record { status = 0; stores = files; says = line }) (λ o. Checks m a ct (outcome_of o)) (λ o e. said_one m a ct s c files line (outcome_of o) h f l e) p
