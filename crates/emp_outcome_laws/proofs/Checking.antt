-- `check` and `migrate` have one outcome.
use Rattle.std.proofs.Common.{◌≡◌, ◌≢◌, ℕ, ◌<◌, ◌≤◌, cond, nat_lt, nat_eq, ◌&&◌, List, [], ◌∷◌, ◌++◌, codes, length, Option, refl, sym, ap, subst, ◌∙◌}
use Rattle.std.proofs.lemmas.Bool.{cond-true, cond-false, lt-ltb, le-ltb}
use Rattle.emp_command.specs.Course.{Outcome, refusal}
use Rattle.emp_ast.specs.declared.model.Model.{Model}
use Rattle.emp_ast.specs.declared.annot.Annot.{Annot}
use Rattle.emp_rows.specs.declared.system.RowSystem.{RowSystem}
use Rattle.emp_cert.specs.declared.cert.Cert.{Cert}
use Rattle.emp_cert.specs.declared.cert.Verdict.{Verdict}
use Rattle.emp_cert_text.specs.declared.read.CertFault.{CertFault}
use Rattle.emp_cert_text.specs.declared.read.CertFault.TheVariants as CertWords
use Rattle.emp_cert_text.specs.Text.{is_second, version_text, sizes_text, links_text, verdict_text, cert_text}
use Rattle.emp_cert_text.specs.Writing.{longest}
use Rattle.emp_cert_text.specs.Reading.{ReadFails, IsSame}
use Rattle.emp_cert_text.specs.Upgrading.{IsUpgrade}
use Rattle.emp_cert_text.proofs.Same.{cert_same}
use Rattle.emp_cert_text.proofs.Whole.{cert_fails}
use Rattle.emp_cert_text.proofs.OneFault.{one_cert_fault}
use Rattle.emp_check.specs.declared.outcome.Why.TheVariants as WhyWords
use Rattle.emp_check.specs.declared.outcome.Checked.{Checked}
use Rattle.emp_check.specs.declared.outcome.Checked.TheVariants.{Accepted, Rejected, Wide as WideSum}
use Rattle.emp_check.specs.Checks.{links_fit, verdict_checked, checked}
use Rattle.emp_report.specs.CertLines.{cert_line, long_line, rejected_line, sum_line, accepted_line, migrated_line}
use Rattle.emp_solution.specs.declared.state.Stated.{Stated}
use Rattle.emp_solution.specs.Stated.{IsStated}
use Rattle.emp_unique.proofs.States.{one_state}
use Rattle.emp_outcomes.specs.Outcomes.{saying, Refuses, Unaccepted, no_rows, bad_text, rejected, wide_sum, Checks, unaccepted, accepted, Migrates, unmigrated, migrated_long, migrated}
use Rattle.emp_outcome_laws.specs.Certificates.{check_outcome, store_outcome, migrate_outcome, OneCheck, OneMigration, OneOfText}
use Rattle.emp_outcome_laws.proofs.Answering.{one_refusal, not_refused}

-- ---- certificates that say the same
-- the test by the parts of a certificate
abbrev by_parts : RowSystem → ℕ → ℕ → ℕ → Option (List (ℕ × ℕ)) → Verdict → Checked
by_parts s b q p l v = cond (nat_eq b s.base && (nat_eq q (length s.quantities) && nat_eq p (length s.pairs))) (cond (links_fit s l) (verdict_checked s s.objective v) (Rejected 0 WhyWords.Pairs)) (Rejected 0 WhyWords.Sizes)

parts_same : (s : RowSystem) (b c q r p t : ℕ) (l m : Option (List (ℕ × ℕ))) (v w : Verdict) → b ≡ c → q ≡ r → p ≡ t → l ≡ m → v ≡ w → by_parts s b q p l v ≡ by_parts s c r t m w
parts_same s b c q r p t l m v w e f g h i = rw (e, f, g, h, i) refl

checked_same : (s : RowSystem) (c d : Cert) → IsSame c d → checked s c ≡ checked s d
checked_same s c d h = parts_same s c.base d.base c.quantities d.quantities c.pairs d.pairs c.links d.links c.verdict d.verdict h.base h.quantities h.pairs h.links h.verdict

-- the text by the parts
abbrev text_of : ℕ → ℕ → ℕ → Option (List (ℕ × ℕ)) → Verdict → List ℕ
text_of b q p l v = version_text (is_second l) ++ (sizes_text b q p ++ (links_text l ++ (verdict_text (is_second l) v ++ codes "end\n")))

parts_read : (b c q r p t : ℕ) (l m : Option (List (ℕ × ℕ))) (v w : Verdict) → b ≡ c → q ≡ r → p ≡ t → l ≡ m → v ≡ w → text_of b q p l v ≡ text_of c r t m w
parts_read b c q r p t l m v w e f g h i = rw (e, f, g, h, i) refl

text_same : (c d : Cert) → IsSame c d → cert_text c ≡ cert_text d
text_same c d h = parts_read c.base d.base c.quantities d.quantities c.pairs d.pairs c.links d.links c.verdict d.verdict h.base h.quantities h.pairs h.links h.verdict

-- of certificates that say the same, those with the same pairs named do
upgrade_same : (c d e f : Cert) (ps : List (ℕ × ℕ)) → IsSame c d → IsUpgrade c ps e → IsUpgrade d ps f → IsSame e f
upgrade_same c d e f ps h i j = record {
  base = i.base ∙ (h.base ∙ sym j.base);
  quantities = i.quantities ∙ (h.quantities ∙ sym j.quantities);
  pairs = i.count ∙ (h.pairs ∙ sym j.count);
  links = i.links ∙ sym j.links;
  verdict = i.verdict ∙ (h.verdict ∙ sym j.verdict);
}

store_parts : (name : List ℕ) (t u : List ℕ) (v w : Verdict) → t ≡ u → v ≡ w → ◌≡◌ {A = Outcome} (cond (nat_lt longest (length t)) (refusal 24 long_line) (record { status = 0; stores = (name, t) ∷ []; says = migrated_line v })) (cond (nat_lt longest (length u)) (refusal 24 long_line) (record { status = 0; stores = (name, u) ∷ []; says = migrated_line w }))
store_parts name t u v w e f = rw (e, f) refl

store_same : (name : List ℕ) (d e : Cert) → IsSame d e → store_outcome name d ≡ store_outcome name e
store_same name d e h = store_parts name (cert_text d) (cert_text e) d.verdict e.verdict (text_same d e h) h.verdict

-- ---- texts
-- a certificate's text is read
pub text_reads : (c : Cert) (f : CertFault) → f ≢ CertWords.NoMemory → f ≢ CertWords.TooLong → ReadFails (cert_text c) f → ⊥
text_reads c CertWords.TooLong n l h = l refl
text_reads c CertWords.NoMemory n l h = n refl
text_reads c CertWords.Version n l h = n (cert_fails c CertWords.Version h.0 h)
text_reads c (CertWords.Range k) n l h = n (cert_fails c (CertWords.Range k) h.0 h)
text_reads c (CertWords.Syntax k) n l h = n (cert_fails c (CertWords.Syntax k) h.0 h)

-- ---- what a third text comes to
-- what is answered of a certificate, by the answer of its test
abbrev Answer : Type 1
Answer = Stated → Cert → Checked → Outcome → Type 0

-- the file is refused, the text has a fault, or it is that of a certificate, and this is answered of its test
data Fate (m : Model) (a : Annot) (ct : List ℕ) (answer : Stated → Cert → Checked → Outcome → Type 0) : Outcome → Type 0 where
  no_file : (o : Outcome) → Refuses m a o → Fate m a ct answer o
  no_cert : (s : Stated) (f : CertFault) → f ≢ CertWords.NoMemory → f ≢ CertWords.TooLong → IsStated m a s → ReadFails ct f → Fate m a ct answer (refusal 22 (cert_line f))
  a_cert : (s : Stated) (c : Cert) (o : Outcome) → IsStated m a s → ct ≡ cert_text c → answer s c (checked s.system c) o → Fate m a ct answer o

module _ (m : Model) (a : Annot) (ct : List ℕ) (answer : Stated → Cert → Checked → Outcome → Type 0) (one : (s : Stated) (c d : Cert) (r : Checked) (o p : Outcome) → IsSame c d → answer s c r o → answer s d r p → o ≡ p) where
  answers_one : (s t : Stated) (c d : Cert) (o p : Outcome) → IsStated m a s → IsStated m a t → ct ≡ cert_text c → ct ≡ cert_text d → answer s c (checked s.system c) o → answer t d (checked t.system d) p → o ≡ p
  answers_one s t c d o p h k e f x y =
      let same = cert_same c d (sym e ∙ f) in
      let here : answer s d (checked s.system d) p = subst (λ (u : Stated). answer u d (checked u.system d) p) (one_state m a t s k h) y in
      one s c d (checked s.system c) o p same x (subst (λ (r : Checked). answer s d r p) (sym (checked_same s.system c d same)) here)

  reads_not : (c : Cert) (f : CertFault) → f ≢ CertWords.NoMemory → f ≢ CertWords.TooLong → ct ≡ cert_text c → ReadFails ct f → ⊥
  reads_not c f n l e h = text_reads c f n l (subst (λ (t : List ℕ). ReadFails t f) e h)

  one_fate : (o p : Outcome) → Fate m a ct answer o → Fate m a ct answer p → o ≡ p
  one_fate o p (no_file q h) (no_file r k) = one_refusal m a q r h k
  one_fate o p (no_file q h) (no_cert s f n l i k) = absurd (not_refused m a s q i h)
  one_fate o p (no_file q h) (a_cert s c r i e k) = absurd (not_refused m a s q i h)
  one_fate o p (no_cert s f n l i h) (no_file q k) = absurd (not_refused m a s q i k)
  one_fate o p (no_cert s f n l i h) (no_cert t g v w j k) = ap (λ (x : CertFault). refusal 22 (cert_line x)) (one_cert_fault ct f g n v h k)
  one_fate o p (no_cert s f n l i h) (a_cert t c r j e k) = absurd (reads_not c f n l e h)
  one_fate o p (a_cert s c q i e h) (no_file r k) = absurd (not_refused m a s r i k)
  one_fate o p (a_cert s c q i e h) (no_cert t f n l j k) = absurd (reads_not c f n l e k)
  one_fate o p (a_cert s c q i e h) (a_cert t d r j f k) = answers_one s t c d q r i j e f h k

  -- over the text of a certificate and a file that has rows
  of_cert : (s : Stated) (c : Cert) (o : Outcome) → IsStated m a s → ct ≡ cert_text c → Fate m a ct answer o → (d : Cert) × IsSame d c × answer s d (checked s.system c) o
  of_cert s c o h e (no_file q k) = absurd (not_refused m a s q h k)
  of_cert s c o h e (no_cert t f n l i k) = absurd (reads_not c f n l e k)
  of_cert s c o h e (a_cert t d q i f k) =
      let same = cert_same d c (sym f ∙ e) in (
        d,
        same,
        subst (λ (r : Checked). answer s d r q) (checked_same s.system d c same) (subst (λ (u : Stated). answer u d (checked u.system d) q) (one_state m a t s i h) k),
      )

-- ---- `check`
abbrev CheckAnswer : Stated → Cert → Checked → Outcome → Type 0
CheckAnswer s c r o = o ≡ check_outcome c r

check_same : (c d : Cert) (r : Checked) → IsSame c d → check_outcome c r ≡ check_outcome d r
check_same c d Accepted h = ap (λ (v : Verdict). saying 0 (accepted_line v)) h.verdict
check_same c d (Rejected node w) h = refl
check_same c d (WideSum node) h = refl

check_one : (s : Stated) (c d : Cert) (r : Checked) (o p : Outcome) → IsSame c d → CheckAnswer s c r o → CheckAnswer s d r p → o ≡ p
check_one s c d r o p h x y = x ∙ (check_same c d r h ∙ sym y)

by_check : (c : Cert) (r t : Checked) → t ≡ r → check_outcome c r ≡ check_outcome c t
by_check c r t e = ap (check_outcome c) (sym e)

unaccepted_check : (m : Model) (a : Annot) (ct : List ℕ) (o : Outcome) → Unaccepted m a ct o → Fate m a ct CheckAnswer o
unaccepted_check m a ct o (no_rows p h) = no_file p h
unaccepted_check m a ct o (bad_text s f n l i h) = no_cert s f n l i h
unaccepted_check m a ct o (rejected s c node w i e h) = a_cert s c (refusal 23 (rejected_line node w)) i e (by_check c (Rejected node w) (checked s.system c) h)
unaccepted_check m a ct o (wide_sum s c node i e h) = a_cert s c (refusal 19 (sum_line node)) i e (by_check c (WideSum node) (checked s.system c) h)

checks_fate : (m : Model) (a : Annot) (ct : List ℕ) (o : Outcome) → Checks m a ct o → Fate m a ct CheckAnswer o
checks_fate m a ct o (unaccepted p h) = unaccepted_check m a ct p h
checks_fate m a ct o (accepted s c h) = a_cert s c (saying 0 (accepted_line c.verdict)) h.stated h.text (by_check c Accepted (checked s.system c) h.accepted)

pub one_check : OneCheck
one_check m a s c o h k =
    let x = of_cert m a (cert_text c) CheckAnswer check_one s c o h refl (checks_fate m a (cert_text c) o k) in
    x.2 ∙ check_same x.0 c (checked s.system c) x.1

-- ---- `migrate`
abbrev MigrateAnswer : List ℕ → Stated → Cert → Checked → Outcome → Type 0
MigrateAnswer name s c Accepted o = (d : Cert) × IsUpgrade c s.system.pairs d × (o ≡ store_outcome name d)
MigrateAnswer name s c (Rejected node w) o = o ≡ refusal 23 (rejected_line node w)
MigrateAnswer name s c (WideSum node) o = o ≡ refusal 19 (sum_line node)

migrate_one : (name : List ℕ) (s : Stated) (c d : Cert) (r : Checked) (o p : Outcome) → IsSame c d → MigrateAnswer name s c r o → MigrateAnswer name s d r p → o ≡ p
migrate_one name s c d Accepted o p h x y = x.2 ∙ (store_same name x.0 y.0 (upgrade_same c d x.0 y.0 s.system.pairs h x.1 y.1) ∙ sym y.2)
migrate_one name s c d (Rejected node w) o p h x y = x ∙ sym y
migrate_one name s c d (WideSum node) o p h x y = x ∙ sym y

answered_by : (name : List ℕ) (s : Stated) (c : Cert) (o : Outcome) (r t : Checked) → t ≡ r → MigrateAnswer name s c r o → MigrateAnswer name s c t o
answered_by name s c o r t e h = subst (λ (x : Checked). MigrateAnswer name s c x o) (sym e) h

unaccepted_migrate : (m : Model) (a : Annot) (ct name : List ℕ) (o : Outcome) → Unaccepted m a ct o → Fate m a ct (MigrateAnswer name) o
unaccepted_migrate m a ct name o (no_rows p h) = no_file p h
unaccepted_migrate m a ct name o (bad_text s f n l i h) = no_cert s f n l i h
unaccepted_migrate m a ct name o (rejected s c node w i e h) = a_cert s c (refusal 23 (rejected_line node w)) i e (answered_by name s c (refusal 23 (rejected_line node w)) (Rejected node w) (checked s.system c) h refl)
unaccepted_migrate m a ct name o (wide_sum s c node i e h) = a_cert s c (refusal 19 (sum_line node)) i e (answered_by name s c (refusal 19 (sum_line node)) (WideSum node) (checked s.system c) h refl)

long_stored : (name : List ℕ) (d : Cert) → longest < length (cert_text d) → refusal 24 long_line ≡ store_outcome name d
long_stored name d l = sym (cond-true (nat_lt longest (length (cert_text d))) (refusal 24 long_line) (record { status = 0; stores = (name, cert_text d) ∷ []; says = migrated_line d.verdict }) (lt-ltb longest (length (cert_text d)) l))

short_stored : (name : List ℕ) (d : Cert) → length (cert_text d) ≤ longest → ◌≡◌ {A = Outcome} (record { status = 0; stores = (name, cert_text d) ∷ []; says = migrated_line d.verdict }) (store_outcome name d)
short_stored name d l = sym (cond-false (nat_lt longest (length (cert_text d))) (refusal 24 long_line) (record { status = 0; stores = (name, cert_text d) ∷ []; says = migrated_line d.verdict }) (le-ltb longest (length (cert_text d)) l))

migrates_fate : (m : Model) (a : Annot) (ct name : List ℕ) (o : Outcome) → Migrates m a ct name o → Fate m a ct (MigrateAnswer name) o
migrates_fate m a ct name o (unmigrated p h) = unaccepted_migrate m a ct name p h
migrates_fate m a ct name o (migrated_long s c d h u l) = a_cert s c (refusal 24 long_line) h.stated h.text (answered_by name s c (refusal 24 long_line) Accepted (checked s.system c) h.accepted (d, u, long_stored name d l))
migrates_fate m a ct name o (migrated s c d h u l) =
    let o : Outcome = record { status = 0; stores = (name, cert_text d) ∷ []; says = migrated_line d.verdict } in
    a_cert s c o h.stated h.text (answered_by name s c o Accepted (checked s.system c) h.accepted (d, u, short_stored name d l))

migrate_is : (name : List ℕ) (s : Stated) (c d e : Cert) (r : Checked) (o : Outcome) → IsSame e c → IsUpgrade c s.system.pairs d → MigrateAnswer name s e r o → o ≡ migrate_outcome name d r
migrate_is name s c d e Accepted o h u x = x.2 ∙ store_same name x.0 d (upgrade_same e c x.0 d s.system.pairs h x.1 u)
migrate_is name s c d e (Rejected node w) o h u x = x
migrate_is name s c d e (WideSum node) o h u x = x

pub one_migration : OneMigration
one_migration m a s c d name o h u k =
    let x = of_cert m a (cert_text c) (MigrateAnswer name) (migrate_one name) s c o h refl (migrates_fate m a (cert_text c) name o k) in
    migrate_is name s c d x.0 (checked s.system c) o x.1 u x.2

pub one_of_text : OneOfText
one_of_text = record {
  check = λ m a ct o p h k. one_fate m a ct CheckAnswer check_one o p (checks_fate m a ct o h) (checks_fate m a ct p k);
  migrate = λ m a ct name o p h k. one_fate m a ct (MigrateAnswer name) (migrate_one name) o p (migrates_fate m a ct name o h) (migrates_fate m a ct name p k);
}
