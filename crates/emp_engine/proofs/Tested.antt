-- What `check` and `migrate` answer over the text of a certificate.
use Rattle.std.proofs.Common.{◌≡◌, ℕ, inl, inr, true, List, [], ◌∷◌, map, Some, refl, sym, ap, subst, ◌∙◌}
use Rattle.std.proofs.lemmas.Option.{same_Some}
use Rattle.emp_desk.specs.Desk.{Contents}
use Rattle.emp_command.specs.declared.words.Verb.{Verb}
use Rattle.emp_command.specs.declared.words.Verb.TheVariants.{Solve, Check, Print, Migrate}
use Rattle.emp_command.specs.Words.{Asked, Asks}
use Rattle.emp_command.specs.Course.{Outcome}
use Rattle.emp_command.proofs.OneRequest.{one_request}
use Rattle.emp_cert.specs.declared.cert.Cert.{Cert}
use Rattle.emp_cert_text.specs.Text.{cert_text}
use Rattle.emp_cert_text.specs.Upgrading.{IsUpgrade}
use Rattle.emp_check.specs.Checks.{checked}
use Rattle.emp_outcomes.specs.Outcomes.{Checks, Migrates}
use Rattle.emp_answers.specs.Answers.{is_built_for, Does, prints, solves, checks, migrates}
use Rattle.emp_outcome_laws.specs.Certificates.{check_outcome, migrate_outcome}
use Rattle.emp_outcome_laws.proofs.Checking.{one_check, one_migration}
use Rattle.emp_engine.specs.Run.{IsCheck, IsMigrate, HoldsCert, IsDelivered, OrFails, NamesTexts, IsAnswered}
use Rattle.emp_engine.proofs.Headline.{not_verbs}
use Rattle.emp_engine.proofs.Verbs.{check_verb, migrate_verb}
use Rattle.emp_engine.proofs.Clauses.{print_check, solve_check, migrate_check, solve_migrate, print_migrate, check_migrate}
use Rattle.emp_engine.proofs.Whole.{does_now}

-- what was answered is the outcome
pub delivered_as : (words : List (List ℕ)) (x y : Contents) (end : ℕ) (o : Outcome) (n : IsAnswered words x y end) → n.outcome ≡ o → IsDelivered o x y end
delivered_as words x y end o n e =
    subst (λ (p : Outcome). IsDelivered p x y end) e (record { is = n.is; between = n.between; stored = n.stored; said = n.said })

pub or_fails : (s : ℕ) (p q : Type 0) → (p → q) → OrFails s p → OrFails s q
or_fails s p q f (inl e) = inl e
or_fails s p q f (inr (inl e)) = inr (inl e)
or_fails s p q f (inr (inr (inl e))) = inr (inr (inl e))
or_fails s p q f (inr (inr (inr h))) = inr (inr (inr (f h)))

module _ (words : List (List ℕ)) (x : Contents) (h : HoldsCert words x) (v : Verb) (built : is_built_for v ≡ true) where
  names_cert : ((r : Asked) → Asks words r → r.verb ≡ v) → (r : Asked) → Asks words r → NamesTexts r x h.model h.annot
  names_cert verb r n = record {
    built = ap is_built_for (verb r n) ∙ built;
    model_file = h.texts.model_file;
    info_file = h.texts.info_file;
    others = h.texts.others;
    files = ap (λ (q : Asked). q.files) (one_request words r h.texts.request n h.texts.asked) ∙ h.texts.files;
    model = h.texts.model;
    info = h.texts.info;
  }

  head_of : (ct dt : List ℕ) → ct ∷ [] ≡ dt ∷ [] → ct ≡ dt
  head_of ct dt e = cc

  third_text : (ct : List ℕ) (fs : List (List ℕ)) → fs ≡ h.cert_file ∷ [] → map x.holds fs ≡ ct ∷ [] → ct ≡ cert_text h.cert
  third_text ct fs e k = head_of ct (x.holds h.cert_file) (sym k ∙ ap (map x.holds) e) ∙ h.text

-- ---- `check`
module _ (words : List (List ℕ)) (x : Contents) (c : IsCheck words) (h : HoldsCert words x) where
  record ChecksAt (rest : List (List ℕ)) (o : Outcome) : Type 0 where
    ct : List ℕ
    is : rest ≡ ct ∷ []
    checks : Checks h.model h.annot ct o

  checks_of : (r : Asked) (rest : List (List ℕ)) (o : Outcome) → Does h.model h.annot r rest o → r.verb ≡ Check → ChecksAt rest o
  checks_of r rest o (prints t v d) w = absurd (print_check (not_verbs r.verb Print Check v w))
  checks_of r rest o (solves p v k) w = absurd (solve_check (not_verbs r.verb Solve Check v w))
  checks_of r rest o (checks ct p v k) w = record { ct = ct; is = refl; checks = k }
  checks_of r rest o (migrates ct name p v n k) w = absurd (migrate_check (not_verbs r.verb Migrate Check v w))

  pub tested : (y : Contents) (end : ℕ) (n : IsAnswered words x y end) → n.outcome ≡ check_outcome h.cert (checked h.stated.system h.cert)
  unfolding names_cert
  tested y end n =
      let k = checks_of n.request (map x.holds h.texts.others) n.outcome (does_now words x y end h.model h.annot (names_cert words x h Check refl (λ r a. check_verb words r c a)) n) (check_verb words n.request c n.asked) in
      one_check h.model h.annot h.stated h.cert n.outcome h.rows (subst (λ ct. Checks h.model h.annot ct n.outcome) (third_text words x h Check refl k.ct h.texts.others h.third k.is) k.checks)

  pub either_tested : (y : Contents) (end : ℕ) → OrFails end (IsAnswered words x y end) → OrFails end (IsDelivered (check_outcome h.cert (checked h.stated.system h.cert)) x y end)
  either_tested y end k = or_fails end (IsAnswered words x y end) (IsDelivered (check_outcome h.cert (checked h.stated.system h.cert)) x y end) (λ n. delivered_as words x y end _ n (tested y end n)) k

-- ---- `migrate`
module _ (words : List (List ℕ)) (x : Contents) (c : IsMigrate words) (h : HoldsCert words x) (name : List ℕ) (d : Cert) (out : h.texts.request.output ≡ Some name) (u : IsUpgrade h.cert h.stated.system.pairs d) where
  record MigratesAt (r : Asked) (rest : List (List ℕ)) (o : Outcome) : Type 0 where
    ct : List ℕ
    is : rest ≡ ct ∷ []
    file : List ℕ
    last : r.output ≡ Some file
    migrates : Migrates h.model h.annot ct file o

  migrates_of : (r : Asked) (rest : List (List ℕ)) (o : Outcome) → Does h.model h.annot r rest o → r.verb ≡ Migrate → MigratesAt r rest o
  migrates_of r rest o (prints t v e) w = absurd (print_migrate (not_verbs r.verb Print Migrate v w))
  migrates_of r rest o (solves p v k) w = absurd (solve_migrate (not_verbs r.verb Solve Migrate v w))
  migrates_of r rest o (checks ct p v k) w = absurd (check_migrate (not_verbs r.verb Check Migrate v w))
  migrates_of r rest o (migrates ct file p v n k) w = record { ct = ct; is = refl; file = file; last = n; migrates = k }

  same_name : (r : Asked) (file : List ℕ) → Asks words r → r.output ≡ Some file → file ≡ name
  same_name r file n e = same_Some file name (sym e ∙ (ap (λ (q : Asked). q.output) (one_request words r h.texts.request n h.texts.asked) ∙ out))

  pub moved : (y : Contents) (end : ℕ) (n : IsAnswered words x y end) → n.outcome ≡ migrate_outcome name d (checked h.stated.system h.cert)
  unfolding names_cert
  moved y end n =
      let k = migrates_of n.request (map x.holds h.texts.others) n.outcome (does_now words x y end h.model h.annot (names_cert words x h Migrate refl (λ r a. migrate_verb words r c a)) n) (migrate_verb words n.request c n.asked) in
      one_migration h.model h.annot h.stated h.cert d name n.outcome h.rows u
      (subst (λ (f : List ℕ). Migrates h.model h.annot (cert_text h.cert) f n.outcome) (same_name n.request k.file n.asked k.last)
      (subst (λ ct. Migrates h.model h.annot ct k.file n.outcome) (third_text words x h Migrate refl k.ct h.texts.others h.third k.is) k.migrates))

  pub either_moved : (y : Contents) (end : ℕ) → OrFails end (IsAnswered words x y end) → OrFails end (IsDelivered (migrate_outcome name d (checked h.stated.system h.cert)) x y end)
  either_moved y end k = or_fails end (IsAnswered words x y end) (IsDelivered (migrate_outcome name d (checked h.stated.system h.cert)) x y end) (λ n. delivered_as words x y end _ n (moved y end n)) k
