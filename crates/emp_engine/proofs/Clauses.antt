-- What the other statuses say of the files.
use Rattle.std.proofs.Common.{◌≡◌, ◌≢◌, ℕ, ◌<◌, inl, inr, List, [], ◌∷◌, ◌++◌, map, Some, Err, arith, refl, sym, ap, subst, ◌∙◌}
use Rattle.emp_ast.specs.declared.model.Model.{Model}
use Rattle.emp_ast.specs.declared.annot.Annot.{Annot}
use Rattle.emp_desk.specs.Desk.{Contents}
use Rattle.emp_command.specs.declared.words.Verb.TheVariants.{Solve, Check, Print, Migrate}
use Rattle.emp_command.specs.Words.{Asked}
use Rattle.emp_command.specs.Course.{Outcome, refusal, StoresAll}
use Rattle.gms_grammar.specs.declared.fault.ModelFault.{ModelFault}
use Rattle.gms_grammar.specs.declared.fault.ModelFault.TheVariants as ModelWords
use Rattle.gms_read.specs.Texts.{IsModelText, RefusesModel}
use Rattle.gms_print.specs.Canonical.{IsCanonical}
use Rattle.info_read.specs.declared.fault.InfoFault.{InfoFault}
use Rattle.info_read.specs.declared.fault.InfoFault.TheVariants as InfoWords
use Rattle.info_read.specs.Texts.{RefusesInfo}
use Rattle.info_print.specs.Canonical.{info_text}
use Rattle.emp_owner.specs.declared.owned.OwnFault.{OwnFault}
use Rattle.emp_owner.specs.declared.owned.OwnFault.TheVariants as OwnWords
use Rattle.emp_owner.specs.Settled.{IsFirstBroken}
use Rattle.emp_poly.specs.declared.tree.PolyFault.TheVariants as PolyWords
use Rattle.emp_report.specs.TextLines.{model_line, info_line, own_line}
use Rattle.emp_report.specs.ClassLines.{convex_line}
use Rattle.emp_cert.specs.declared.cert.Cert.{Cert}
use Rattle.emp_cert_text.specs.Text.{cert_text}
use Rattle.emp_cert_text.specs.Upgrading.{IsUpgrade}
use Rattle.emp_report.specs.CertLines.{accepted_line, migrated_line}
use Rattle.emp_share.specs.declared.share.ShareFault.TheVariants.{NotConvex as NotConvexFault}
use Rattle.emp_share.specs.Laws.{IsNotConvex}
use Rattle.emp_share.proofs.Files.{fault_tells}
use Rattle.emp_cert.specs.declared.cert.Found.{Found}
use Rattle.emp_cert.specs.declared.cert.Verdict.{Verdict}
use Rattle.emp_cert.specs.declared.cert.Verdict.TheVariants.{Point as PointVerdict, Missing, Best, Unbounded}
use Rattle.emp_solution.specs.declared.state.Stated.{Stated}
use Rattle.emp_solution.specs.declared.state.StateFault.{StateFault}
use Rattle.emp_solution.specs.declared.state.StateFault.TheVariants as StateWords
use Rattle.emp_solution.specs.Stated.{StateGives}
use Rattle.emp_solution.proofs.Tells.{stated_tells}
use Rattle.emp_outcome_laws.proofs.Images.{accepted_passed, accepted_stands}
use Rattle.emp_outcomes.specs.Outcomes.{state_status, state_line, Refuses, bad_owner, unstated, ReportOf, Solves, refused, unfinished, unfilled, too_long, answered, Unaccepted, no_rows, bad_text, rejected, wide_sum, IsAccepted, Checks, unaccepted, accepted, Migrates, unmigrated, migrated_long, migrated}
use Rattle.emp_answers.specs.Answers.{Does, prints, solves, checks, migrates, Answers, unbuilt, bad_model, bad_info, done}
use Rattle.emp_engine.specs.Run.{IsAnswer, over_texts, market, HasAccepted, ShowsAccepted, ShowsMigrated, SaysCanonical, ShowsModelFault, ShowsInfoFault, ShowsOwnFault, ShowsNotConvex, IsAnswered}
use Rattle.emp_engine.proofs.Verbs.{print_not_make, check_not_make, migrate_not_make}
use Rattle.emp_engine.proofs.Headline.{first_two, NotMade, not_by_status, not_by_verb, DoneAt, done_now, grows, one_stored, said_alone, refuses_high, unaccepted_high, state_high, walk_high, not_verbs}

-- ---- verbs
solve_print : Solve ≡ Print → ⊥
solve_print e = cc

check_print : Check ≡ Print → ⊥
check_print e = cc

migrate_print : Migrate ≡ Print → ⊥
migrate_print e = cc

pub solve_check : Solve ≡ Check → ⊥
solve_check e = cc

pub print_check : Print ≡ Check → ⊥
print_check e = cc

pub migrate_check : Migrate ≡ Check → ⊥
migrate_check e = cc

pub solve_migrate : Solve ≡ Migrate → ⊥
solve_migrate e = cc

pub print_migrate : Print ≡ Migrate → ⊥
print_migrate e = cc

pub check_migrate : Check ≡ Migrate → ⊥
check_migrate e = cc

-- ---- canonical texts
record PrintedAt (m : Model) (a : Annot) (o : Outcome) : Type 0 where
  text : List ℕ
  canonical : IsCanonical m text
  stores : o.stores ≡ []
  says : o.says ≡ text ++ info_text m a

printed_at : (m : Model) (a : Annot) (r : Asked) (rest : List (List ℕ)) (o : Outcome) → Does m a r rest o → r.verb ≡ Print → PrintedAt m a o
printed_at m a r rest o (prints t v c) w = record { text = t; canonical = c; stores = refl; says = refl }
printed_at m a r rest o (solves p v h) w = absurd (solve_print (not_verbs r.verb Solve Print v w))
printed_at m a r rest o (checks ct p v h) w = absurd (check_print (not_verbs r.verb Check Print v w))
printed_at m a r rest o (migrates ct name p v n h) w = absurd (migrate_print (not_verbs r.verb Migrate Print v w))

-- ---- accepted certificates
record AcceptedAt (m : Model) (a : Annot) (rest : List (List ℕ)) (o : Outcome) : Type 0 where
  ct : List ℕ
  rest_is : rest ≡ ct ∷ []
  stated : Stated
  cert : Cert
  is : IsAccepted m a ct stated cert
  says : o.says ≡ accepted_line cert.verdict

checks_accepted : (m : Model) (a : Annot) (ct : List ℕ) (o : Outcome) → Checks m a ct o → o.status ≡ 0 → AcceptedAt m a (ct ∷ []) o
checks_accepted m a ct o (unaccepted p h) z = absurd (omega (arith, z, unaccepted_high m a ct p h))
checks_accepted m a ct o (accepted s c h) z = record { ct = ct; rest_is = refl; stated = s; cert = c; is = h; says = refl }

accepted_at : (m : Model) (a : Annot) (r : Asked) (rest : List (List ℕ)) (o : Outcome) → Does m a r rest o → r.verb ≡ Check → o.status ≡ 0 → AcceptedAt m a rest o
accepted_at m a r rest o (prints t v c) w z = absurd (print_check (not_verbs r.verb Print Check v w))
accepted_at m a r rest o (solves p v h) w z = absurd (solve_check (not_verbs r.verb Solve Check v w))
accepted_at m a r rest o (checks ct p v h) w z = checks_accepted m a ct p h z
accepted_at m a r rest o (migrates ct name p v n h) w z = absurd (migrate_check (not_verbs r.verb Migrate Check v w))

record MigratedAt (m : Model) (a : Annot) (r : Asked) (rest : List (List ℕ)) (o : Outcome) : Type 0 where
  ct : List ℕ
  rest_is : rest ≡ ct ∷ []
  name : List ℕ
  last : r.output ≡ Some name
  stated : Stated
  cert : Cert
  is : IsAccepted m a ct stated cert
  named : Cert
  upgrade : IsUpgrade cert stated.system.pairs named
  stores : o.stores ≡ (name, cert_text named) ∷ []
  says : o.says ≡ migrated_line named.verdict

migrates_stored : (m : Model) (a : Annot) (r : Asked) (ct name : List ℕ) (o : Outcome) → r.output ≡ Some name → Migrates m a ct name o → o.status ≡ 0 → MigratedAt m a r (ct ∷ []) o
migrates_stored m a r ct name o n (unmigrated p h) z = absurd (omega (arith, z, unaccepted_high m a ct p h))
migrates_stored m a r ct name o n (migrated_long s c d h u l) z = absurd (omega arith)
migrates_stored m a r ct name o n (migrated s c d h u l) z = record { ct = ct; rest_is = refl; name = name; last = n; stated = s; cert = c; is = h; named = d; upgrade = u; stores = refl; says = refl }

migrated_at : (m : Model) (a : Annot) (r : Asked) (rest : List (List ℕ)) (o : Outcome) → Does m a r rest o → r.verb ≡ Migrate → o.status ≡ 0 → MigratedAt m a r rest o
migrated_at m a r rest o (prints t v c) w z = absurd (print_migrate (not_verbs r.verb Print Migrate v w))
migrated_at m a r rest o (solves p v h) w z = absurd (solve_migrate (not_verbs r.verb Solve Migrate v w))
migrated_at m a r rest o (checks ct p v h) w z = absurd (check_migrate (not_verbs r.verb Check Migrate v w))
migrated_at m a r rest o (migrates ct name p v n h) w z = migrates_stored m a r ct name p n h z

-- the third file of the words
record Third (x : Contents) (fs : List (List ℕ)) (ct : List ℕ) : Type 0 where
  file : List ℕ
  files : fs ≡ file ∷ []
  holds : x.holds file ≡ ct

third : (x : Contents) (fs : List (List ℕ)) (rest : List (List ℕ)) (ct : List ℕ) → rest ≡ map x.holds fs → rest ≡ ct ∷ [] → Third x fs ct
third x fs rest ct e f = go fs (sym e ∙ f)
  where
    go : (gs : List (List ℕ)) → map x.holds gs ≡ ct ∷ [] → Third x gs ct
    go [] h = cc
    go (g ∷ []) h = record { file = g; files = refl; holds = cc }
    go (g ∷ k ∷ gs) h = cc

has_accepted : (words : List (List ℕ)) (x : Contents) (r : Asked) (o : Outcome) (d : DoneAt words x r o) (ct : List ℕ) (s : Stated) (c : Cert) → d.rest ≡ ct ∷ [] → IsAccepted d.model d.annot ct s c → HasAccepted words x
has_accepted words x r o d ct s c e h =
    let t = third x d.others d.rest ct d.rest_is e in
    record {
      model = d.model;
      annot = d.annot;
      texts = d.texts;
      cert_file = t.file;
      third = d.others_are ∙ t.files;
      stated = s;
      rows = h.stated;
      cert = c;
      text = t.holds ∙ h.text;
      accepted = h.accepted;
      tells = stated_tells d.model d.annot s c.verdict h.stated (accepted_passed s.system c h.accepted).shown;
      stands = accepted_stands d.model d.annot s c h.stated h.accepted;
    }

-- ---- ownership and convexity
record OwnerAt (m : Model) (a : Annot) (o : Outcome) : Type 0 where
  fault : OwnFault
  named : fault ≢ OwnWords.NoMemory
  broken : IsFirstBroken m a fault
  stores : o.stores ≡ []
  says : o.says ≡ own_line m fault

refuses_owner : (m : Model) (a : Annot) (o : Outcome) → Refuses m a o → o.status ≡ 16 → OwnerAt m a o
refuses_owner m a o (bad_owner f n b) z = record { fault = f; named = n; broken = b; stores = refl; says = refl }
refuses_owner m a o (unstated f n k g) z = absurd (omega (arith, z, state_high f))

record BentAt (m : Model) (a : Annot) (o : Outcome) : Type 0 where
  block : ℕ
  own : ℕ
  not : IsNotConvex m a block own
  stores : o.stores ≡ []
  says : o.says ≡ convex_line block own

state_bent : (m : Model) (a : Annot) (f : StateFault) → StateGives m a (Err f) → state_status f ≡ 18 → BentAt m a (refusal (state_status f) (state_line m f))
state_bent m a (StateWords.Poly (PolyWords.Degree p)) g z = absurd (omega arith)
state_bent m a (StateWords.Poly (PolyWords.DivideByVariable p)) g z = absurd (omega arith)
state_bent m a (StateWords.Poly (PolyWords.DivideByZero p)) g z = absurd (omega arith)
state_bent m a (StateWords.Poly (PolyWords.Wide p)) g z = absurd (omega arith)
state_bent m a (StateWords.Poly PolyWords.NoMemory) g z = absurd (omega arith)
state_bent m a (StateWords.Quadratic e u v) g z = absurd (omega arith)
state_bent m a (StateWords.LeaderNotLinear u v) g z = absurd (omega arith)
state_bent m a (StateWords.NotConvex b k) g z = record { block = b; own = k; not = fault_tells m a g.problem g.is g.class (NotConvexFault b k) g.fault; stores = refl; says = refl }
state_bent m a (StateWords.WideCurve b k) g z = absurd (omega arith)
state_bent m a StateWords.TooLarge g z = absurd (omega arith)
state_bent m a (StateWords.WideRow k) g z = absurd (omega arith)
state_bent m a StateWords.NoMemory g z = absurd (omega arith)

refuses_bent : (m : Model) (a : Annot) (o : Outcome) → Refuses m a o → o.status ≡ 18 → BentAt m a o
refuses_bent m a o (bad_owner f n b) z = absurd (omega arith)
refuses_bent m a o (unstated f n k g) z = state_bent m a f g z

-- a refusal of the file is what each verb answers with its status
report_low : (m : Model) (a : Annot) (s : Stated) (f : Found) (v : Verdict) (t : ℕ × List ℕ) → ReportOf m a s f v t → t.0 < 3
report_low m a s f (PointVerdict fs) t h = let k = ap (λ (r : ℕ × List ℕ). r.0) h.is in omega (arith, k)
report_low m a s f (Missing tree) t h = let k = ap (λ (r : ℕ × List ℕ). r.0) h in omega (arith, k)
report_low m a s f (Best fs tree) t h = let k = ap (λ (r : ℕ × List ℕ). r.0) h.is in omega (arith, k)
report_low m a s f (Unbounded fs gs) t h = let k = ap (λ (r : ℕ × List ℕ). r.0) h.is in omega (arith, k)

solves_refused : (m : Model) (a : Annot) (r : Asked) (o : Outcome) → Solves m a r o → 2 < o.status → o.status < 19 → Refuses m a o
solves_refused m a r o (refused p h) k l = h
solves_refused m a r o (unfinished s f n i g) k l = absurd (omega (arith, l, walk_high f))
solves_refused m a r o (unfilled s f w i g u) k l = absurd (omega arith)
solves_refused m a r o (too_long s f t i g q c) k l = absurd (omega arith)
solves_refused m a r o (answered s f t i g q c) k l = absurd (omega (arith, k, report_low m a s f f.cert.verdict t q))

unaccepted_refused : (m : Model) (a : Annot) (ct : List ℕ) (o : Outcome) → Unaccepted m a ct o → o.status < 19 → Refuses m a o
unaccepted_refused m a ct o (no_rows p h) l = h
unaccepted_refused m a ct o (bad_text s f n k i h) l = absurd (omega arith)
unaccepted_refused m a ct o (rejected s c node w i t h) l = absurd (omega arith)
unaccepted_refused m a ct o (wide_sum s c node i t h) l = absurd (omega arith)

checks_refused : (m : Model) (a : Annot) (ct : List ℕ) (o : Outcome) → Checks m a ct o → 2 < o.status → o.status < 19 → Refuses m a o
checks_refused m a ct o (unaccepted p h) k l = unaccepted_refused m a ct p h l
checks_refused m a ct o (accepted s c h) k l = absurd (omega arith)

migrates_refused : (m : Model) (a : Annot) (ct name : List ℕ) (o : Outcome) → Migrates m a ct name o → 2 < o.status → o.status < 19 → Refuses m a o
migrates_refused m a ct name o (unmigrated p h) k l = unaccepted_refused m a ct p h l
migrates_refused m a ct name o (migrated_long s c d h u q) k l = absurd (omega arith)
migrates_refused m a ct name o (migrated s c d h u q) k l = absurd (omega arith)

does_refused : (m : Model) (a : Annot) (r : Asked) (rest : List (List ℕ)) (o : Outcome) → Does m a r rest o → 2 < o.status → o.status < 19 → Refuses m a o
does_refused m a r rest o (prints t v c) k l = absurd (omega arith)
does_refused m a r rest o (solves p v h) k l = solves_refused m a r p h k l
does_refused m a r rest o (checks ct p v h) k l = checks_refused m a ct p h k l
does_refused m a r rest o (migrates ct name p v n h) k l = migrates_refused m a ct name p h k l

-- ---- texts that are refused
record ModelAt (x : Contents) (r : Asked) (o : Outcome) : Type 0 where
  model_file : List ℕ
  others : List (List ℕ)
  files : r.files ≡ model_file ∷ others
  fault : ModelFault
  named : fault ≢ ModelWords.NoMemory
  refuses : RefusesModel (x.holds model_file) fault
  stores : o.stores ≡ []
  says : o.says ≡ model_line fault

does_not : (m : Model) (a : Annot) (r : Asked) (rest : List (List ℕ)) (o : Outcome) → Does m a r rest o → 2 < o.status → o.status < 16 → ⊥
does_not m a r rest o h k l = omega (arith, l, refuses_high m a o (does_refused m a r rest o h k (omega arith)))

model_at : (x : Contents) (r : Asked) (ts : List (List ℕ)) (o : Outcome) → map x.holds r.files ≡ ts → Answers r ts o → o.status ≡ 14 → ModelAt x r o
model_at x r ts o e (unbuilt us h) z = absurd (omega arith)
model_at x r ts o e (bad_model mt it rest f b n h) z =
    let t = first_two x r.files mt it rest e in
    record { model_file = t.model_file; others = t.info_file ∷ t.others; files = t.files; fault = f; named = n; refuses = subst (λ bs. RefusesModel bs f) t.model_is h; stores = refl; says = refl }
model_at x r ts o e (bad_info mt it rest m f b t n h) z = absurd (omega arith)
model_at x r ts o e (done mt it rest m a p b t i h) z = absurd (does_not m a r rest p h (omega (arith, z)) (omega (arith, z)))

model_now : (x : Contents) (r : Asked) (ts : List (List ℕ)) (o : Outcome) → map x.holds r.files ≡ ts → NotMade r o → IsAnswer r ts o → o.status ≡ 14 → ModelAt x r o
model_now x r ts o e n (over_texts us p h) z = model_at x r us p e h z
model_now x r ts o e n (market p v h) z = absurd (n v h)

record InfoAt (x : Contents) (r : Asked) (o : Outcome) : Type 0 where
  model_file : List ℕ
  info_file : List ℕ
  others : List (List ℕ)
  files : r.files ≡ model_file ∷ info_file ∷ others
  model : Model
  model_text : IsModelText (x.holds model_file) model
  fault : InfoFault
  named : fault ≢ InfoWords.NoMemory
  refuses : RefusesInfo (x.holds info_file) model fault
  stores : o.stores ≡ []
  says : o.says ≡ info_line fault

info_at : (x : Contents) (r : Asked) (ts : List (List ℕ)) (o : Outcome) → map x.holds r.files ≡ ts → Answers r ts o → o.status ≡ 15 → InfoAt x r o
info_at x r ts o e (unbuilt us h) z = absurd (omega arith)
info_at x r ts o e (bad_model mt it rest f b n h) z = absurd (omega arith)
info_at x r ts o e (bad_info mt it rest m f b k n h) z =
    let t = first_two x r.files mt it rest e in
    record {
      model_file = t.model_file;
      info_file = t.info_file;
      others = t.others;
      files = t.files;
      model = m;
      model_text = subst (λ bs. IsModelText bs m) t.model_is k;
      fault = f;
      named = n;
      refuses = subst (λ bs. RefusesInfo bs m f) t.info_is h;
      stores = refl;
      says = refl;
    }
info_at x r ts o e (done mt it rest m a p b t i h) z = absurd (does_not m a r rest p h (omega (arith, z)) (omega (arith, z)))

info_now : (x : Contents) (r : Asked) (ts : List (List ℕ)) (o : Outcome) → map x.holds r.files ≡ ts → NotMade r o → IsAnswer r ts o → o.status ≡ 15 → InfoAt x r o
info_now x r ts o e n (over_texts us p h) z = info_at x r us p e h z
info_now x r ts o e n (market p v h) z = absurd (n v h)

-- ---- the clauses
module _ (words : List (List ℕ)) (x y : Contents) (end : ℕ) (n : IsAnswered words x y end) where
  pub says_canonical : n.request.verb ≡ Print → end ≡ 0 → SaysCanonical words x y
  says_canonical v z =
      let d = done_now words x y end n (not_by_verb n.request n.outcome Print print_not_make v) (inl (omega (arith, z))) in
      let h = printed_at d.model d.annot n.request d.rest n.outcome d.does v in
      record { model = d.model; annot = d.annot; texts = d.texts; canonical = h.text; is = h.canonical; said = said_alone words x y end n (h.text ++ info_text d.model d.annot) h.stores h.says }

  pub shows_accepted : n.request.verb ≡ Check → end ≡ 0 → ShowsAccepted words x y
  unfolding has_accepted
  shows_accepted v z =
      let d = done_now words x y end n (not_by_verb n.request n.outcome Check check_not_make v) (inl (omega (arith, z))) in
      let h = accepted_at d.model d.annot n.request d.rest n.outcome d.does v (n.is ∙ z) in
      record { has = has_accepted words x n.request n.outcome d h.ct h.stated h.cert h.rest_is h.is; said = grows words x y end n (accepted_line h.cert.verdict) h.says }

  pub shows_migrated : n.request.verb ≡ Migrate → end ≡ 0 → ShowsMigrated words x y
  unfolding has_accepted
  shows_migrated v z =
      let d = done_now words x y end n (not_by_verb n.request n.outcome Migrate migrate_not_make v) (inl (omega (arith, z))) in
      let h = migrated_at d.model d.annot n.request d.rest n.outcome d.does v (n.is ∙ z) in
      record {
        has = has_accepted words x n.request n.outcome d h.ct h.stated h.cert h.rest_is h.is;
        name = h.name;
        last = ap (λ r. r.output) d.request ∙ h.last;
        named = h.named;
        upgrade = h.upgrade;
        stored = one_stored h.name (cert_text h.named) x n.between y n.outcome.says (subst (λ ss. StoresAll ss x n.between) h.stores n.stored) n.said;
        said = grows words x y end n (migrated_line h.named.verdict) h.says;
      }

  pub shows_model_fault : end ≡ 14 → ShowsModelFault words x y
  shows_model_fault z =
      let h = model_now x n.request (map x.holds n.request.files) n.outcome refl (not_by_status words x y end n (omega (arith, z), omega (arith, z))) n.answers (n.is ∙ z) in
      record { request = n.request; asked = n.asked; model_file = h.model_file; others = h.others; files = h.files; fault = h.fault; named = h.named; refuses = h.refuses; said = said_alone words x y end n (model_line h.fault) h.stores h.says }

  pub shows_info_fault : end ≡ 15 → ShowsInfoFault words x y
  shows_info_fault z =
      let h = info_now x n.request (map x.holds n.request.files) n.outcome refl (not_by_status words x y end n (omega (arith, z), omega (arith, z))) n.answers (n.is ∙ z) in
      record {
        request = n.request;
        asked = n.asked;
        model_file = h.model_file;
        info_file = h.info_file;
        others = h.others;
        files = h.files;
        model = h.model;
        model_text = h.model_text;
        fault = h.fault;
        named = h.named;
        refuses = h.refuses;
        said = said_alone words x y end n (info_line h.fault) h.stores h.says;
      }

  pub shows_own_fault : end ≡ 16 → ShowsOwnFault words x y
  shows_own_fault z =
      let d = done_now words x y end n (not_by_status words x y end n (omega (arith, z), omega (arith, z))) (inr (omega (arith, z), omega (arith, z))) in
      let h = refuses_owner d.model d.annot n.outcome (does_refused d.model d.annot n.request d.rest n.outcome d.does (omega (arith, z, n.is)) (omega (arith, z, n.is))) (n.is ∙ z) in
      record { model = d.model; annot = d.annot; texts = d.texts; fault = h.fault; named = h.named; broken = h.broken; said = said_alone words x y end n (own_line d.model h.fault) h.stores h.says }

  pub shows_not_convex : end ≡ 18 → ShowsNotConvex words x y
  shows_not_convex z =
      let d = done_now words x y end n (not_by_status words x y end n (omega (arith, z), omega (arith, z))) (inr (omega (arith, z), omega (arith, z))) in
      let h = refuses_bent d.model d.annot n.outcome (does_refused d.model d.annot n.request d.rest n.outcome d.does (omega (arith, z, n.is)) (omega (arith, z, n.is))) (n.is ∙ z) in
      record { model = d.model; annot = d.annot; texts = d.texts; block = h.block; own = h.own; not = h.not; said = said_alone words x y end n (convex_line h.block h.own) h.stores h.says }
