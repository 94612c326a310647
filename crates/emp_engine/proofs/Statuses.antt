-- The statuses of answers over texts, and the files that they store.
use Rattle.std.proofs.Common.{◌≡◌, ◌≢◌, ℕ, ◌⊎◌, inl, inr, Bool, true, false, ◌||◌, List, [], ◌∷◌, ◌++◌, codes, Option, Some, None, refl, sym, ap, subst, ◌∙◌, bytes_eq}
use Rattle.std.specs.List.{list_any}
use Rattle.std.proofs.lemmas.Bool.{false≢true}
use Rattle.std.proofs.lemmas.Slice.Eq.{bytes_eq-Decides}
use Rattle.emp_ast.specs.declared.model.Model.{Model}
use Rattle.emp_ast.specs.declared.annot.Annot.{Annot}
use Rattle.emp_command.specs.declared.words.Verb.{Verb}
use Rattle.emp_command.specs.declared.words.Verb.TheVariants.{Solve, Make, Migrate}
use Rattle.emp_command.specs.Words.{Asked}
use Rattle.emp_command.specs.Course.{Outcome, IsInRange}
use Rattle.emp_poly.specs.declared.tree.PolyFault.{PolyFault}
use Rattle.emp_poly.specs.declared.tree.PolyFault.TheVariants as PolyWords
use Rattle.emp_report.specs.ClassLines.{poly_status}
use Rattle.emp_cert.specs.declared.cert.Cert.{Cert}
use Rattle.emp_cert.specs.declared.cert.Found.{Found}
use Rattle.emp_cert.specs.declared.cert.Verdict.{Verdict}
use Rattle.emp_cert.specs.declared.cert.Verdict.TheVariants.{Point, Missing, Best, Unbounded}
use Rattle.emp_cert_text.specs.Text.{cert_text}
use Rattle.emp_walk.specs.declared.fault.WalkFault.{WalkFault}
use Rattle.emp_walk.specs.declared.fault.WalkFault.TheVariants as WalkWords
use Rattle.emp_solution.specs.declared.state.Stated.{Stated}
use Rattle.emp_solution.specs.declared.state.StateFault.{StateFault}
use Rattle.emp_solution.specs.declared.state.StateFault.TheVariants as StateWords
use Rattle.emp_outcomes.specs.Outcomes.{state_status, IsNamedFault, Refuses, bad_owner, unstated, walk_status, ReportOf, cert_stores, Solves, refused, unfinished, unfilled, too_long, answered, Unaccepted, no_rows, bad_text, rejected, wide_sum, Checks, unaccepted, accepted, Migrates, unmigrated, migrated_long, migrated}
use Rattle.emp_answers.specs.Answers.{Does, prints, solves, checks, migrates, Answers, unbuilt, bad_model, bad_info, done}
use Rattle.emp_makes.specs.Makes.{Saves, SumsUp}
use Rattle.emp_makes.specs.Makes as Made
use Rattle.emp_makes.proofs.Ends.{makes_end}
use Rattle.emp_engine.specs.Run.{IsStatus, IsAnswer, over_texts, market, is_caused, written_by, written}

-- ---- statuses
pub record IsLate (s : ℕ) : Type 0 where
  pub status : IsStatus s
  pub cause : (is_caused s ≡ true) ⊎ (s ≡ 24)

late_of : (s t : ℕ) → t ≡ s → IsLate s → IsLate t
late_of s t e h = subst IsLate (sym e) h

poly_late : (f : PolyFault) → (f ≡ PolyWords.NoMemory → ⊥) → IsLate (poly_status f)
poly_late (PolyWords.Degree p) n = record { status = refl; cause = inl refl }
poly_late (PolyWords.DivideByVariable p) n = record { status = refl; cause = inl refl }
poly_late (PolyWords.DivideByZero p) n = record { status = refl; cause = inl refl }
poly_late (PolyWords.Wide p) n = record { status = refl; cause = inl refl }
poly_late PolyWords.NoMemory n = absurd (n refl)

state_late : (f : StateFault) → IsNamedFault f → IsLate (state_status f)
state_late (StateWords.Poly (PolyWords.Degree p)) n = record { status = refl; cause = inl refl }
state_late (StateWords.Poly (PolyWords.DivideByVariable p)) n = record { status = refl; cause = inl refl }
state_late (StateWords.Poly (PolyWords.DivideByZero p)) n = record { status = refl; cause = inl refl }
state_late (StateWords.Poly (PolyWords.Wide p)) n = record { status = refl; cause = inl refl }
state_late (StateWords.Poly PolyWords.NoMemory) n = absurd n
state_late (StateWords.Quadratic e u v) n = record { status = refl; cause = inl refl }
state_late (StateWords.LeaderNotLinear u v) n = record { status = refl; cause = inl refl }
state_late (StateWords.NotConvex b k) n = record { status = refl; cause = inl refl }
state_late (StateWords.WideCurve b k) n = record { status = refl; cause = inl refl }
state_late StateWords.TooLarge n = record { status = refl; cause = inr refl }
state_late (StateWords.WideRow k) n = record { status = refl; cause = inl refl }
state_late StateWords.NoMemory n = absurd n

walk_late : (f : WalkFault) → f ≢ WalkWords.NoMemory → IsLate (walk_status f)
walk_late (WalkWords.Wide node pivot) n = record { status = refl; cause = inl refl }
walk_late (WalkWords.Spent limit) n = record { status = refl; cause = inl refl }
walk_late WalkWords.NoMemory n = absurd (n refl)

refuses_late : (m : Model) (a : Annot) (o : Outcome) → Refuses m a o → IsLate o.status
refuses_late m a o (bad_owner f n b) = record { status = refl; cause = inl refl }
refuses_late m a o (unstated f n k g) = state_late f n

report_late : (m : Model) (a : Annot) (s : Stated) (f : Found) (v : Verdict) (t : ℕ × List ℕ) → ReportOf m a s f v t → IsLate t.0
report_late m a s f (Point fs) t h = late_of 0 t.0 (ap (λ r. r.0) h.is) (record { status = refl; cause = inl refl })
report_late m a s f (Missing tree) t h = late_of 1 t.0 (ap (λ r. r.0) h) (record { status = refl; cause = inl refl })
report_late m a s f (Best fs tree) t h = late_of 0 t.0 (ap (λ r. r.0) h.is) (record { status = refl; cause = inl refl })
report_late m a s f (Unbounded fs gs) t h = late_of 2 t.0 (ap (λ r. r.0) h.is) (record { status = refl; cause = inl refl })

solves_late : (m : Model) (a : Annot) (r : Asked) (o : Outcome) → Solves m a r o → IsLate o.status
solves_late m a r o (refused p h) = refuses_late m a p h
solves_late m a r o (unfinished s f n i g) = walk_late f n
solves_late m a r o (unfilled s f w i g u) = record { status = refl; cause = inl refl }
solves_late m a r o (too_long s f t i g k l) = record { status = refl; cause = inr refl }
solves_late m a r o (answered s f t i g k l) = report_late m a s f f.cert.verdict t k

unaccepted_late : (m : Model) (a : Annot) (ct : List ℕ) (o : Outcome) → Unaccepted m a ct o → IsLate o.status
unaccepted_late m a ct o (no_rows p h) = refuses_late m a p h
unaccepted_late m a ct o (bad_text s f n l i h) = record { status = refl; cause = inl refl }
unaccepted_late m a ct o (rejected s c node w i t h) = record { status = refl; cause = inl refl }
unaccepted_late m a ct o (wide_sum s c node i t h) = record { status = refl; cause = inl refl }

checks_late : (m : Model) (a : Annot) (ct : List ℕ) (o : Outcome) → Checks m a ct o → IsLate o.status
checks_late m a ct o (unaccepted p h) = unaccepted_late m a ct p h
checks_late m a ct o (accepted s c h) = record { status = refl; cause = inl refl }

migrates_late : (m : Model) (a : Annot) (ct name : List ℕ) (o : Outcome) → Migrates m a ct name o → IsLate o.status
migrates_late m a ct name o (unmigrated p h) = unaccepted_late m a ct p h
migrates_late m a ct name o (migrated_long s c d h u l) = record { status = refl; cause = inr refl }
migrates_late m a ct name o (migrated s c d h u l) = record { status = refl; cause = inl refl }

does_late : (m : Model) (a : Annot) (r : Asked) (rest : List (List ℕ)) (o : Outcome) → Does m a r rest o → IsLate o.status
does_late m a r rest o (prints t v c) = record { status = refl; cause = inl refl }
does_late m a r rest o (solves p v h) = solves_late m a r p h
does_late m a r rest o (checks ct p v h) = checks_late m a ct p h
does_late m a r rest o (migrates ct name p v n h) = migrates_late m a ct name p h

answers_late : (r : Asked) (ts : List (List ℕ)) (o : Outcome) → Answers r ts o → IsLate o.status
answers_late r ts o (unbuilt us h) = record { status = refl; cause = inl refl }
answers_late r ts o (bad_model mt it rest f b n h) = record { status = refl; cause = inl refl }
answers_late r ts o (bad_info mt it rest m f b t n h) = record { status = refl; cause = inl refl }
answers_late r ts o (done mt it rest m a p b t i h) = does_late m a r rest p h

three_late : (s : ℕ) → (s ≡ 0) ⊎ ((s ≡ 19) ⊎ (s ≡ 20)) → IsLate s
three_late s (inl e) = late_of 0 s e (record { status = refl; cause = inl refl })
three_late s (inr (inl e)) = late_of 19 s e (record { status = refl; cause = inl refl })
three_late s (inr (inr e)) = late_of 20 s e (record { status = refl; cause = inl refl })

pub answer_late : (r : Asked) (ts : List (List ℕ)) (o : Outcome) → IsInRange r → IsAnswer r ts o → IsLate o.status
answer_late r ts o i (over_texts us p h) = answers_late r us p h
answer_late r ts o i (market p v h) = three_late p.status (makes_end r p (i.1 v) h)

-- a status that is caused by texts is no other
pub not_caused : (s k : ℕ) → (is_caused s ≡ true) ⊎ (s ≡ 24) → is_caused k ≡ false → (k ≡ 24 → ⊥) → s ≢ k
not_caused s k (inl h) f n e = false≢true (sym f ∙ (ap is_caused (sym e) ∙ h))
not_caused s k (inr h) f n e = n (sym e ∙ h)

-- ---- files that are stored are ones that the words name to be written
abbrev pub named_by : List (List ℕ) → List ℕ → Bool
named_by ws name = list_any (λ f. bytes_eq f name) ws

abbrev pub AreNamed : List (List ℕ) → List (List ℕ × List ℕ) → Type 0
AreNamed ws [] = Unit {0}
AreNamed ws (s ∷ ss) = (named_by ws s.0 ≡ true) × AreNamed ws ss

same_bytes : (bs : List ℕ) → bytes_eq bs bs ≡ true
same_bytes bs = (bytes_eq-Decides bs bs).1 refl

named_alone : (name : List ℕ) → named_by (name ∷ []) name ≡ true
named_alone name = go (bytes_eq name name) (same_bytes name)
  where
    go : (b : Bool) → b ≡ true → (b || false) ≡ true
    go b e = cc

cert_named : (o : Option (List ℕ)) (c : Cert) → AreNamed (written_by Solve o) (cert_stores o c)
cert_named None c = tt
cert_named (Some name) c = (named_alone name, tt)

by_verb : (v w : Verb) (o p : Option (List ℕ)) (ss : List (List ℕ × List ℕ)) → v ≡ w → o ≡ p → AreNamed (written_by w p) ss → AreNamed (written_by v o) ss
by_verb v w o p ss e f h = subst (λ x. AreNamed (written_by x o) ss) (sym e) (subst (λ y. AreNamed (written_by w y) ss) (sym f) h)

refuses_named : (m : Model) (a : Annot) (o : Outcome) (ws : List (List ℕ)) → Refuses m a o → AreNamed ws o.stores
refuses_named m a o ws (bad_owner f n b) = tt
refuses_named m a o ws (unstated f n k g) = tt

unaccepted_named : (m : Model) (a : Annot) (ct : List ℕ) (o : Outcome) (ws : List (List ℕ)) → Unaccepted m a ct o → AreNamed ws o.stores
unaccepted_named m a ct o ws (no_rows p h) = refuses_named m a p ws h
unaccepted_named m a ct o ws (bad_text s f n l i h) = tt
unaccepted_named m a ct o ws (rejected s c node w i t h) = tt
unaccepted_named m a ct o ws (wide_sum s c node i t h) = tt

solves_named : (m : Model) (a : Annot) (r : Asked) (o : Outcome) → r.verb ≡ Solve → Solves m a r o → AreNamed (written r) o.stores
solves_named m a r o v (refused p h) = refuses_named m a p (written r) h
solves_named m a r o v (unfinished s f n i g) = tt
solves_named m a r o v (unfilled s f w i g u) = tt
solves_named m a r o v (too_long s f t i g k l) = tt
solves_named m a r o v (answered s f t i g k l) = by_verb r.verb Solve r.output r.output (cert_stores r.output f.cert) v refl (cert_named r.output f.cert)

checks_named : (m : Model) (a : Annot) (ct : List ℕ) (o : Outcome) (ws : List (List ℕ)) → Checks m a ct o → AreNamed ws o.stores
checks_named m a ct o ws (unaccepted p h) = unaccepted_named m a ct p ws h
checks_named m a ct o ws (accepted s c h) = tt

migrates_named : (m : Model) (a : Annot) (r : Asked) (ct name : List ℕ) (o : Outcome) → r.verb ≡ Migrate → r.output ≡ Some name → Migrates m a ct name o → AreNamed (written r) o.stores
migrates_named m a r ct name o v e (unmigrated p h) = unaccepted_named m a ct p (written r) h
migrates_named m a r ct name o v e (migrated_long s c d h u l) = tt
migrates_named m a r ct name o v e (migrated s c d h u l) = by_verb r.verb Migrate r.output (Some name) ((name, cert_text d) ∷ []) v e (named_alone name, tt)

does_named : (m : Model) (a : Annot) (r : Asked) (rest : List (List ℕ)) (o : Outcome) → Does m a r rest o → AreNamed (written r) o.stores
does_named m a r rest o (prints t v c) = tt
does_named m a r rest o (solves p v h) = solves_named m a r p v h
does_named m a r rest o (checks ct p v h) = checks_named m a ct p (written r) h
does_named m a r rest o (migrates ct name p v n h) = migrates_named m a r ct name p v n h

answers_named : (r : Asked) (ts : List (List ℕ)) (o : Outcome) → Answers r ts o → AreNamed (written r) o.stores
answers_named r ts o (unbuilt us h) = tt
answers_named r ts o (bad_model mt it rest f b n h) = tt
answers_named r ts o (bad_info mt it rest m f b t n h) = tt
answers_named r ts o (done mt it rest m a p b t i h) = does_named m a r rest p h

-- ---- the files of a market
two_named : (f g : List ℕ) → (named_by (f ∷ g ∷ []) f ≡ true) × (named_by (f ∷ g ∷ []) g ≡ true)
two_named f g = (first (bytes_eq f f) (bytes_eq g f || false) (same_bytes f), second (bytes_eq f g) (bytes_eq g g) (same_bytes g))
  where
    first : (b d : Bool) → b ≡ true → (b || d) ≡ true
    first b d e = cc

    second : (b d : Bool) → d ≡ true → (b || (d || false)) ≡ true
    second true d e = refl
    second false d e = cc

saves_named : (m : Model) (a : Annot) (o : Option (List ℕ)) (ss : List (List ℕ × List ℕ)) → Saves m a o ss → AreNamed (written_by Make o) ss
saves_named m a None ss e = subst (AreNamed []) (sym e) tt
saves_named m a (Some name) ss h =
    let n = two_named (name ++ codes ".gms") (name ++ codes ".info") in
    subst (AreNamed (written_by Make (Some name))) (sym h.2) (n.0, (n.1, tt))

sums_named : (m : Model) (a : Annot) (r : Asked) (o : Outcome) → r.verb ≡ Make → SumsUp m a r o → AreNamed (written r) o.stores
sums_named m a r o v (Made.refused p h) = refuses_named m a p (written r) h
sums_named m a r o v (Made.unfinished s f n i g) = tt
sums_named m a r o v (Made.unfilled s f w i g u) = tt
sums_named m a r o v (Made.wide_output vs w h q) = tt
sums_named m a r o v (Made.wide_profit vs output w h q k) = tt
sums_named m a r o v (Made.made vs output profit ss h q k st) = by_verb r.verb Make r.output r.output ss v refl (saves_named m a r.output ss st)

pub answer_named : (r : Asked) (ts : List (List ℕ)) (o : Outcome) → IsAnswer r ts o → AreNamed (written r) o.stores
answer_named r ts o (over_texts us p h) = answers_named r us p h
answer_named r ts o (market p v h) = sums_named h.model h.annot r p v h.sums
