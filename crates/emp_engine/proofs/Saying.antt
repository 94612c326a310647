-- How a call ends that delivered an answer over its texts.
use Rattle.std.proofs.Common.{◌≡◌, ◌≢◌, ◌⊎◌, ℕ, true, inl, inr, List, [], ◌∷◌, Option, None, Some, arith, refl, ap, subst}
use Rattle.emp_desk.specs.Desk.{Place, stores, Contents, Told, KeepsAll, NoneFalls}
use Rattle.emp_command.specs.declared.words.Verb.TheVariants.{Make}
use Rattle.emp_command.specs.declared.refusal.Refusal.TheVariants.{NoMemory}
use Rattle.emp_command.specs.Words.{Asked, Asks, solve, check, print, make, migrate, pieces}
use Rattle.emp_command.specs.Course.{Outcome, refusal, IsInRange, IsDue, answered, SomeStoreRose, Delivers}
use Rattle.emp_command.specs.Refusals.{line_of, HoldTexts}
use Rattle.emp_command.proofs.Telling.{told_map, rose_second}
use Rattle.emp_engine.specs.Run.{IsMake, is_market_status, IsAnswer, market, SomeWriteRose, written}
use Rattle.emp_engine.proofs.Verbs.{make_verb, solve_not_make, print_not_make, check_not_make, migrate_not_make, pieces_not_make}
use Rattle.emp_engine.specs.Ends.{SayCause, Ends}
use Rattle.emp_engine.proofs.Ending.{kept, delivered_ends, starved_ends}
use Rattle.emp_engine.proofs.Statuses.{answer_late, not_caused, answer_named, AreNamed}
use Rattle.emp_makes.specs.Makes.{Makes}
use Rattle.emp_makes.proofs.Ends.{makes_end}

module _ (words : List (List ℕ)) (f0 f1 f2 : Place → ℕ) (t0 t1 t2 : Option Contents) (first : NoneFalls f0 f1) (keeps : Told KeepsAll t0 t1) (r : Asked) (asks : Asks words r) (range : IsInRange r) where
  answer_due : (texts : List (List ℕ)) (o : Outcome) → Told (HoldTexts 1 r.files texts) t0 t1 → IsAnswer r texts o → Told (λ x y. IsDue IsAnswer words f0 f2 x o) t0 t1
  answer_due texts o hold ans =
      told_map (HoldTexts 1 r.files texts) (λ x y. IsDue IsAnswer words f0 f2 x o) (λ x y h. answered r o asks range h.fit (subst (λ ts. IsAnswer r ts o) h.texts_are ans)) t0 t1 hold

  stores_write : (ss : List (List ℕ × List ℕ)) → AreNamed (written r) ss → SomeStoreRose ss f1 f2 → SomeWriteRose words f0 f2
  stores_write [] h n = absurd n
  stores_write (s ∷ ss) h (inl n) = inr (r, s.0, asks, h.0, rose_second (f0 (stores s.0)) (f1 (stores s.0)) (f2 (stores s.0)) n (first (stores s.0)))
  stores_write (s ∷ ss) h (inr n) = stores_write ss h.1 n

  pub said_ends : (texts seen : List (List ℕ)) (o : Outcome) (end : ℕ) → seen ≡ texts → Told (HoldTexts 1 r.files texts) t0 t1 → IsAnswer r seen o → (IsMake words → is_market_status o.status ≡ true) → Told (λ x y. Delivers o f1 f2 x y end) t1 t2 → SayCause o end f1 f2 → Ends words f0 f2 t0 t2 end
  said_ends texts seen o end e hold ans m del cause =
      let a : IsAnswer r texts o = subst (λ ts. IsAnswer r ts o) e ans in
      let l = answer_late r texts o range a in
      delivered_ends words f0 f1 f2 t0 t1 t2 first keeps o end l.status (not_caused o.status 10 l.cause refl (λ k. omega arith)) (not_caused o.status 12 l.cause refl (λ k. omega arith)) (λ k. absurd (not_caused o.status 11 l.cause refl (λ j. omega arith) k)) m
      (stores_write o.stores (answer_named r texts o a)) (answer_due texts o hold a) del cause

-- a request of a market names no file
pub market_files : (words : List (List ℕ)) (r : Asked) → Asks words r → r.verb ≡ Make → r.files ≡ []
market_files words r (make t k seed firms os o a b c) e = refl
market_files words r (solve m i os o n a b c) e = absurd (solve_not_make e)
market_files words r (print m i a b) e = absurd (print_not_make e)
market_files words r (check m i c a b d) e = absurd (check_not_make e)
market_files words r (migrate m i c o a b d g) e = absurd (migrate_not_make e)
market_files words r (pieces m i os n a b c) e = absurd (pieces_not_make e)

no_texts : (fs : List (List ℕ)) (t : Option Contents) → fs ≡ [] → Told (HoldTexts 1 fs []) t t
no_texts fs None e = tt
no_texts [] (Some x) e = record { fit = tt; texts_are = refl }
no_texts (f ∷ fs) (Some x) e = cc

none_falls : (f : Place → ℕ) → NoneFalls f f
none_falls f at = omega arith

made_status : (s : ℕ) → (s ≡ 0) ⊎ ((s ≡ 19) ⊎ (s ≡ 20)) → is_market_status s ≡ true
made_status s (inl e) = ap is_market_status e
made_status s (inr (inl e)) = ap is_market_status e
made_status s (inr (inr e)) = ap is_market_status e

pub over_market_ends : (words : List (List ℕ)) (f0 f1 : Place → ℕ) (t0 t1 : Option Contents) (r : Asked) → Asks words r → IsInRange r → r.verb ≡ Make → (o : Outcome) (end : ℕ) → Makes r o → Told (λ x y. Delivers o f0 f1 x y end) t0 t1 → SayCause o end f0 f1 → Ends words f0 f1 t0 t1 end
over_market_ends words f0 f1 t0 t1 r asks range v o end h del cause = said_ends words f0 f0 f1 t0 t0 t1 (none_falls f0) (kept t0) r asks range [] [] o end refl (no_texts r.files t0 (market_files words r asks v)) (market o v h) (λ w. made_status o.status (makes_end r o (range.1 v) h)) del cause

pub over_market_starves : (words : List (List ℕ)) (f0 f1 : Place → ℕ) (t0 t1 : Option Contents) (r : Asked) → Asks words r → IsInRange r → NoneFalls f0 f1 → (end : ℕ) → Told (λ x y. Delivers (refusal 21 (line_of NoMemory)) f0 f1 x y end) t0 t1 → SayCause (refusal 21 (line_of NoMemory)) end f0 f1 → Ends words f0 f1 t0 t1 end
over_market_starves words f0 f1 t0 t1 r asks range second end del cause = starved_ends words f0 f0 f1 t0 t0 t1 (none_falls f0) (kept t0) second r asks range end del cause

-- where the request is of another verb no status is asked of `make`
pub other_market : (words : List (List ℕ)) (r : Asked) (s : ℕ) → Asks words r → r.verb ≢ Make → IsMake words → is_market_status s ≡ true
other_market words r s asks n h = absurd (n (make_verb words r h asks))
