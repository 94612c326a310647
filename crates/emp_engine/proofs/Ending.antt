-- How a call ends, from how its steps end.
use Rattle.std.proofs.Common.{◌≡◌, ◌≢◌, ℕ, ◌+◌, ◌<◌, true, ◌⊎◌, inl, inr, List, [], ◌∷◌, ◌++◌, length, Option, Some, None, arith, refl, sym, ap, subst, ◌∙◌}
use Rattle.emp_desk.specs.Desk.{Place, loads, stores, output, Contents, Told, KeepsAll, SaysPrefix, Rose, NoneFalls}
use Rattle.emp_command.specs.declared.refusal.Refusal.{Refusal}
use Rattle.emp_command.specs.declared.refusal.Refusal.TheVariants.{BadWords, BadWork, BadFirms, Unread, TooLong, Unwritten, NoMemory}
use Rattle.emp_command.specs.Lines.{bad_words_line, too_long_line}
use Rattle.emp_command.specs.Words.{Asked, Asks, IsPlain, solve, check, print, make, migrate, pieces}
use Rattle.emp_command.specs.Course.{Outcome, refusal, limit_of, IsInRange, FilesFit, IsReached, IsDue, bad_words, bad_work, bad_firms, unread, too_long, no_memory, StoresAll, StoresPart, SomeStoreRose, IsCutSay, Delivers, whole, unsaid, unstored, unstored_unsaid, no_room, no_room_unsaid, NeedsNoMemory, Runs, delivered, cut_short}
use Rattle.emp_command.specs.Refusals.{line_of, status_of, IsLong, SomeUnloaded, TextsFit}
use Rattle.emp_command.proofs.Telling.{told_join, told_both, told_map, rose_first, rose_second}
use Rattle.std.proofs.lemmas.Bool.{false≢true}
use Rattle.emp_command.specs.declared.words.Verb.TheVariants.{Solve, Check, Print, Make, Migrate}
use Rattle.emp_answers.specs.Steps.{AreTexts, OutputFits}
use Rattle.emp_answers.specs.Answers.{is_built}
use Rattle.emp_engine.specs.Run.{IsMake, is_market_status, IsAnswer, SomeLoadRose, SomeWriteRose, IsStatus}
use Rattle.emp_engine.proofs.Verbs.{make_verb}
use Rattle.emp_engine.specs.Ends.{SayCause, IsOutOfRange, IsRequest, Ends}

keeps_then : (x y z : Contents) → KeepsAll x y → KeepsAll y z → KeepsAll x z
keeps_then x y z h k = record { files = λ name. k.files name ∙ h.files name; said = k.said ∙ h.said }

pub kept : (t : Option Contents) → Told KeepsAll t t
kept None = tt
kept (Some x) = record { files = λ name. refl; said = refl }

-- ---- what is stored after a step that changes nothing
stores_after : (ss : List (List ℕ × List ℕ)) (x y z : Contents) → KeepsAll x y → StoresAll ss y z → StoresAll ss x z
stores_after [] x y z k h = keeps_then x y z k h
stores_after (s ∷ ss) x y z k h = (h.0, record { here = h.1.here; others = λ name n. h.1.others name n ∙ k.files name; said = h.1.said ∙ k.said }, h.2)

part_after : (ss : List (List ℕ × List ℕ)) (x y z : Contents) → KeepsAll x y → StoresPart ss y z → StoresPart ss x z
part_after [] x y z k h = absurd h
part_after (s ∷ ss) x y z k (inl h) = inl (record { here = h.here; others = λ name n. h.others name n ∙ k.files name; said = h.said ∙ k.said })
part_after (s ∷ ss) x y z k (inr h) = inr (h.0, record { here = h.1.here; others = λ name n. h.1.others name n ∙ k.files name; said = h.1.said ∙ k.said }, h.2)

module _ (f0 f1 f2 : Place → ℕ) (first : NoneFalls f0 f1) where
  cut_after : (end : ℕ) → IsCutSay f1 f2 end → IsCutSay f0 f2 end
  cut_after end (inl h) = inl (h.0, rose_second (f0 output) (f1 output) (f2 output) h.1 (first output))
  cut_after end (inr e) = inr e

  rose_after : (ss : List (List ℕ × List ℕ)) → SomeStoreRose ss f1 f2 → SomeStoreRose ss f0 f2
  rose_after [] h = absurd h
  rose_after (s ∷ ss) (inl h) = inl (rose_second (f0 (stores s.0)) (f1 (stores s.0)) (f2 (stores s.0)) h (first (stores s.0)))
  rose_after (s ∷ ss) (inr h) = inr (rose_after ss h)

  delivers_after : (o : Outcome) (x y z : Contents) (end : ℕ) → KeepsAll x y → Delivers o f1 f2 y z end → Delivers o f0 f2 x z end
  delivers_after o x y z end k (whole b st sa) = whole b (stores_after o.stores x y b k st) sa
  delivers_after o x y z end k (unsaid s b c st sa) = unsaid s b (cut_after s c) (stores_after o.stores x y b k st) sa
  delivers_after o x y z end k (unstored b r st sa) = unstored b (rose_after o.stores r) (part_after o.stores x y b k st) sa
  delivers_after o x y z end k (unstored_unsaid s b c r st sa) = unstored_unsaid s b (cut_after s c) (rose_after o.stores r) (part_after o.stores x y b k st) sa
  delivers_after o x y z end k (no_room b st sa) = no_room b (part_after o.stores x y b k st) sa
  delivers_after o x y z end k (no_room_unsaid s b c st sa) = no_room_unsaid s b (cut_after s c) (part_after o.stores x y b k st) sa

module _ (words : List (List ℕ)) (f0 f1 f2 : Place → ℕ) (t0 t1 t2 : Option Contents) (first : NoneFalls f0 f1) (keeps : Told KeepsAll t0 t1) where
  abbrev DueNow : Outcome → Contents → Contents → Type 0
  DueNow o x y = IsDue IsAnswer words f0 f2 x o

  -- what is due, once it is delivered
  course_of : (o : Outcome) (end : ℕ) → Told (DueNow o) t0 t1 → Told (λ x y. Delivers o f1 f2 x y end) t1 t2 → Told (λ x y. Runs IsAnswer words f0 f2 x y end) t0 t2
  course_of o end due del =
      told_join (λ x y. DueNow o x y × KeepsAll x y) (λ x y. Delivers o f1 f2 x y end) (λ x y. Runs IsAnswer words f0 f2 x y end)
      (λ x y z p d. delivered o end p.0 (delivers_after f0 f1 f2 first o x y z end p.1 d)) t0 t1 t2
      (told_both (DueNow o) KeepsAll (λ x y. DueNow o x y × KeepsAll x y) (λ x y d k. (d, k)) t0 t1 due keeps) del

  -- the files that are stored are ones that the words name to be written
  abbrev Writes : Outcome → Type 0
  Writes o = SomeStoreRose o.stores f1 f2 → SomeWriteRose words f0 f2

  abbrev Cause : Outcome → ℕ → Type 0
  Cause o end = SayCause o end f1 f2

  unread_of : (o : Outcome) (end : ℕ) → (o.status ≡ 11 → SomeLoadRose words f0 f2) → Cause o end → end ≡ 11 → SomeLoadRose words f0 f2
  unread_of o end rose (inl e) h = rose (sym e ∙ h)
  unread_of o end rose (inr (inl e)) h = absurd (omega arith)
  unread_of o end rose (inr (inr e)) h = absurd (let k = e.0 in omega arith)

  rose_out : (o : Outcome) → Writes o → SomeStoreRose o.stores f1 f2 ⊎ Rose (f1 output) (f2 output) → SomeWriteRose words f0 f2
  rose_out o w (inl h) = w h
  rose_out o w (inr h) = inl (rose_second (f0 output) (f1 output) (f2 output) h (first output))

  unwritten_of : (o : Outcome) (end : ℕ) → o.status ≢ 12 → Writes o → Cause o end → end ≡ 12 → SomeWriteRose words f0 f2
  unwritten_of o end n w (inl e) h = absurd (n (sym e ∙ h))
  unwritten_of o end n w (inr (inl e)) h = absurd (omega arith)
  unwritten_of o end n w (inr (inr e)) h = rose_out o w e.1

  status_answers : (o : Outcome) (end : ℕ) → IsStatus o.status → Cause o end → IsStatus end
  status_answers o end s (inl e) = subst IsStatus (sym e) s
  status_answers o end s (inr (inl e)) = subst IsStatus (sym e) refl
  status_answers o end s (inr (inr e)) = subst IsStatus (sym e.0) refl

  -- a status of `make`, where the words are its
  abbrev pub Market : ℕ → Type 0
  Market s = IsMake words → is_market_status s ≡ true

  market_of : (o : Outcome) (end : ℕ) → Market o.status → Cause o end → Market end
  market_of o end m (inl e) = λ h. ap is_market_status e ∙ m h
  market_of o end m (inr (inl e)) = λ h. ap is_market_status e
  market_of o end m (inr (inr e)) = λ h. ap is_market_status e.0

  -- words that are not plain are refused before anything is due
  plain_of : (o : Outcome) (end : ℕ) → o.status ≢ 10 → Cause o end → end ≢ 10
  plain_of o end n (inl e) h = n (sym e ∙ h)
  plain_of o end n (inr (inl e)) h = absurd (omega arith)
  plain_of o end n (inr (inr e)) h = absurd (let k = e.0 in omega arith)

  pub delivered_ends : (o : Outcome) (end : ℕ) → IsStatus o.status → o.status ≢ 10 → o.status ≢ 12 → (o.status ≡ 11 → SomeLoadRose words f0 f2) → Market o.status → Writes o → Told (DueNow o) t0 t1 → Told (λ x y. Delivers o f1 f2 x y end) t1 t2 → Cause o end → Ends words f0 f2 t0 t2 end
  delivered_ends o end s p n rose m w due del cause = record {
    course = course_of o end due del;
    plain = λ e. absurd (plain_of o end p cause e);
    unread = unread_of o end rose cause;
    unwritten = unwritten_of o end n w cause;
    answers = status_answers o end s cause;
    makes = market_of o end m cause;
  }

  -- nothing is stored with a refusal
  no_writes : (status : ℕ) (line : List ℕ) → Writes (refusal status line)
  no_writes status line h = absurd h

  -- ---- files that are not loaded
  module _ (second : NoneFalls f1 f2) (r : Asked) (asks : Asks words r) (range : IsInRange r) where
    rose_later : (place : Place) → Rose (f0 place) (f1 place) → Rose (f0 place) (f2 place)
    rose_later place h = rose_first (f0 place) (f1 place) (f2 place) h (second place) (first place)

    reached : (x : Contents) (k : ℕ) (name : List ℕ) (earlier later : List (List ℕ)) → r.files ≡ earlier ++ name ∷ later → k ≡ length earlier + 1 → FilesFit x 1 earlier → IsReached x r k name
    reached x k name earlier later e n f = record { earlier = earlier; later = later; files = e; number = n; fit = f }

    long_due : (x : Contents) (k most file : ℕ) (name : List ℕ) → most ≡ limit_of k → file ≡ k → IsReached x r k name → limit_of k < length (x.holds name) → DueNow (refusal 13 (too_long_line file most)) x x
    long_due x k most file name e f g l = subst (λ n. DueNow (refusal 13 (too_long_line n most)) x x) (sym f) (subst (λ n. DueNow (refusal 13 (too_long_line k n)) x x) (sym e) (too_long r k name asks range g l))

    unloaded_due : (f : Refusal) → SomeUnloaded r.files f0 f1 t0 t1 f → Told (DueNow (refusal (status_of f) (line_of f))) t0 t1
    unloaded_due BadWords h = absurd h.why
    unloaded_due BadWork h = absurd h.why
    unloaded_due BadFirms h = absurd h.why
    unloaded_due Unwritten h = absurd h.why
    unloaded_due NoMemory h = told_map KeepsAll (DueNow (refusal 21 (line_of NoMemory))) (λ x y k. no_memory r asks range) t0 t1 keeps
    unloaded_due (Unread k) h =
        told_map (λ x y. FilesFit x 1 h.earlier) (DueNow (refusal 11 (line_of (Unread k))))
        (λ x y f. unread r k h.name asks range (reached x k h.name h.earlier h.later h.files h.why.0 f) (rose_later (loads h.name) h.why.1)) t0 t1 h.fit
    unloaded_due (TooLong k most) h =
        told_both (λ x y. FilesFit x 1 h.earlier) (IsLong h.name (length h.earlier + 1)) (DueNow (refusal 13 (line_of (TooLong k most))))
        (λ x y f l. long_due x (length h.earlier + 1) most k h.name h.why.1 h.why.0 (reached x (length h.earlier + 1) h.name h.earlier h.later h.files refl f) l) t0 t1 h.fit h.why.2

    unloaded_status : (f : Refusal) → SomeUnloaded r.files f0 f1 t0 t1 f → IsStatus (status_of f) × (status_of f ≢ 10) × (status_of f ≢ 12) × (status_of f ≡ 11 → SomeLoadRose words f0 f2)
    unloaded_status BadWords h = absurd h.why
    unloaded_status BadWork h = absurd h.why
    unloaded_status BadFirms h = absurd h.why
    unloaded_status Unwritten h = absurd h.why
    unloaded_status NoMemory h = (refl, (λ e. omega arith), (λ e. omega arith), (λ e. absurd (omega arith)))
    unloaded_status (TooLong k most) h = (refl, (λ e. omega arith), (λ e. omega arith), (λ e. absurd (omega arith)))
    unloaded_status (Unread k) h = (refl, (λ e. omega arith), (λ e. omega arith), (λ e. (r, h.earlier, h.name, h.later, asks, h.files, rose_later (loads h.name) h.why.1)))

    other_verb : (s : ℕ) → r.verb ≢ Make → Market s
    other_verb s n h = absurd (n (make_verb words r h asks))

    pub unloaded_ends : r.verb ≢ Make → (f : Refusal) (end : ℕ) → SomeUnloaded r.files f0 f1 t0 t1 f → Told (λ x y. Delivers (refusal (status_of f) (line_of f)) f1 f2 x y end) t1 t2 → Cause (refusal (status_of f) (line_of f)) end → Ends words f0 f2 t0 t2 end
    unloaded_ends v f end h del cause = let s = unloaded_status f h in delivered_ends (refusal (status_of f) (line_of f)) end s.0 s.1 s.2 s.3 (other_verb (status_of f) v) (no_writes (status_of f) (line_of f)) (unloaded_due f h) del cause

    -- no memory for the answer
    pub starved_ends : (end : ℕ) → Told (λ x y. Delivers (refusal 21 (line_of NoMemory)) f1 f2 x y end) t1 t2 → Cause (refusal 21 (line_of NoMemory)) end → Ends words f0 f2 t0 t2 end
    starved_ends end del cause =
        delivered_ends (refusal 21 (line_of NoMemory)) end refl (λ e. omega arith) (λ e. omega arith) (λ e. absurd (omega arith)) (λ h. refl) (no_writes 21 (line_of NoMemory)) (told_map KeepsAll (DueNow (refusal 21 (line_of NoMemory))) (λ x y k. no_memory r asks range) t0 t1 keeps) del cause

-- ---- words that are not plain, and numbers out of range
module _ (words : List (List ℕ)) (f0 f2 : Place → ℕ) (t0 t2 : Option Contents) where
  abbrev Refused : Refusal → ℕ → Type 0
  Refused f end = ((end ≡ 12) × Rose (f0 output) (f2 output)) ⊎ (end ≡ status_of f)

  refused_runs : (f : Refusal) (end : ℕ) → NeedsNoMemory words → (status_of f ≡ 10) ⊎ (status_of f ≡ 24) → ((x : Contents) → IsDue IsAnswer words f0 f2 x (refusal (status_of f) (line_of f))) → Refused f end → (x y : Contents) → SaysPrefix (line_of f) x y → Runs IsAnswer words f0 f2 x y end
  refused_runs f end need kind due (inl h) x y s = delivered (refusal (status_of f) (line_of f)) end (due x) (unsaid end x (inl h) (record { files = λ name. refl; said = refl }) s)
  refused_runs f end need kind due (inr e) x y s = subst (Runs IsAnswer words f0 f2 x y) (sym e) (cut_short (refusal (status_of f) (line_of f)) need kind (due x) s)

  ten_or : (s : ℕ) → (s ≡ 10) ⊎ (s ≡ 24) → IsStatus s × (s ≢ 11) × (s ≢ 12)
  ten_or s (inl e) = (subst IsStatus (sym e) refl, (λ h. omega arith), (λ h. omega arith))
  ten_or s (inr e) = (subst IsStatus (sym e) refl, (λ h. omega arith), (λ h. omega arith))

  refused_unread : (f : Refusal) (end : ℕ) → status_of f ≢ 11 → Refused f end → end ≡ 11 → SomeLoadRose words f0 f2
  refused_unread f end n (inl h) e = absurd (let k = h.0 in omega arith)
  refused_unread f end n (inr h) e = absurd (n (sym h ∙ e))

  refused_unwritten : (f : Refusal) (end : ℕ) → status_of f ≢ 12 → Refused f end → end ≡ 12 → SomeWriteRose words f0 f2
  refused_unwritten f end n (inl h) e = inl h.1
  refused_unwritten f end n (inr h) e = absurd (n (sym h ∙ e))

  refused_answers : (f : Refusal) (end : ℕ) → IsStatus (status_of f) → Refused f end → IsStatus end
  refused_answers f end s (inl h) = subst IsStatus (sym h.0) refl
  refused_answers f end s (inr h) = subst IsStatus (sym h) s

  of_market : (s : ℕ) → (s ≡ 10) ⊎ (s ≡ 24) → is_market_status s ≡ true
  of_market s (inl e) = ap is_market_status e
  of_market s (inr e) = ap is_market_status e

  refused_makes : (f : Refusal) (end : ℕ) → (status_of f ≡ 10) ⊎ (status_of f ≡ 24) → Refused f end → IsMake words → is_market_status end ≡ true
  refused_makes f end kind (inl h) w = ap is_market_status h.0
  refused_makes f end kind (inr e) w = ap is_market_status e ∙ of_market (status_of f) kind

  refused_plain : (f : Refusal) (end : ℕ) → (status_of f ≡ 10 → IsPlain words → ⊥) → Refused f end → end ≡ 10 → IsPlain words → ⊥
  refused_plain f end bad (inl h) e = absurd (let k = h.0 in omega arith)
  refused_plain f end bad (inr h) e = bad (sym h ∙ e)

  pub refused_ends : (f : Refusal) (end : ℕ) → NeedsNoMemory words → (status_of f ≡ 10 → IsPlain words → ⊥) → (status_of f ≡ 10) ⊎ (status_of f ≡ 24) → ((x : Contents) → IsDue IsAnswer words f0 f2 x (refusal (status_of f) (line_of f))) → Told (SaysPrefix (line_of f)) t0 t2 → Refused f end → Ends words f0 f2 t0 t2 end
  refused_ends f end need bad kind due said h = record {
    course = told_map (SaysPrefix (line_of f)) (λ x y. Runs IsAnswer words f0 f2 x y end) (refused_runs f end need kind due h) t0 t2 said;
    plain = refused_plain f end bad h;
    unread = refused_unread f end (ten_or (status_of f) kind).1 h;
    unwritten = refused_unwritten f end (ten_or (status_of f) kind).2 h;
    answers = refused_answers f end (ten_or (status_of f) kind).0 h;
    makes = refused_makes f end kind h;
  }

  pub bad_words_ends : (end : ℕ) → (IsPlain words → ⊥) → Told (SaysPrefix bad_words_line) t0 t2 → Refused BadWords end → Ends words f0 f2 t0 t2 end
  bad_words_ends end bad said h = refused_ends BadWords end (inl bad) (λ e. bad) (inl refl) (λ x. bad_words bad) said h

  pub out_of_range_ends : (r : Asked) (f : Refusal) (end : ℕ) → Asks words r → IsOutOfRange r f → Told (SaysPrefix (line_of f)) t0 t2 → Refused f end → Ends words f0 f2 t0 t2 end
  out_of_range_ends r BadWords end asks out said h = absurd out
  out_of_range_ends r BadWork end asks out said h = refused_ends BadWork end (inr (r, asks, (λ k. out k.0))) (λ e. absurd (omega arith)) (inr refl) (λ x. bad_work r asks out) said h
  out_of_range_ends r BadFirms end asks out said h = refused_ends BadFirms end (inr (r, asks, (λ k. out.1 (k.1 out.0)))) (λ e. absurd (omega arith)) (inr refl) (λ x. bad_firms r asks out.0 out.1) said h
  out_of_range_ends r (Unread k) end asks out said h = absurd out
  out_of_range_ends r (TooLong k n) end asks out said h = absurd out
  out_of_range_ends r Unwritten end asks out said h = absurd out
  out_of_range_ends r NoMemory end asks out said h = absurd out

-- a number out of range is answered with 24, or with 12 where the say fails
pub out_of_range_status : (r : Asked) (f : Refusal) (end : ℕ) (rose : Type 0) → IsOutOfRange r f → ((end ≡ 12) × rose) ⊎ (end ≡ status_of f) → (end ≡ 12) ⊎ (end ≡ 24)
out_of_range_status r f end rose out (inl h) = inl h.0
out_of_range_status r BadWork end rose out (inr e) = inr e
out_of_range_status r BadFirms end rose out (inr e) = inr e
out_of_range_status r BadWords end rose out (inr e) = absurd out
out_of_range_status r (Unread k) end rose out (inr e) = absurd out
out_of_range_status r (TooLong k n) end rose out (inr e) = absurd out
out_of_range_status r Unwritten end rose out (inr e) = absurd out
out_of_range_status r NoMemory end rose out (inr e) = absurd out

-- ---- the texts of a request that is built
three_fit : (texts : List (List ℕ)) → length texts ≡ 3 → TextsFit 1 texts → AreTexts Check texts
three_fit [] e f = absurd (omega (arith, e))
three_fit (a ∷ []) e f = absurd (omega (arith, e))
three_fit (a ∷ b ∷ []) e f = absurd (omega (arith, e))
three_fit (a ∷ b ∷ c ∷ []) e f = record { model = a; info = b; rest = c ∷ []; are = refl; model_short = f.0; info_short = f.1.0; fits = (c, refl, f.1.1.0) }
three_fit (a ∷ b ∷ c ∷ d ∷ ts) e f = absurd (omega (arith, e))

two_fit : (texts : List (List ℕ)) → length texts ≡ 2 → TextsFit 1 texts → AreTexts Solve texts
two_fit [] e f = absurd (omega (arith, e))
two_fit (a ∷ []) e f = absurd (omega (arith, e))
two_fit (a ∷ b ∷ []) e f = record { model = a; info = b; rest = []; are = refl; model_short = f.0; info_short = f.1.0; fits = refl }
two_fit (a ∷ b ∷ c ∷ ts) e f = absurd (omega (arith, e))

as_print : (texts : List (List ℕ)) → AreTexts Solve texts → AreTexts Print texts
as_print texts h = record { model = h.model; info = h.info; rest = h.rest; are = h.are; model_short = h.model_short; info_short = h.info_short; fits = h.fits }

as_migrate : (texts : List (List ℕ)) → AreTexts Check texts → AreTexts Migrate texts
as_migrate texts h = record { model = h.model; info = h.info; rest = h.rest; are = h.are; model_short = h.model_short; info_short = h.info_short; fits = h.fits }

texts_fit : (words : List (List ℕ)) (r : Asked) → Asks words r → r.verb ≢ Make → is_built r ≡ true → (texts : List (List ℕ)) → length texts ≡ length r.files → TextsFit 1 texts → AreTexts r.verb texts
texts_fit words r (solve m i os o k a b c) n h texts e f = two_fit texts e f
texts_fit words r (print m i a b) n h texts e f = as_print texts (two_fit texts e f)
texts_fit words r (check m i c a b d) n h texts e f = three_fit texts e f
texts_fit words r (migrate m i c o a b d g) n h texts e f = as_migrate texts (three_fit texts e f)
texts_fit words r (make t k seed firms os o a b c) n h texts e f = absurd (n refl)
texts_fit words r (pieces m i os k a b c) n h texts e f = absurd (false≢true h)

pub request_texts : (r : Asked) → IsRequest r → r.verb ≢ Make → is_built r ≡ true → (texts : List (List ℕ)) → length texts ≡ length r.files → TextsFit 1 texts → AreTexts r.verb texts
request_texts r p n b texts e f = texts_fit p.0 r p.1 n b texts e f

output_fits : (words : List (List ℕ)) (r : Asked) → Asks words r → OutputFits r.verb r.output
output_fits words r (solve m i os o n a b c) = tt
output_fits words r (print m i a b) = tt
output_fits words r (check m i c a b d) = tt
output_fits words r (migrate m i c o a b d g) = tt
output_fits words r (make t k seed firms os o a b c) = tt
output_fits words r (pieces m i os n a b c) = tt

pub request_output : (r : Asked) → IsRequest r → OutputFits r.verb r.output
request_output r p = output_fits p.0 r p.1
