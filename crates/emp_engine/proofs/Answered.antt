-- What was answered over the texts, from the course of a call.
use Rattle.std.proofs.Common.{◌≡◌, ◌≢◌, ℕ, ◌+◌, ◌≤◌, ◌⊎◌, inl, inr, true, false, List, [], ◌∷◌, ◌++◌, length, map, arith, refl, sym, ap, subst, ◌∙◌}
use Rattle.std.proofs.lemmas.Bool.{false≢true}
use Rattle.emp_desk.specs.Desk.{Place, Contents, Says}
use Rattle.emp_command.specs.Words.{Asked, Asks, IsPlain}
use Rattle.emp_command.specs.Course.{Outcome, limit_of, FilesFit, IsDue, bad_words, bad_work, bad_firms, unread, too_long, answered, no_memory, IsCutSay, Delivers, whole, unsaid, unstored, unstored_unsaid, no_room, no_room_unsaid, StoresAll, StoresPart, NeedsNoMemory, Runs, delivered, cut_short}
use Rattle.emp_engine.specs.Run.{is_caused, IsAnswer, IsAnswered, IsReachable, OrFails, KeepsOthers, written}
use Rattle.emp_engine.proofs.Statuses.{named_by, AreNamed, answer_named}

cut_not : (f0 f1 : Place → ℕ) (s : ℕ) → IsCutSay f0 f1 s → is_caused s ≡ true → ⊥
cut_not f0 f1 s (inl e) ok = false≢true (ap is_caused (sym e.0) ∙ ok)
cut_not f0 f1 s (inr e) ok = false≢true (ap is_caused (sym e) ∙ ok)

short_not : (s : ℕ) → (s ≡ 10) ⊎ (s ≡ 24) → is_caused s ≡ true → ⊥
short_not s (inl e) ok = false≢true (ap is_caused (sym e) ∙ ok)
short_not s (inr e) ok = false≢true (ap is_caused (sym e) ∙ ok)

module _ (words : List (List ℕ)) (f0 f1 : Place → ℕ) (x y : Contents) where
  -- ---- a status that texts cause
  by_due : (o : Outcome) (b : Contents) → IsDue IsAnswer words f0 f1 x o → is_caused o.status ≡ true → StoresAll o.stores x b → Says o.says b y → IsAnswered words x y o.status
  by_due o b (bad_words h) ok st sa = absurd (false≢true ok)
  by_due o b (bad_work r a h) ok st sa = absurd (false≢true ok)
  by_due o b (bad_firms r a v h) ok st sa = absurd (false≢true ok)
  by_due o b (unread r k n a i c h) ok st sa = absurd (false≢true ok)
  by_due o b (too_long r k n a i c h) ok st sa = absurd (false≢true ok)
  by_due o b (answered r p a i fit ans) ok st sa = record { request = r; asked = a; range = i; outcome = p; answers = ans; is = refl; between = b; stored = st; said = sa }
  by_due o b (no_memory r a i) ok st sa = absurd (false≢true ok)

  by_delivery : (o : Outcome) (s : ℕ) → IsDue IsAnswer words f0 f1 x o → Delivers o f0 f1 x y s → is_caused s ≡ true → IsAnswered words x y s
  by_delivery o s due (whole b st sa) ok = by_due o b due ok st sa
  by_delivery o s due (unsaid t b c st sa) ok = absurd (cut_not f0 f1 t c ok)
  by_delivery o s due (unstored b r st sa) ok = absurd (false≢true ok)
  by_delivery o s due (unstored_unsaid t b c r st sa) ok = absurd (cut_not f0 f1 t c ok)
  by_delivery o s due (no_room b st sa) ok = absurd (false≢true ok)
  by_delivery o s due (no_room_unsaid t b c st sa) ok = absurd (cut_not f0 f1 t c ok)

  pub answered_now : (end : ℕ) → is_caused end ≡ true → Runs IsAnswer words f0 f1 x y end → IsAnswered words x y end
  answered_now end ok (delivered o s due del) = by_delivery o s due del ok
  answered_now end ok (cut_short o need kind due sa) = absurd (short_not o.status kind ok)

  -- ---- completeness
  fit_at : (k : ℕ) (es : List (List ℕ)) (name : List ℕ) (ls : List (List ℕ)) (n : ℕ) → n ≡ k + length es → FilesFit x k (es ++ name ∷ ls) → length (x.holds name) ≤ limit_of n
  fit_at k [] name ls n e f = subst (λ j. length (x.holds name) ≤ limit_of j) (let g : k ≡ n = omega (arith, e) in g) f.0
  fit_at k (d ∷ es) name ls n e f = fit_at (k + 1) es name ls n (omega (arith, e)) f.1

  -- a file was not read, something was not written, memory was wanting, or what was answered was stored and said whole
  abbrev pub Completed : ℕ → Type 0
  Completed end = OrFails end (IsAnswered words x y end)

  module _ (plain : IsPlain words) (reach : IsReachable words x) where
    due_completed : (o : Outcome) (b : Contents) → IsDue IsAnswer words f0 f1 x o → StoresAll o.stores x b → Says o.says b y → Completed o.status
    due_completed o b (bad_words h) st sa = absurd (h plain)
    due_completed o b (bad_work r a h) st sa = absurd (h (reach r a).0.0)
    due_completed o b (bad_firms r a v h) st sa = absurd (h ((reach r a).0.1 v))
    due_completed o b (unread r k n a i c h) st sa = inl refl
    due_completed o b (too_long r k n a i c h) st sa = absurd (omega (arith, h, fit_at 1 c.earlier n c.later k (omega (arith, c.number)) (subst (FilesFit x 1) c.files (reach r a).1)))
    due_completed o b (answered r p a i fit ans) st sa = inr (inr (inr (record { request = r; asked = a; range = i; outcome = p; answers = ans; is = refl; between = b; stored = st; said = sa })))
    due_completed o b (no_memory r a i) st sa = inr (inr (inl refl))

    cut_completed : (end : ℕ) → IsCutSay f0 f1 end → Completed end
    cut_completed end (inl e) = inr (inl e.0)
    cut_completed end (inr e) = inr (inr (inl e))

    no_need : NeedsNoMemory words → ⊥
    no_need (inl h) = h plain
    no_need (inr h) = h.2 (reach h.0 h.1).0

    delivery_completed : (o : Outcome) (end : ℕ) → IsDue IsAnswer words f0 f1 x o → Delivers o f0 f1 x y end → Completed end
    delivery_completed o end due (whole b st sa) = due_completed o b due st sa
    delivery_completed o end due (unsaid u b c st sa) = cut_completed end c
    delivery_completed o end due (unstored b r st sa) = inr (inl refl)
    delivery_completed o end due (unstored_unsaid u b c r st sa) = cut_completed end c
    delivery_completed o end due (no_room b st sa) = inr (inr (inl refl))
    delivery_completed o end due (no_room_unsaid u b c st sa) = cut_completed end c

    pub runs_completed : (end : ℕ) → Runs IsAnswer words f0 f1 x y end → Completed end
    runs_completed end (delivered o u due del) = delivery_completed o u due del
    runs_completed end (cut_short o need kind due sa) = absurd (no_need need)

    pub runs_whole : (end : ℕ) → end ≢ 11 → end ≢ 12 → Runs IsAnswer words f0 f1 x y end → (end ≡ 21) ⊎ IsAnswered words x y end
    runs_whole end read said r = go (runs_completed end r)
      where
        go : Completed end → (end ≡ 21) ⊎ IsAnswered words x y end
        go (inl e) = absurd (read e)
        go (inr (inl e)) = absurd (said e)
        go (inr (inr h)) = h

  -- ---- files that the words do not name to be written
  abbrev Spared : List ℕ → Type 0
  Spared name = (r : Asked) → Asks words r → named_by (written r) name ≡ false

  other_name : (ws : List (List ℕ)) (name f : List ℕ) → named_by ws name ≡ false → named_by ws f ≡ true → name ≢ f
  other_name ws name f n h e = false≢true (sym n ∙ (ap (named_by ws) e ∙ h))

  stores_spare : (r : Asked) (ss : List (List ℕ × List ℕ)) (a b : Contents) (name : List ℕ) → AreNamed (written r) ss → named_by (written r) name ≡ false → StoresAll ss a b → b.holds name ≡ a.holds name
  stores_spare r [] a b name h n st = st.files name
  stores_spare r (s ∷ ss) a b name h n st = stores_spare r ss st.0 b name h.1 n st.2 ∙ st.1.others name (other_name (written r) name s.0 n h.0)

  part_spares : (r : Asked) (ss : List (List ℕ × List ℕ)) (a b : Contents) (name : List ℕ) → AreNamed (written r) ss → named_by (written r) name ≡ false → StoresPart ss a b → b.holds name ≡ a.holds name
  part_spares r [] a b name h n st = absurd st
  part_spares r (s ∷ ss) a b name h n (inl st) = st.others name (other_name (written r) name s.0 n h.0)
  part_spares r (s ∷ ss) a b name h n (inr st) = part_spares r ss st.0 b name h.1 n st.2 ∙ st.1.others name (other_name (written r) name s.0 n h.0)

  -- what is due stores nothing, or what the words name
  record Writes (o : Outcome) (name : List ℕ) : Type 0 where
    all : (b : Contents) → StoresAll o.stores x b → b.holds name ≡ x.holds name
    part : (b : Contents) → StoresPart o.stores x b → b.holds name ≡ x.holds name

  due_writes : (o : Outcome) (name : List ℕ) → Spared name → IsDue IsAnswer words f0 f1 x o → Writes o name
  due_writes o name n (bad_words h) = record { all = λ b st. st.files name; part = λ b st. absurd st }
  due_writes o name n (bad_work r a h) = record { all = λ b st. st.files name; part = λ b st. absurd st }
  due_writes o name n (bad_firms r a v h) = record { all = λ b st. st.files name; part = λ b st. absurd st }
  due_writes o name n (unread r k f a i c h) = record { all = λ b st. st.files name; part = λ b st. absurd st }
  due_writes o name n (too_long r k f a i c h) = record { all = λ b st. st.files name; part = λ b st. absurd st }
  due_writes o name n (answered r p a i fit ans) =
      let h = answer_named r (map x.holds r.files) p ans in
      record { all = λ b st. stores_spare r p.stores x b name h (n r a) st; part = λ b st. part_spares r p.stores x b name h (n r a) st }
  due_writes o name n (no_memory r a i) = record { all = λ b st. st.files name; part = λ b st. absurd st }

  delivery_spares : (o : Outcome) (s : ℕ) (name : List ℕ) → Writes o name → Delivers o f0 f1 x y s → y.holds name ≡ x.holds name
  delivery_spares o s name w (whole b st sa) = sa.files name ∙ w.all b st
  delivery_spares o s name w (unsaid t b c st sa) = sa.files name ∙ w.all b st
  delivery_spares o s name w (unstored b r st sa) = sa.files name ∙ w.part b st
  delivery_spares o s name w (unstored_unsaid t b c r st sa) = sa.files name ∙ w.part b st
  delivery_spares o s name w (no_room b st sa) = sa.files name ∙ w.part b st
  delivery_spares o s name w (no_room_unsaid t b c st sa) = sa.files name ∙ w.part b st

  pub keeps_others : (end : ℕ) → Runs IsAnswer words f0 f1 x y end → KeepsOthers words x y
  keeps_others end (delivered o s due del) = λ name n. delivery_spares o s name (due_writes o name n due) del
  keeps_others end (cut_short o need kind due sa) = λ name n. sa.files name
