-- How a delivery ends, from how its stores and its say end.
use Rattle.std.proofs.Common.{◌≡◌, ℕ, ◌⊎◌, inl, inr, List, [], ◌∷◌, Option, sym, subst}
use Rattle.std.proofs.lemmas.List.{append-nil}
use Rattle.emp_desk.specs.Desk.{Place, output, Contents, Told, Says, SaysPrefix, NoneFalls, Rose}
use Rattle.emp_command.specs.Lines.{unwritten_line, no_memory_line}
use Rattle.emp_command.specs.Course.{StoresAll, StoresPart, SomeStoreRose, IsCutSay, Delivers, whole, unsaid, unstored, unstored_unsaid, no_room, no_room_unsaid}
use Rattle.emp_command.specs.Deliveries.{outcome_of, SayEnds}
use Rattle.emp_command.proofs.Telling.{told_join, told_map, rose_first, rose_second}

pub whole_is_part : (text : List ℕ) (x y : Contents) → Says text x y → SaysPrefix text x y
whole_is_part text x y h = record { part = text; prefix = ([], append-nil text); said = h.said; files = h.files }

pub said_is_part : (text line : List ℕ) (t0 t1 : Option Contents) → text ≡ line → Told (Says text) t0 t1 → Told (SaysPrefix line) t0 t1
said_is_part text line t0 t1 e h = subst (λ l. Told (SaysPrefix l) t0 t1) e (told_map (Says text) (SaysPrefix text) (whole_is_part text) t0 t1 h)

module _ (status : ℕ) (files : List (List ℕ × List ℕ)) (text : List ℕ) (f0 f1 f2 : Place → ℕ) (t0 t1 t2 : Option Contents) where
  rose_on : (ss : List (List ℕ × List ℕ)) → NoneFalls f0 f1 → NoneFalls f1 f2 → SomeStoreRose ss f0 f1 → SomeStoreRose ss f0 f2
  rose_on [] first second h = absurd h
  rose_on (s ∷ ss) first second (inl h) = inl (rose_first _ _ _ h (second _) (first _))
  rose_on (s ∷ ss) first second (inr h) = inr (rose_on ss first second h)

  abbrev Due : ℕ → Contents → Contents → Type 0
  Due end x y = Delivers (outcome_of status files text) f0 f2 x y end

  abbrev Ended : ℕ → Type 0
  Ended end = Told (Due end) t0 t2

  cut_say : (end : ℕ) → NoneFalls f0 f1 → IsCutSay f1 f2 end → IsCutSay f0 f2 end
  cut_say end first (inl h) = inl (h.0, rose_second (f0 output) (f1 output) (f2 output) h.1 (first output))
  cut_say end first (inr h) = inr h

  pub stored_end : (end : ℕ) → NoneFalls f0 f1 → Told (StoresAll files) t0 t1 → SayEnds status text f1 f2 t1 t2 end → Ended end
  stored_end end first h (inl k) = subst Ended (sym k.0) (told_join (StoresAll files) (Says text) (Due status) (λ x y z p q. whole y p q) t0 t1 t2 h k.1)
  stored_end end first h (inr (inl k)) = told_join (StoresAll files) (SaysPrefix text) (Due end) (λ x y z p q. unsaid end y (cut_say end first (inl (k.0, k.1))) p q) t0 t1 t2 h k.2
  stored_end end first h (inr (inr k)) = told_join (StoresAll files) (SaysPrefix text) (Due end) (λ x y z p q. unsaid end y (inr k.0) p q) t0 t1 t2 h k.1

  pub unstored_end : (end : ℕ) → NoneFalls f0 f1 → NoneFalls f1 f2 → SomeStoreRose files f0 f1 → Told (StoresPart files) t0 t1 → SayEnds 12 unwritten_line f1 f2 t1 t2 end → Ended end
  unstored_end end first second r h (inl k) = subst Ended (sym k.0) (told_join (StoresPart files) (Says unwritten_line) (Due 12) (λ x y z p q. unstored y (rose_on files first second r) p q) t0 t1 t2 h k.1)
  unstored_end end first second r h (inr (inl k)) = told_join (StoresPart files) (SaysPrefix unwritten_line) (Due end) (λ x y z p q. unstored_unsaid end y (cut_say end first (inl (k.0, k.1))) (rose_on files first second r) p q) t0 t1 t2 h k.2
  unstored_end end first second r h (inr (inr k)) = told_join (StoresPart files) (SaysPrefix unwritten_line) (Due end) (λ x y z p q. unstored_unsaid end y (inr k.0) (rose_on files first second r) p q) t0 t1 t2 h k.1

  pub no_room_end : (end : ℕ) → NoneFalls f0 f1 → Told (StoresPart files) t0 t1 → SayEnds 21 no_memory_line f1 f2 t1 t2 end → Ended end
  no_room_end end first h (inl k) = subst Ended (sym k.0) (told_join (StoresPart files) (Says no_memory_line) (Due 21) (λ x y z p q. no_room y p q) t0 t1 t2 h k.1)
  no_room_end end first h (inr (inl k)) = told_join (StoresPart files) (SaysPrefix no_memory_line) (Due end) (λ x y z p q. no_room_unsaid end y (cut_say end first (inl (k.0, k.1))) p q) t0 t1 t2 h k.2
  no_room_end end first h (inr (inr k)) = told_join (StoresPart files) (SaysPrefix no_memory_line) (Due end) (λ x y z p q. no_room_unsaid end y (inr k.0) p q) t0 t1 t2 h k.1

  abbrev Cause : ℕ → Type 0
  Cause end = (end ≡ status) ⊎ ((end ≡ 21) ⊎ ((end ≡ 12) × (SomeStoreRose files f0 f2 ⊎ Rose (f0 output) (f2 output))))

  pub said_cause : (end : ℕ) → NoneFalls f0 f1 → SayEnds status text f1 f2 t1 t2 end → Cause end
  said_cause end first (inl k) = inl k.0
  said_cause end first (inr (inl k)) = inr (inr (k.0, inr (rose_second (f0 output) (f1 output) (f2 output) k.1 (first output))))
  said_cause end first (inr (inr k)) = inr (inl k.0)

  pub failed_cause : (end : ℕ) (line : List ℕ) → NoneFalls f0 f1 → NoneFalls f1 f2 → SomeStoreRose files f0 f1 → SayEnds 12 line f1 f2 t1 t2 end → Cause end
  failed_cause end line first second h (inl k) = inr (inr (k.0, inl (rose_on files first second h)))
  failed_cause end line first second h (inr (inl k)) = inr (inr (k.0, inl (rose_on files first second h)))
  failed_cause end line first second h (inr (inr k)) = inr (inl k.0)
