-- What a call comes to: its words, the files that it reads, what is answered over their texts, and what it stores and says.
-- `answers` says what an answer over the texts is; the layers above give it.
use Rattle.std.specs.Prelude.{◌≡◌, ◌⊎◌, ℕ, ◌+◌, ◌<◌, ◌≤◌, cond, nat_eq, List, [], ◌∷◌, ◌++◌, map, length}
use Rattle.emp_desk.specs.Desk.{Place, loads, stores, output, Contents, KeepsAll, Stores, StoresPrefix, Says, SaysPrefix, Rose}
use Rattle.emp_command.specs.declared.words.Verb.TheVariants.{Make}
use Rattle.emp_command.specs.Words.{Asked, Asks, IsPlain}
use Rattle.emp_command.specs.Lines.{bad_words_line, unread_line, unwritten_line, too_long_line, no_memory_line, work_line, firms_line}

-- a status, the files to be stored in order with their bytes, and the text to be said
pub record Outcome : Type 0 where
  pub status : ℕ
  pub stores : List (List ℕ × List ℕ)
  pub says : List ℕ

-- nothing is stored and a line is said
abbrev pub refusal : ℕ → List ℕ → Outcome
refusal status line = record { status = status; stores = []; says = line }

-- ---- limits
-- how many bytes file k may have, counted from 1: the model and the annotation 1,048,576, a certificate 16,777,216
abbrev pub limit_of : ℕ → ℕ
limit_of k = cond (nat_eq k 3) 16777216 1048576

abbrev pub IsWorkInRange : ℕ → Type 0
IsWorkInRange n = (1 ≤ n) × (n ≤ 1000000000)

abbrev pub AreFirmsInRange : ℕ → Type 0
AreFirmsInRange n = (2 ≤ n) × (n ≤ 40)

-- `--work` is from 1 to 1,000,000,000, and FIRMS of `make` from 2 to 40
abbrev pub IsInRange : Asked → Type 0
IsInRange r = IsWorkInRange r.work × (r.verb ≡ Make → AreFirmsInRange r.firms)

-- ---- files
-- the files from number k on are each within their limit
abbrev pub FilesFit : Contents → ℕ → List (List ℕ) → Type 0
FilesFit before k [] = Unit {0}
FilesFit before k (name ∷ names) = (length (before.holds name) ≤ limit_of k) × FilesFit before (k + 1) names

-- name is file k, and the files before it are within their limits
pub record IsReached (before : Contents) (r : Asked) (k : ℕ) (name : List ℕ) : Type 0 where
  pub earlier : List (List ℕ)
  pub later : List (List ℕ)
  pub files : r.files ≡ earlier ++ name ∷ later
  pub number : k ≡ length earlier + 1
  pub fit : FilesFit before 1 earlier

-- ---- what is due; `old` and `new` are the counts of faults before and after the call
pub data IsDue (answers : Asked → List (List ℕ) → Outcome → Type 0) (words : List (List ℕ)) (old new : Place → ℕ) (before : Contents) : Outcome → Type 0 where
  bad_words : (IsPlain words → ⊥) → IsDue answers words old new before (refusal 10 bad_words_line)
  bad_work : (r : Asked) → Asks words r → (IsWorkInRange r.work → ⊥) → IsDue answers words old new before (refusal 24 work_line)
  bad_firms : (r : Asked) → Asks words r → r.verb ≡ Make → (AreFirmsInRange r.firms → ⊥) → IsDue answers words old new before (refusal 24 firms_line)
  unread : (r : Asked) (k : ℕ) (name : List ℕ) → Asks words r → IsInRange r → IsReached before r k name → Rose (old (loads name)) (new (loads name)) → IsDue answers words old new before (refusal 11 (unread_line k))
  too_long : (r : Asked) (k : ℕ) (name : List ℕ) → Asks words r → IsInRange r → IsReached before r k name → limit_of k < length (before.holds name) → IsDue answers words old new before (refusal 13 (too_long_line k (limit_of k)))
  answered : (r : Asked) (o : Outcome) → Asks words r → IsInRange r → FilesFit before 1 r.files → answers r (map before.holds r.files) o → IsDue answers words old new before o
  no_memory : (r : Asked) → Asks words r → IsInRange r → IsDue answers words old new before (refusal 21 no_memory_line)

-- ---- delivery
-- all files were stored in order
abbrev pub StoresAll : List (List ℕ × List ℕ) → Contents → Contents → Type 0
StoresAll [] before after = KeepsAll before after
StoresAll (s ∷ ss) before after = (between : Contents) × Stores s.0 s.1 before between × StoresAll ss between after

-- the stores before some file are done, of that file a prefix, and of the later ones nothing
abbrev pub StoresPart : List (List ℕ × List ℕ) → Contents → Contents → Type 0
StoresPart [] before after = ⊥
StoresPart (s ∷ ss) before after = StoresPrefix s.0 s.1 before after ⊎ ((between : Contents) × Stores s.0 s.1 before between × StoresPart ss between after)

-- the count of the stores of one of the files rose
abbrev pub SomeStoreRose : List (List ℕ × List ℕ) → (Place → ℕ) → (Place → ℕ) → Type 0
SomeStoreRose [] old new = ⊥
SomeStoreRose (s ∷ ss) old new = Rose (old (stores s.0)) (new (stores s.0)) ⊎ SomeStoreRose ss old new

-- a say failed, with 12, or found no memory, with 21
abbrev pub IsCutSay : (Place → ℕ) → (Place → ℕ) → ℕ → Type 0
IsCutSay old new status = ((status ≡ 12) × Rose (old output) (new output)) ⊎ (status ≡ 21)

-- how the delivery of an outcome ended, by the status that was answered; `old` and `new` are the counts of faults. Where a store failed
-- its line was said, with 12, and where one found no memory the line of that, with 21; or a prefix of it, where that say failed in turn
pub data Delivers (o : Outcome) (old new : Place → ℕ) (before after : Contents) : ℕ → Type 0 where
  whole : (between : Contents) → StoresAll o.stores before between → Says o.says between after → Delivers o old new before after o.status
  unsaid : (status : ℕ) (between : Contents) → IsCutSay old new status → StoresAll o.stores before between → SaysPrefix o.says between after → Delivers o old new before after status
  unstored : (between : Contents) → SomeStoreRose o.stores old new → StoresPart o.stores before between → Says unwritten_line between after → Delivers o old new before after 12
  unstored_unsaid : (status : ℕ) (between : Contents) → IsCutSay old new status → SomeStoreRose o.stores old new → StoresPart o.stores before between → SaysPrefix unwritten_line between after → Delivers o old new before after status
  no_room : (between : Contents) → StoresPart o.stores before between → Says no_memory_line between after → Delivers o old new before after 21
  no_room_unsaid : (status : ℕ) (between : Contents) → IsCutSay old new status → StoresPart o.stores before between → SaysPrefix no_memory_line between after → Delivers o old new before after status

-- ---- the whole course of a call
-- the words are not plain, or a number of theirs is out of its range: then no memory is asked for
abbrev pub NeedsNoMemory : List (List ℕ) → Type 0
NeedsNoMemory words = (IsPlain words → ⊥) ⊎ ((r : Asked) × Asks words r × (IsInRange r → ⊥))

-- what was due was delivered with this status; where no memory is asked for and the say found none, the status stays and a
-- prefix was said
pub data Runs (answers : Asked → List (List ℕ) → Outcome → Type 0) (words : List (List ℕ)) (old new : Place → ℕ) (before after : Contents) : ℕ → Type 0 where
  delivered : (o : Outcome) (status : ℕ) → IsDue answers words old new before o → Delivers o old new before after status → Runs answers words old new before after status
  cut_short : (o : Outcome) → NeedsNoMemory words → (o.status ≡ 10) ⊎ (o.status ≡ 24) → IsDue answers words old new before o → SaysPrefix o.says before after → Runs answers words old new before after o.status
