-- The status and the line of a refusal, and why files were not loaded.
use Rattle.std.specs.Prelude.{◌≡◌, ℕ, ◌+◌, ◌<◌, ◌≤◌, List, [], ◌∷◌, ◌++◌, map, length, Option}
use Rattle.emp_desk.specs.Desk.{Place, loads, Contents, Told, Rose}
use Rattle.emp_command.specs.declared.refusal.Refusal.{Refusal}
use Rattle.emp_command.specs.declared.refusal.Refusal.TheVariants.{BadWords, BadWork, BadFirms, Unread, TooLong, Unwritten, NoMemory}
use Rattle.emp_command.specs.Lines.{bad_words_line, unread_line, unwritten_line, too_long_line, no_memory_line, work_line, firms_line}
use Rattle.emp_command.specs.Course.{limit_of, FilesFit}

abbrev pub line_of : Refusal → List ℕ
line_of BadWords = bad_words_line
line_of BadWork = work_line
line_of BadFirms = firms_line
line_of (Unread k) = unread_line k
line_of (TooLong k most) = too_long_line k most
line_of Unwritten = unwritten_line
line_of NoMemory = no_memory_line

abbrev pub status_of : Refusal → ℕ
status_of BadWords = 10
status_of BadWork = 24
status_of BadFirms = 24
status_of (Unread k) = 11
status_of (TooLong k most) = 13
status_of Unwritten = 12
status_of NoMemory = 21

-- ---- one file, of number k
pub record IsFile (name : List ℕ) (k : ℕ) (bytes : List ℕ) (before after : Contents) : Type 0 where
  pub holds : before.holds name ≡ bytes
  pub fits : length bytes ≤ limit_of k

abbrev pub IsLong : List ℕ → ℕ → Contents → Contents → Type 0
IsLong name k before after = limit_of k < length (before.holds name)

abbrev pub IsUnloaded : List ℕ → ℕ → (Place → ℕ) → (Place → ℕ) → Option Contents → Option Contents → Refusal → Type 0
IsUnloaded name k f0 f1 t0 t1 (Unread file) = (file ≡ k) × Rose (f0 (loads name)) (f1 (loads name))
IsUnloaded name k f0 f1 t0 t1 (TooLong file most) = (file ≡ k) × (most ≡ limit_of k) × Told (IsLong name k) t0 t1
IsUnloaded name k f0 f1 t0 t1 NoMemory = Unit {0}
IsUnloaded name k f0 f1 t0 t1 BadWords = ⊥
IsUnloaded name k f0 f1 t0 t1 BadWork = ⊥
IsUnloaded name k f0 f1 t0 t1 BadFirms = ⊥
IsUnloaded name k f0 f1 t0 t1 Unwritten = ⊥

-- ---- all files in order, from number k on
-- the files are within their limits and hold the texts
pub record HoldTexts (k : ℕ) (names : List (List ℕ)) (texts : List (List ℕ)) (before after : Contents) : Type 0 where
  pub fit : FilesFit before k names
  pub texts_are : texts ≡ map before.holds names

-- some file was not loaded, and those before it are within their limits
pub record SomeUnloaded (names : List (List ℕ)) (f0 f1 : Place → ℕ) (t0 t1 : Option Contents) (r : Refusal) : Type 0 where
  pub earlier : List (List ℕ)
  pub name : List ℕ
  pub later : List (List ℕ)
  pub files : names ≡ earlier ++ name ∷ later
  pub fit : Told (λ before after. FilesFit before 1 earlier) t0 t1
  pub why : IsUnloaded name (length earlier + 1) f0 f1 t0 t1 r

-- the texts from number k on are each within their limit
abbrev pub TextsFit : ℕ → List (List ℕ) → Type 0
TextsFit k [] = Unit {0}
TextsFit k (t ∷ ts) = (length t ≤ limit_of k) × TextsFit (k + 1) ts
