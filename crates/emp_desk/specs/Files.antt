-- Files by name: what is kept, and how one file changes.
use Rattle.std.specs.Prelude.{◌≡◌, ◌≢◌, ℕ, List, [], Option, Some, None}
use Rattle.std.specs.Option.{unwrap_or}

-- the bytes of each file, None where no such name is kept
abbrev pub Kept : Type 0
Kept = List ℕ → Option (List ℕ)

-- the bytes of a file, none where it is not kept
abbrev pub bytes_of : Kept → List ℕ → List ℕ
bytes_of files name = unwrap_or (files name) []

-- the same names are kept, with the same bytes
abbrev pub IsSameFiles : Kept → Kept → Type 0
IsSameFiles before after = (name : List ℕ) → after name ≡ before name

-- the file has these bytes now; all other files stayed
pub record Puts (name bytes : List ℕ) (before after : Kept) : Type 0 where
  pub here : after name ≡ Some bytes
  pub others : (other : List ℕ) → other ≢ name → after other ≡ before other

-- the file is not kept now; all other files stayed
pub record Removes (name : List ℕ) (before after : Kept) : Type 0 where
  pub here : after name ≡ None
  pub others : (other : List ℕ) → other ≢ name → after other ≡ before other
