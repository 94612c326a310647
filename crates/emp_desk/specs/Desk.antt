-- What a desk means: its files, its output, and the counts of its faults.
use Rattle.std.specs.Prelude.{◌≡◌, ◌≢◌, ℕ, ◌<◌, ◌≤◌, ◌-◌, ◌^◌, ◌⊎◌, ◌++◌, List, take, Option, Some, None}

-- where a call may fail: the loads of a file, its stores, or the output
pub data Place : Type 0 where
  loads : List ℕ → Place
  stores : List ℕ → Place
  output : Place

-- the bytes of each file, none where the file is not there, and those of the output
pub record Contents : Type 0 where
  pub holds : List ℕ → List ℕ
  pub said : List ℕ

-- what is told before and after is so related; a desk that tells goes on telling
abbrev pub Told : (Contents → Contents → Type 0) → Option Contents → Option Contents → Type 0
Told P None None = Unit {0}
Told P (Some before) (Some after) = P before after
Told P None (Some after) = ⊥
Told P (Some before) None = ⊥

abbrev pub KeepsFiles : Contents → Contents → Type 0
KeepsFiles before after = (name : List ℕ) → after.holds name ≡ before.holds name

-- no file and no output changed
pub record KeepsAll (before after : Contents) : Type 0 where
  pub files : KeepsFiles before after
  pub said : after.said ≡ before.said

abbrev pub IsPrefix : List ℕ → List ℕ → Type 0
IsPrefix part whole = (rest : List ℕ) × (part ++ rest ≡ whole)

-- the load gave the first `most` bytes of the file, or all where there are fewer
pub record Loads (name : List ℕ) (most : ℕ) (bytes : List ℕ) (before after : Contents) : Type 0 where
  pub bytes_are : bytes ≡ take most (before.holds name)

-- the file has these bytes now; all other files and the output stayed
pub record Stores (name bytes : List ℕ) (before after : Contents) : Type 0 where
  pub here : after.holds name ≡ bytes
  pub others : (other : List ℕ) → other ≢ name → after.holds other ≡ before.holds other
  pub said : after.said ≡ before.said

-- the file has a prefix of these bytes now; all other files and the output stayed
pub record StoresPrefix (name bytes : List ℕ) (before after : Contents) : Type 0 where
  pub here : IsPrefix (after.holds name) bytes
  pub others : (other : List ℕ) → other ≢ name → after.holds other ≡ before.holds other
  pub said : after.said ≡ before.said

-- the output grew by these bytes; all files stayed
pub record Says (bytes : List ℕ) (before after : Contents) : Type 0 where
  pub said : after.said ≡ before.said ++ bytes
  pub files : KeepsFiles before after

-- the output grew by a prefix of these bytes; all files stayed
pub record SaysPrefix (bytes : List ℕ) (before after : Contents) : Type 0 where
  pub part : List ℕ
  pub prefix : IsPrefix part bytes
  pub said : after.said ≡ before.said ++ part
  pub files : KeepsFiles before after

-- the count rose; also said of a count that stands at the end of its type
abbrev pub Rose : ℕ → ℕ → Type 0
Rose before after = (before < after) ⊎ (after ≡ 2 ^ 64 - 1)

abbrev pub NoneFalls : (Place → ℕ) → (Place → ℕ) → Type 0
NoneFalls before after = (at : Place) → before at ≤ after at

-- no count but that of the place changed
abbrev pub OnlyAt : Place → (Place → ℕ) → (Place → ℕ) → Type 0
OnlyAt place before after = (at : Place) → at ≢ place → after at ≡ before at
