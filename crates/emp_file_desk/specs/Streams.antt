-- What is read of the bytes that a reader has left, and written to those that a writer holds, where these are known.
use Rattle.std.specs.Prelude.{◌≡◌, ℕ, List, take, Option, IfSome}
use Rattle.std.specs.Io.KnownBytes.{Appends}

-- the first `most` of the known bytes, or all where there are fewer
abbrev pub IsFirst : ℕ → Option (List ℕ) → List ℕ → Type 0
IsFirst most known bytes = IfSome known (λ xs. bytes ≡ take most xs)

-- the known bytes grow by these
abbrev pub TakesAll : Option (List ℕ) → Option (List ℕ) → List ℕ → Type 0
TakesAll old new bytes = Appends old new bytes

-- the known bytes grow by the first n of these, for some n
abbrev pub TakesPrefix : Option (List ℕ) → Option (List ℕ) → List ℕ → Type 0
TakesPrefix old new bytes = (n : ℕ) × Appends old new (take n bytes)
