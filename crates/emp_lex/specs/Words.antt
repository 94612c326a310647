-- What stands beside a word in a list of words.
use Rattle.std.specs.Prelude.{ℕ, cond, List, [], ◌∷◌, bytes_eq}

-- beside the first of the words that the bytes are, or `other` where they are none of them
abbrev pub of_words : {X : Type 0} → X → List (List ℕ × X) → List ℕ → X
of_words other [] bs = other
of_words other (w ∷ ws) bs = cond (bytes_eq bs w.0) w.1 (of_words other ws bs)
