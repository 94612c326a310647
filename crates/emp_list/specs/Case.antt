-- Names are compared without case.
use Rattle.std.specs.Prelude.{◌≡◌, ℕ, Bool, List, map, bytes_eq}
use Rattle.std.specs.Char.{to_ascii_lowercase}

abbrev pub lower : List ℕ → List ℕ
lower bs = map to_ascii_lowercase bs

abbrev pub same_name : List ℕ → List ℕ → Bool
same_name a b = bytes_eq (lower a) (lower b)

abbrev pub SameName : List ℕ → List ℕ → Type 0
SameName a b = lower a ≡ lower b
