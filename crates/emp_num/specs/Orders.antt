-- What the answer of a comparison says.
use Rattle.std.specs.Prelude.{◌≡◌, ℕ, ◌<◌, ℤ, ◌<ℤ◌}
use Rattle.std.specs.declared.cmp.Ordering.{Ordering}
use Rattle.std.specs.declared.cmp.Ordering.TheVariants.{Less, Equal, Greater}

-- o is how x stands to y
abbrev pub IsOrder : Ordering → ℤ → ℤ → Type 0
IsOrder Less x y = x <ℤ y
IsOrder Equal x y = x ≡ y
IsOrder Greater x y = y <ℤ x

-- the same of two counts
abbrev pub IsCountOrder : Ordering → ℕ → ℕ → Type 0
IsCountOrder Less x y = x < y
IsCountOrder Equal x y = x ≡ y
IsCountOrder Greater x y = y < x
