-- Numbers of quantities and pairs.
use Rattle.std.specs.Prelude.{ℕ, ◌<◌, ◌≤◌}

-- k is one of the numbers from 1 to n
abbrev pub IsNumber : ℕ → ℕ → Type 0
IsNumber n k = (0 < k) × (k ≤ n)
