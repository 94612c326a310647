-- The greatest common divisor as a function: of two counts by Euclid's steps, and of a list of whole numbers.
use Rattle.std.specs.Prelude.{ℕ, zero, suc, ◌%◌, ℤ, List, [], ◌∷◌, unsigned_abs}

-- at most `steps` of Euclid's steps; a number more than the second is always enough
abbrev pub gcd_within : ℕ → ℕ → ℕ → ℕ
gcd_within zero a b = a
gcd_within (suc steps) a zero = a
gcd_within (suc steps) a (suc b) = gcd_within steps (suc b) (a % suc b)

abbrev pub gcd_of : ℕ → ℕ → ℕ
gcd_of a b = gcd_within (suc b) a b

-- the greatest number that divides all of them, and 0 where all are 0
abbrev pub content_from : ℕ → List ℤ → ℕ
content_from g [] = g
content_from g (z ∷ zs) = content_from (gcd_of g (unsigned_abs z)) zs

abbrev pub content_of : List ℤ → ℕ
content_of zs = content_from 0 zs
