-- Lists of whole numbers as vectors. A shorter list ends in zeros, so no law has a premise on lengths.
use Rattle.std.specs.Prelude.{ℕ, ℤ, pos, ◌+ℤ◌, ◌*ℤ◌, List, [], ◌∷◌, slice_index_or, zero, suc, negsuc, Bool, true, false, int_div}

-- the entry at place k, 0 past the end
abbrev pub cell : List ℤ → ℕ → ℤ
cell r k = slice_index_or r k (pos 0)

-- the dot product
abbrev pub dot : List ℤ → List ℤ → ℤ
dot [] xs = pos 0
dot (a ∷ r) [] = pos 0
dot (a ∷ r) (x ∷ xs) = a *ℤ x +ℤ dot r xs

-- each entry times k
abbrev pub scale : ℤ → List ℤ → List ℤ
scale k [] = []
scale k (a ∷ r) = (k *ℤ a) ∷ scale k r

-- entry by entry
abbrev pub add_rows : List ℤ → List ℤ → List ℤ
add_rows [] s = s
add_rows (a ∷ r) [] = a ∷ r
add_rows (a ∷ r) (b ∷ s) = (a +ℤ b) ∷ add_rows r s

-- ---- numbers
abbrev pub is_zero : ℤ → Bool
is_zero (pos zero) = true
is_zero (pos (suc n)) = false
is_zero (negsuc n) = false

-- each number divided by one
abbrev pub quotients : List ℤ → ℤ → List ℤ
quotients [] g = []
quotients (z ∷ zs) g = (int_div z g) ∷ quotients zs g
