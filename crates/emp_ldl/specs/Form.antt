-- Forms of matrices of fractions at rational vectors.
use Rattle.std.specs.Prelude.{◌≡◌, ℕ, suc, ◌+◌, ◌*◌, ◌<◌, ◌≤◌, ℤ, pos, ◌≤ℤ◌, ◌<ℤ◌, List, [], ◌∷◌, length, slice_index_or}
use Rattle.emp_num.specs.Ratio.{Ratio, ratio, plus, times}
use Rattle.emp_num.specs.Whole.{whole}
use Rattle.emp_num.specs.declared.frac.Frac.{Frac}

abbrev pub of_frac : Frac → Ratio
of_frac f = ratio f.num f.den

-- the cell in row k and column j of a matrix whose cells stand row by row
abbrev pub entry : ℕ → List Frac → ℕ → ℕ → Frac
entry side cells k j = slice_index_or cells (k * side + j) (whole 0)

abbrev pub entries : ℕ → List Frac → ℕ → ℕ → Ratio
entries side cells k j = of_frac (entry side cells k j)

-- each cell is the one across the diagonal
abbrev pub IsSymmetric : ℕ → List Frac → Type 0
IsSymmetric side cells = (k j : ℕ) → k < side → j < side → entry side cells k j ≡ entry side cells j k

-- a symmetric matrix
pub record IsMatrix (side : ℕ) (cells : List Frac) : Type 0 where
  pub count : length cells ≡ side * side
  pub symmetric : IsSymmetric side cells

-- the sum of the entries at i, i + 1, .. times the coordinates, which are xs over d
abbrev pub sum_at : (ℕ → Ratio) → ℤ → ℕ → List ℤ → Ratio
sum_at b d i [] = ratio (pos 0) (pos 1)
sum_at b d i (x ∷ xs) = plus (times (b i) (ratio x d)) (sum_at b d (suc i) xs)

-- the form at xs over d: the sum of the cells, each times two coordinates
abbrev pub form_at : (ℕ → ℕ → Ratio) → ℤ → List ℤ → Ratio
form_at m d xs = sum_at (λ k. sum_at (m k) d 0 xs) d 0 xs

-- the leading block of side n has no negative value; a shorter vector ends in zeros. The lower number of a form is above 0
pub record IsSemidefinite (m : ℕ → ℕ → Ratio) (n : ℕ) : Type 0 where
  pub nowhere : (d : ℤ) (xs : List ℤ) → pos 0 <ℤ d → length xs ≤ n → pos 0 ≤ℤ (form_at m d xs).top
  pub lower : (d : ℤ) (xs : List ℤ) → pos 0 <ℤ d → length xs ≤ n → pos 0 <ℤ (form_at m d xs).bottom

-- the leading block of side n has a negative value
pub record IsNegative (m : ℕ → ℕ → Ratio) (n : ℕ) : Type 0 where
  pub den : ℤ
  pub at : List ℤ
  pub positive : pos 0 <ℤ den
  pub fits : length at ≤ n
  pub below : (form_at m den at).top <ℤ pos 0
  pub lower : pos 0 <ℤ (form_at m den at).bottom

-- the first j cells of row k are those of column k
abbrev pub Mirrors : ℕ → List Frac → ℕ → ℕ → Type 0
Mirrors side cells k n = (j : ℕ) → j < n → entry side cells k j ≡ entry side cells j k
