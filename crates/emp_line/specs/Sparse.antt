-- Cells that are not 0, in order of columns, and the whole list of cells that they stand for.
use Rattle.std.specs.Prelude.{◌≢◌, ℕ, zero, suc, ◌+◌, ◌<◌, ◌≤◌, ℤ, pos, neg_ℤ, ◌+ℤ◌, ◌*ℤ◌, Bool, false, cond, ◌||◌, nat_eq, nat_lt, List, [], ◌∷◌, int_div}
use Rattle.emp_line.specs.declared.cells.Cell.{Cell}
use Rattle.emp_line.specs.declared.pairs.Pair.{Pair}
use Rattle.emp_algebra.specs.Vector.{is_zero}
use Rattle.emp_line.specs.Pivot.{Factors, sign, step_wide}

-- the cells that are not 0 of a line with so many columns
pub record Sparse : Type 0 where
  pub width : ℕ
  pub items : List Cell

abbrev pub no_cell : Cell
no_cell = record { column = 0; number = pos 0 }

-- all cells of the n columns from column `at` on
abbrev pub spread : ℕ → ℕ → List Cell → List ℤ
spread at zero cs = []
spread at (suc n) [] = pos 0 ∷ spread (at + 1) n []
spread at (suc n) (c ∷ cs) = cond (nat_eq c.column at) (c.number ∷ spread (at + 1) n cs) (pos 0 ∷ spread (at + 1) n (c ∷ cs))

-- the columns rise from `at` on and are below `end`, and no number is 0
abbrev pub IsSparse : ℕ → ℕ → List Cell → Type 0
IsSparse at end [] = Unit {0}
IsSparse at end (c ∷ cs) = (at ≤ c.column) × (c.column < end) × (c.number ≢ pos 0) × IsSparse (c.column + 1) end cs

abbrev pub numbers : List Cell → List ℤ
numbers [] = []
numbers (c ∷ cs) = c.number ∷ numbers cs

-- the cell with the number z where it stands in column j, and else with its own number changed by g
abbrev pub patched : ℕ → ℤ → (ℤ → ℤ) → Cell → Cell
patched j z g c = record { column = c.column; number = cond (nat_eq c.column j) z (g c.number) }

-- the cell as its line is solved for the quantity of column j, where its denominator is d and its number in that column is h
abbrev pub turned_cell : ℤ → ℤ → ℕ → Cell → Cell
turned_cell h d j c = patched j (sign h *ℤ d) (λ z. neg_ℤ (sign h) *ℤ z) c

-- ---- two lines side by side
-- the cell's number, and 0 in column j
abbrev pub struck : ℕ → Cell → ℤ
struck j c = cond (nat_eq c.column j) (pos 0) c.number

abbrev pub first_alone : ℕ → Cell → Pair
first_alone j a = record { column = a.column; own = struck j a; other = pos 0 }

abbrev pub second_alone : Cell → Pair
second_alone b = record { column = b.column; own = pos 0; other = b.number }

abbrev pub both_cells : ℕ → Cell → Cell → Pair
both_cells j a b = record { column = a.column; own = struck j a; other = b.number }

abbrev pub seconds : List Cell → List Pair
seconds [] = []
seconds (b ∷ bs) = second_alone b ∷ seconds bs

abbrev pub joined : ℕ → Cell → (List Cell → List Pair) → List Cell → List Pair
joined j a rest [] = first_alone j a ∷ rest []
joined j a rest (b ∷ bs) = cond (nat_lt a.column b.column) (first_alone j a ∷ rest (b ∷ bs)) (cond (nat_lt b.column a.column) (second_alone b ∷ joined j a rest bs) (both_cells j a b ∷ rest bs))

-- the numbers of two lines in each column in which one of them has a cell; the first one's cell in column j is struck out
abbrev pub pairs : ℕ → List Cell → List Cell → List Pair
pairs j [] bs = seconds bs
pairs j (a ∷ as') bs = joined j a (pairs j as') bs

-- a number is wide that is formed in one of the columns
abbrev pub pairs_wide : Factors → List Pair → Bool
pairs_wide f [] = false
pairs_wide f (p ∷ ps) = step_wide f p.own p.other || pairs_wide f ps

-- a cell before others, where its number is not 0
abbrev pub kept : Cell → List Cell → List Cell
kept c cs = cond (is_zero c.number) cs (c ∷ cs)

-- the sum of the two numbers' multiples
abbrev pub summed : Factors → Pair → Cell
summed f p = record { column = p.column; number = f.own *ℤ p.own +ℤ f.other *ℤ p.other }

-- the sum of the two lines' multiples
abbrev pub sums : Factors → List Pair → List Cell
sums f [] = []
sums f (p ∷ ps) = kept (summed f p) (sums f ps)

-- each number divided, rounded towards 0
abbrev pub divided : ℤ → Cell → Cell
divided g c = record { column = c.column; number = int_div c.number g }
