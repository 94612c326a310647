-- What the steps of a pivot in place keep and give.
use Rattle.std.specs.Prelude.{◌||◌, nat_eq, [], slice_index_or, ◌+◌, ◌≤◌, ◌∷◌, drop, length, cond, int_div, ◌≡◌, ℕ, ◌<◌, ◌^◌, ℤ, ◌+ℤ◌, ◌*ℤ◌, Bool, true, false, List, Option, Some, None, Result, Ok, Err, unsigned_abs}
use Rattle.std.specs.List.{All}
use Rattle.emp_algebra.specs.Vector.{cell, quotients, is_zero}
use Rattle.emp_num.specs.declared.exact.Wide.{Wide}
use Rattle.emp_line.specs.declared.line.Line.{Line}
use Rattle.emp_line.specs.Pivot.{Factors, factors, step_wide, combination_wide}
use Rattle.emp_line.specs.declared.step.Multipliers.{Multipliers}
use Rattle.emp_line.specs.declared.cells.Cell.{Cell}
use Rattle.emp_line.specs.declared.pairs.Next.{Next}
use Rattle.emp_line.specs.Sparse.{no_cell, pairs}
use Rattle.emp_line.specs.Indexed.{KeepsOthers, flag}

-- the two multipliers as numbers without bound
abbrev pub factors_of : Multipliers → Factors
factors_of m = record { own = m.own; other = m.other }

-- the sum of the two products, or that one of the three numbers is wide
abbrev pub StepGives : Factors → ℤ → ℤ → Result ℤ Wide → Type 0
StepGives f a b (Ok z) = (step_wide f a b ≡ false) × (z ≡ f.own *ℤ a +ℤ f.other *ℤ b)
StepGives f a b (Err e) = step_wide f a b ≡ true

-- absolute value below 2^62
abbrev pub IsSmall : ℤ → Type 0
IsSmall z = unsigned_abs z < 2 ^ 62

-- all numbers of the line are small
pub record IsSmallLine (l : Line) : Type 0 where
  pub denom : IsSmall l.denom
  pub constant : IsSmall l.constant
  pub cells : All IsSmall l.cells

-- a number formed as line l is moved by the turned line t in column j is wide
abbrev pub moved_wide : Line → ℕ → Line → Bool
moved_wide t j l = cond (is_zero (cell l.cells j)) false (combination_wide (factors t.denom (cell l.cells j)) l t j)

abbrev pub is_none : {X : Type 0} → Option X → Bool
is_none None = true
is_none (Some x) = false

-- the lines that the pivot gives, or no lines where it gives none, and then the lines as they were
abbrev pub PivotGives : Option (List Line) → List Line → List Line → Result (Unit {0}) Wide → Type 0
PivotGives o old new (Ok u) = o ≡ Some new
PivotGives o old new (Err e) = (o ≡ None) × (new ≡ old)

-- each number of the line divided, rounded towards 0
abbrev pub divided_line : Line → ℤ → Line
divided_line l g = record { denom = int_div l.denom g; constant = int_div l.constant g; cells = quotients l.cells g }

-- the next pair of two lines, cell by cell, and the places of the cells after it
pub record IsNext (j : ℕ) (as' bs : List Cell) (a b : ℕ) (n : Next) : Type 0 where
  pub pair : pairs j (drop a as') (drop b bs) ≡ n.pair ∷ pairs j (drop n.own_at as') (drop n.other_at bs)
  pub own : n.own_at ≤ length as'
  pub other : n.other_at ≤ length bs
  pub further : a + b < n.own_at + n.other_at

-- the columns rise
abbrev pub Rises : List Cell → Type 0
Rises cs = (i k : ℕ) → i < k → k < length cs → (slice_index_or cs i no_cell).column < (slice_index_or cs k no_cell).column

-- so many cells, and no others, stand before the column
pub record IsPlace (cs : List Cell) (k p : ℕ) : Type 0 where
  pub before : (i : ℕ) → i < p → (slice_index_or cs i no_cell).column < k
  pub behind : (i : ℕ) → p ≤ i → i < length cs → k ≤ (slice_index_or cs i no_cell).column

-- a cell stands in column k
abbrev pub stands : ℕ → List Cell → Bool
stands k [] = false
stands k (c ∷ cs) = nat_eq c.column k || stands k cs

-- the flags of line `at` are changed to `value` in the columns of the cells, and no others
pub record MarksCells (cs : List Cell) (at : ℕ) (value : Bool) (old new : List (List Bool)) : Type 0 where
  pub rest : KeepsOthers at old new
  pub here : (k : ℕ) → k < length old → flag new k at ≡ cond (stands k cs) value (flag old k at)
