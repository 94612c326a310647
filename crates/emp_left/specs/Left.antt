-- Polynomials that name some of the variables alone, as rows and quadratics of a game whose coordinates these variables are.
use Rattle.std.specs.Prelude.{◌≡◌, ℕ, ◌<◌, ◌≤◌, ℤ, pos, ◌*ℤ◌, true, false, cond, nat_lt, List, map}
use Rattle.emp_algebra.specs.Vector.{cell}
use Rattle.emp_systems.specs.Steps.{Quadratic, value_squared}
use Rattle.emp_form.specs.Form.{Form, IsLinear, top_at}
use Rattle.emp_game.specs.Game.{Row, names, AreApart}
use Rattle.emp_game.specs.Solved.{value_at}

-- the numbers of these variables, in their order
abbrev pub selected : List ℕ → List ℤ → List ℤ
selected vs nums = map (λ v. cell nums v) vs

-- over the form's den
abbrev pub row_left : List ℕ → Form → Row
row_left vs f = record { constant = f.constant; cells = map f.linear vs }

-- the number of a product stands with its first variable
abbrev pub upper : (ℕ → ℕ → ℤ) → ℕ → ℕ → ℤ
upper s i j = cond (nat_lt j i) (pos 0) (s i j)

abbrev pub quadratic_left : List ℕ → Form → Quadratic
quadratic_left vs f = record { constant = f.constant; linear = map f.linear vs; square = map (λ u. map (λ v. upper f.square u v) vs) vs }

-- the form names none but these
pub record NamesOnly (vs : List ℕ) (f : Form) : Type 0 where
  pub linear : (i : ℕ) → names vs i ≡ false → f.linear i ≡ pos 0
  pub first : (i j : ℕ) → i ≤ j → names vs i ≡ false → f.square i j ≡ pos 0
  pub second : (i j : ℕ) → i ≤ j → names vs j ≡ false → f.square i j ≡ pos 0

-- ---- the laws
-- the value's top is that of the row, times the point's den
abbrev pub LinearLeft : Type 0
LinearLeft = (vs : List ℕ) (f : Form) (n : ℕ) (d : ℤ) (nums : List ℤ) → AreApart vs → ((v : ℕ) → names vs v ≡ true → v < n) → NamesOnly vs f → IsLinear f → top_at n d (cell nums) f ≡ d *ℤ value_at (row_left vs f) d (selected vs nums)

-- and that of the quadratic
abbrev pub QuadraticLeft : Type 0
QuadraticLeft = (vs : List ℕ) (f : Form) (n : ℕ) (d : ℤ) (nums : List ℤ) → AreApart vs → ((v : ℕ) → names vs v ≡ true → v < n) → NamesOnly vs f → top_at n d (cell nums) f ≡ value_squared (quadratic_left vs f) d (selected vs nums)
