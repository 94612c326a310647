-- Polynomials with outcomes in the place of random variables.
use Rattle.std.specs.Prelude.{◌≡◌, ℕ, ◌≤◌, ◌<◌, ℤ, pos, ◌+ℤ◌, ◌*ℤ◌, ◌<ℤ◌, Bool, true, false, cond, nat_lt, length}
use Rattle.emp_algebra.specs.Vector.{cell}
use Rattle.emp_num.specs.Ratio.{SameRatio}
use Rattle.emp_num.specs.Point.{Point}
use Rattle.emp_form.specs.Form.{Form, line, top_at, form_value}

-- which variables are random, and the outcome of each over one number above 0
pub record Outcomes : Type 0 where
  pub is_random : ℕ → Bool
  pub den : ℤ
  pub nums : ℕ → ℤ
  pub positive : pos 0 <ℤ den

abbrev pub only : (ℕ → Bool) → (ℕ → ℤ) → ℕ → ℤ
only test x i = cond (test i) (x i) (pos 0)

-- the coefficient of the product of two variables, in either order
abbrev pub joint_at : (ℕ → ℕ → ℤ) → ℕ → ℕ → ℤ
joint_at s i w = cond (nat_lt w i) (s w i) (s i w)

-- no product of two variables that are both not random
abbrev pub HasRandomFactors : Outcomes → Form → Type 0
HasRandomFactors o f = (i j : ℕ) → i ≤ j → o.is_random i ≡ false → o.is_random j ≡ false → f.square i j ≡ pos 0

-- the first n variables: the coefficient of a variable that is not random is its own and, for each random one, that of the
-- product times the outcome; the constant is the value at the outcomes, with 0 for the others
abbrev pub put : ℕ → Outcomes → Form → Form
put n o f = record {
  den = f.den *ℤ (o.den *ℤ o.den);
  constant = top_at n o.den (only o.is_random o.nums) f;
  linear = λ i. cond (o.is_random i) (pos 0) (o.den *ℤ (o.den *ℤ f.linear i +ℤ line n (joint_at f.square i) (only o.is_random o.nums)));
  square = λ i j. pos 0;
}

-- the point has the outcomes
abbrev pub HasOutcomes : Outcomes → Point → Type 0
HasOutcomes o p = (w : ℕ) → w < length p.nums → o.is_random w ≡ true → cell p.nums w *ℤ o.den ≡ o.nums w *ℤ p.den

-- at a point with the outcomes a polynomial whose products have random factors has the value of the affine one
abbrev pub OutcomesKeepValues : Type 0
OutcomesKeepValues = (o : Outcomes) (f : Form) (p : Point) → HasRandomFactors o f → HasOutcomes o p → SameRatio (form_value p f) (form_value p (put (length p.nums) o f))
