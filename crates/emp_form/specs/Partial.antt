-- The derivatives of a form, and its value along a step.
use Rattle.std.specs.Prelude.{◌≡◌, ℕ, ℤ, pos, ◌+ℤ◌, ◌*ℤ◌, cond, nat_eq, nat_lt}
use Rattle.emp_form.specs.Form.{Form, sum_to, quadratic, top_at}

-- the second derivative by variables v and i, from the coefficients of squares and products: twice q_vv, else q_iv or q_vi
abbrev pub second_at : (ℕ → ℕ → ℤ) → ℕ → ℕ → ℤ
second_at s v i = cond (nat_eq i v) (pos 2 *ℤ s v v) (cond (nat_lt i v) (s i v) (s v i))

-- the derivative by variable v
abbrev pub partial_form : ℕ → Form → Form
partial_form v f = record { den = f.den; constant = f.linear v; linear = second_at f.square v; square = λ i j. pos 0 }

abbrev pub moved : (ℕ → ℤ) → (ℕ → ℤ) → ℕ → ℤ
moved x v i = x i +ℤ v i

-- at x + v the value is that at x, plus each step times the derivative at x, plus the quadratic part of the step; all of
-- them over f's den and the square of d, times d
abbrev pub StepExpands : Type 0
StepExpands = (n : ℕ) (d : ℤ) (x v : ℕ → ℤ) (f : Form) → d *ℤ top_at n d (moved x v) f ≡ d *ℤ top_at n d x f +ℤ sum_to n (λ k. v k *ℤ top_at n d x (partial_form k f)) +ℤ d *ℤ quadratic n f.square v
