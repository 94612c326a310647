-- A polynomial of degree at most 2 with rational coefficients: whole numbers over one number above 0. Nothing bounds them.
use Rattle.std.specs.Prelude.{◌≡◌, ◌⊎◌, ℕ, zero, suc, ◌≤◌, ℤ, pos, negsuc, neg_ℤ, ◌+ℤ◌, ◌*ℤ◌, cond, nat_eq, nat_lt, length, Option, Some, None}
use Rattle.emp_algebra.specs.Vector.{cell}
use Rattle.emp_num.specs.Ratio.{Ratio, ratio}
use Rattle.emp_num.specs.Point.{Point}

-- `linear k` belongs to variable k, and `square i j` to the product of variables i and j, where i is at most j
pub record Form : Type 0 where
  pub den : ℤ
  pub constant : ℤ
  pub linear : ℕ → ℤ
  pub square : ℕ → ℕ → ℤ

-- ---- values
-- f 0 + .. + f (n - 1)
abbrev pub sum_to : ℕ → (ℕ → ℤ) → ℤ
sum_to zero f = pos 0
sum_to (suc n) f = sum_to n f +ℤ f n

abbrev pub line : ℕ → (ℕ → ℤ) → (ℕ → ℤ) → ℤ
line n a x = sum_to n (λ i. a i *ℤ x i)

-- the terms whose later variable is j
abbrev pub column : (ℕ → ℕ → ℤ) → (ℕ → ℤ) → ℕ → ℤ
column s x j = x j *ℤ (line j (λ i. s i j) x +ℤ s j j *ℤ x j)

abbrev pub quadratic : ℕ → (ℕ → ℕ → ℤ) → (ℕ → ℤ) → ℤ
quadratic n s x = sum_to n (column s x)

-- the value's top over f's den and the square of the point's den d
abbrev pub top_at : ℕ → ℤ → (ℕ → ℤ) → Form → ℤ
top_at n d x f = f.constant *ℤ (d *ℤ d) +ℤ (d *ℤ line n f.linear x +ℤ quadratic n f.square x)

abbrev pub form_value : Point → Form → Ratio
form_value p f = ratio (top_at (length p.nums) p.den (cell p.nums) f) (f.den *ℤ (p.den *ℤ p.den))

-- ---- coefficients by products of variables
-- `(None, None)` is 1, `(None, Some i)` variable i, and `(Some i, Some j)` the product of variables i and j, where i is at
-- most j; no other pair is one
abbrev pub Monomial : Type 0
Monomial = Option ℕ × Option ℕ

-- over the form's den; 0 where the pair is none
abbrev pub coefficient : Form → Option ℕ → Option ℕ → ℤ
coefficient f None None = f.constant
coefficient f None (Some i) = f.linear i
coefficient f (Some i) None = pos 0
coefficient f (Some i) (Some j) = cond (nat_lt j i) (pos 0) (f.square i j)

-- ---- degrees, by the coefficients that are not 0
pub record IsLinear (f : Form) : Type 0 where
  pub square : (i j : ℕ) → i ≤ j → f.square i j ≡ pos 0

pub record IsConstant (f : Form) : Type 0 where
  pub linear : (i : ℕ) → f.linear i ≡ pos 0
  pub square : (i j : ℕ) → i ≤ j → f.square i j ≡ pos 0

-- the degrees of the factors sum to at most 2
abbrev pub DegreesFit : Form → Form → Type 0
DegreesFit f g = IsConstant f ⊎ (IsConstant g ⊎ (IsLinear f × IsLinear g))

-- n times the degree is at most 2
abbrev pub PowerFits : Form → ℕ → Type 0
PowerFits f zero = Unit {0}
PowerFits f (suc zero) = Unit {0}
PowerFits f (suc (suc zero)) = IsLinear f
PowerFits f (suc (suc (suc n))) = IsConstant f

-- ---- operations
abbrev pub form_of : ℤ → ℤ → Form
form_of n d = record { den = d; constant = n; linear = λ i. pos 0; square = λ i j. pos 0 }

abbrev pub unit_at : ℕ → ℕ → ℤ
unit_at k i = cond (nat_eq i k) (pos 1) (pos 0)

abbrev pub variable_form : ℕ → Form
variable_form k = record { den = pos 1; constant = pos 0; linear = unit_at k; square = λ i j. pos 0 }

-- k times f over m
abbrev pub scaled : ℤ → Form → ℤ → Form
scaled k f m = record { den = f.den *ℤ m; constant = k *ℤ f.constant; linear = λ i. k *ℤ f.linear i; square = λ i j. k *ℤ f.square i j }

abbrev pub negated_form : Form → Form
negated_form f = record { den = f.den; constant = neg_ℤ f.constant; linear = λ i. neg_ℤ (f.linear i); square = λ i j. neg_ℤ (f.square i j) }

abbrev pub sum_form : Form → Form → Form
sum_form f g = record {
  den = f.den *ℤ g.den;
  constant = g.den *ℤ f.constant +ℤ f.den *ℤ g.constant;
  linear = λ i. g.den *ℤ f.linear i +ℤ f.den *ℤ g.linear i;
  square = λ i j. g.den *ℤ f.square i j +ℤ f.den *ℤ g.square i j;
}

-- the coefficient of a product of variables i and j in a product of linear forms
abbrev pub crossed : (ℕ → ℤ) → (ℕ → ℤ) → ℕ → ℕ → ℤ
crossed a b i j = cond (nat_eq i j) (a i *ℤ b i) (a i *ℤ b j +ℤ a j *ℤ b i)

abbrev pub product_form : Form → Form → Form
product_form f g = record {
  den = f.den *ℤ g.den;
  constant = f.constant *ℤ g.constant;
  linear = λ i. f.constant *ℤ g.linear i +ℤ g.constant *ℤ f.linear i;
  square = λ i j. crossed f.linear g.linear i j +ℤ (f.constant *ℤ g.square i j +ℤ g.constant *ℤ f.square i j);
}

-- f over n/d, by the sign of n; where n is 0 nothing is divided
abbrev pub divided : Form → ℤ → ℤ → Form
divided f (pos zero) d = f
divided f (pos (suc n)) d = scaled d f (pos (suc n))
divided f (negsuc n) d = scaled (neg_ℤ d) f (pos (suc n))

abbrev pub quotient_form : Form → Form → Form
quotient_form f g = divided f g.constant g.den

abbrev pub power_form : Form → ℕ → Form
power_form f zero = form_of (pos 1) (pos 1)
power_form f (suc n) = product_form f (power_form f n)
