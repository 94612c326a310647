-- When a node is wide: a call on the coefficients of its operands is wide, or a coefficient of its polynomial has a numerator
-- or a denominator of absolute value 2^62 or more.
--
-- Coefficients are fractions in lowest terms, one for each product of variables, 0 where there is none. A call with a
-- fraction that is 0 is never wide (`ZeroMakesNoCall`), so it makes no difference whether it is made.
use Rattle.std.specs.Prelude.{◌⊎◌, ℕ, zero, suc, ◌≤◌, ◌^◌, cond, nat_eq, nat_lt, Option, Some, None, unsigned_abs}
use Rattle.emp_num.specs.FracSpec.{IsQuotient}
use Rattle.emp_num.specs.Whole.{whole}
use Rattle.emp_num.specs.declared.frac.Frac.{Frac}
use Rattle.emp_ast.specs.declared.tree.Operator.{Operator}
use Rattle.emp_ast.specs.declared.tree.Operator.TheVariants.{Plus, Minus, Times, Over}
use Rattle.emp_ast.specs.Expression.{Expression, number, variable, negated, joined, power}
use Rattle.emp_form.specs.Form.{Form, Monomial, coefficient, power_form}
use Rattle.emp_form.specs.Expansion.{form, RootFits}
use Rattle.emp_form.specs.Calls.{Formula, given, added, subtracted, multiplied, divided, HasWideCall}

-- one fraction for each product of variables
abbrev pub Fractions : Type 0
Fractions = Monomial → Frac

-- they are the form's coefficients
abbrev pub HasFractions : Fractions → Form → Type 0
HasFractions a f = (q : Monomial) → IsQuotient (a q) (coefficient f q.0 q.1) f.den

-- ---- how a coefficient is found
abbrev pub product : Fractions → Monomial → Fractions → Monomial → Formula
product a p b q = multiplied (given (a p)) (given (b q))

-- of the product of variables i and j
abbrev pub cross_at : Fractions → Fractions → ℕ → ℕ → Formula
cross_at a b i j = cond (nat_eq i j)
    (product a (None, Some i) b (None, Some i))
    (added (product a (None, Some i) b (None, Some j)) (product a (None, Some j) b (None, Some i)))

abbrev pub scaled_at : Fractions → Fractions → ℕ → ℕ → Formula
scaled_at a b i j = added (product a (None, None) b (Some i, Some j)) (product a (Some i, Some j) b (None, None))

abbrev pub square_at : Fractions → Fractions → ℕ → ℕ → Formula
square_at a b i j = added (cross_at a b i j) (scaled_at a b i j)

-- in a product of a and b, from the constants a0 and b0: the constant is a0*b0; that of variable i is a0*b_i + a_i*b0; that of
-- its square is a_i*b_i + (a0*b_ii + a_ii*b0); that of variables i and j is (a_i*b_j + a_j*b_i) + (a0*b_ij + a_ij*b0)
abbrev pub product_at : Fractions → Fractions → Option ℕ → Option ℕ → Formula
product_at a b None None = product a (None, None) b (None, None)
product_at a b None (Some i) = added (product a (None, None) b (None, Some i)) (product a (None, Some i) b (None, None))
product_at a b (Some i) None = given (whole 0)
product_at a b (Some i) (Some j) = cond (nat_lt j i) (given (whole 0)) (square_at a b i j)

abbrev pub formula_at : Operator → Fractions → Fractions → Monomial → Formula
formula_at Plus a b q = added (given (a q)) (given (b q))
formula_at Minus a b q = subtracted (given (a q)) (given (b q))
formula_at Times a b q = product_at a b q.0 q.1
formula_at Over a b q = divided (given (a q)) (given (b (None, None)))

-- ---- wide calls
-- some coefficient has a wide call
abbrev pub JoinIsWide : Operator → Form → Form → Type 0
JoinIsWide op f g = (a : Fractions) × (b : Fractions) × HasFractions a f × HasFractions b g × ((q : Monomial) × HasWideCall (formula_at op a b q))

-- the n-fold product from the left: no call for n up to 1, then each power times the base
abbrev pub PowerIsWide : Form → ℕ → Type 0
PowerIsWide f zero = ⊥
PowerIsWide f (suc zero) = ⊥
PowerIsWide f (suc (suc n)) = PowerIsWide f (suc n) ⊎ JoinIsWide Times (power_form f (suc n)) f

-- ---- large coefficients
abbrev pub IsLarge : Frac → Type 0
IsLarge f = (2 ^ 62 ≤ unsigned_abs f.num) ⊎ (2 ^ 62 ≤ unsigned_abs f.den)

-- some finished coefficient is large
abbrev pub HasLarge : Form → Type 0
HasLarge f = (q : Monomial) × (r : Frac) × IsQuotient r (coefficient f q.0 q.1) f.den × IsLarge r

-- ---- the root of an expression is wide
abbrev pub IsWide : Expression → Type 0
IsWide (number f) = HasLarge (form (number f))
IsWide (variable k) = HasLarge (form (variable k))
IsWide (negated e) = HasLarge (form (negated e))
IsWide (joined op e f) = JoinIsWide op (form e) (form f) ⊎ HasLarge (form (joined op e f))
IsWide (power e n) = PowerIsWide (form e) n ⊎ HasLarge (form (power e n))

-- the root has no fault
abbrev pub IsFree : Expression → Type 0
IsFree e = RootFits e × (IsWide e → ⊥)
