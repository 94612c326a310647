-- Degrees of coefficients.
use Rattle.std.specs.Prelude.{◌≡◌, ℕ, Option, Some, None}
use Rattle.emp_num.specs.declared.frac.Frac.{Frac}
use Rattle.emp_form.specs.Form.{Monomial}
use Rattle.emp_expand.specs.Factors.{factor}
use Rattle.emp_expand.specs.declared.coefficients.Coefficients.{Coefficients}
use Rattle.emp_expand.specs.declared.coefficients.Degree.{Degree}
use Rattle.emp_expand.specs.declared.coefficients.Degree.TheVariants.{Constant, Linear, Quadratic}

abbrev pub KeyDegree : Monomial → Degree → Type 0
KeyDegree k Constant = k ≡ (None, None)
KeyDegree k Linear = (i : ℕ) × (k ≡ (None, Some i))
KeyDegree k Quadratic = (i : ℕ) × (v : Option ℕ) × (k ≡ (Some i, v))

-- no variable has a coefficient
pub record OnlyConstant (c : Coefficients) : Type 0 where
  pub linear : (i : ℕ) → factor c (None, Some i) ≡ None
  pub square : (i : ℕ) (v : Option ℕ) → factor c (Some i, v) ≡ None

pub record OnlyLinear (c : Coefficients) : Type 0 where
  pub square : (i : ℕ) (v : Option ℕ) → factor c (Some i, v) ≡ None

abbrev pub DegreeIs : Coefficients → Degree → Type 0
DegreeIs c Constant = OnlyConstant c
DegreeIs c Linear = OnlyLinear c × ((i : ℕ) × (f : Frac) × (factor c (None, Some i) ≡ Some f))
DegreeIs c Quadratic = (i : ℕ) × (v : Option ℕ) × (f : Frac) × (factor c (Some i, v) ≡ Some f)
