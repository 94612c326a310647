-- Powers of constants and of polynomials.
use Rattle.std.specs.Prelude.{ℕ, ◌⊎◌, pos, ◌<ℤ◌, Result, Ok, Err}
use Rattle.emp_num.specs.FracSpec.{IsQuotient}
use Rattle.emp_num.specs.declared.exact.Wide.{Wide as TheWide}
use Rattle.emp_num.specs.declared.frac.Frac.{Frac}
use Rattle.emp_form.specs.Form.{Form, power_form, PowerFits, IsConstant}
use Rattle.emp_form.specs.Wide.{PowerIsWide, HasLarge}
use Rattle.emp_expand.specs.Stands.{Stands}
use Rattle.emp_expand.specs.declared.coefficients.Coefficients.{Coefficients}
use Rattle.emp_expand.specs.declared.sums.PartFault.{PartFault}
use Rattle.emp_expand.specs.declared.sums.PartFault.TheVariants.{NoMemory as PartNoMemory, Wide as PartWide}
use Rattle.emp_expand.specs.declared.products.NodeFault.{NodeFault}
use Rattle.emp_expand.specs.declared.products.NodeFault.TheVariants.{NoMemory, Degree, DivideByVariable, DivideByZero, Wide}

-- a number as a polynomial, whatever constant form it is
abbrev pub ConstantOf : Form → Result Coefficients PartFault → Type 0
ConstantOf f (Ok r) = Stands r f × (HasLarge f → ⊥)
ConstantOf f (Err PartWide) = HasLarge f
ConstantOf f (Err PartNoMemory) = Unit {0}

-- the constant form's number is v
pub record IsNumber (v : Frac) (f : Form) : Type 0 where
  pub den : pos 0 <ℤ f.den
  pub only : IsConstant f
  pub same : IsQuotient v f.constant f.den

abbrev pub ConstantGives : Frac → Result Coefficients PartFault → Type 0
ConstantGives v r = (f : Form) → IsNumber v f → ConstantOf f r

-- the power of a number
abbrev pub PowerOf : Form → ℕ → Result Frac TheWide → Type 0
PowerOf f n (Ok r) = IsNumber r (power_form f n) × (PowerIsWide f n → ⊥)
PowerOf f n (Err w) = PowerIsWide f n

abbrev pub PowerRuns : Frac → ℕ → Result Frac TheWide → Type 0
PowerRuns v n r = (f : Form) → IsNumber v f → PowerOf f n r

abbrev pub PowerEndsWide : Form → ℕ → Type 0
PowerEndsWide f n = PowerIsWide f n ⊎ HasLarge (power_form f n)

abbrev pub Raised : Form → ℕ → Result Coefficients PartFault → Type 0
Raised f n (Ok r) = Stands r (power_form f n) × (PowerEndsWide f n → ⊥)
Raised f n (Err PartWide) = PowerEndsWide f n
Raised f n (Err PartNoMemory) = Unit {0}

abbrev pub NodeRaised : Form → ℕ → Result Coefficients NodeFault → Type 0
NodeRaised f n (Ok r) = Stands r (power_form f n) × PowerFits f n × (PowerEndsWide f n → ⊥)
NodeRaised f n (Err NoMemory) = Unit {0}
NodeRaised f n (Err Degree) = PowerFits f n → ⊥
NodeRaised f n (Err DivideByVariable) = ⊥
NodeRaised f n (Err DivideByZero) = ⊥
NodeRaised f n (Err Wide) = PowerFits f n × PowerEndsWide f n

abbrev pub PowerGives : Coefficients → ℕ → Result Coefficients NodeFault → Type 0
PowerGives a n r = (f : Form) → Stands a f → NodeRaised f n r
