-- The laws that the layers above cite, as statements.
use Rattle.std.specs.Prelude.{◌≡◌, ◌⊎◌, pos, ◌<ℤ◌, Some}
use Rattle.emp_num.specs.Ratio.{Ratio, SameRatio}
use Rattle.emp_num.specs.Point.{Point}
use Rattle.emp_num.specs.FracSpec.{AddsWide, SubtractsWide, MultipliesWide}
use Rattle.emp_num.specs.Whole.{whole}
use Rattle.emp_num.specs.declared.frac.Frac.{Frac}
use Rattle.emp_ast.specs.Expression.{Expression}
use Rattle.emp_ast.specs.Value.{value}
use Rattle.emp_form.specs.Form.{Form, form_value}
use Rattle.emp_form.specs.Expansion.{form, IsPolynomial, RootFits, HasDegree, DividesByVariable, DividesByZero}

-- at the point the expression has a value, which is that of the form
pub record HasFormValue (p : Point) (e : Expression) (f : Form) : Type 0 where
  pub number : Ratio
  pub is : value p e ≡ Some number
  pub fraction : pos 0 <ℤ number.bottom
  pub same : SameRatio number (form_value p f)

abbrev pub ValuesAreForms : Type 0
ValuesAreForms = (p : Point) (e : Expression) → IsPolynomial e → HasFormValue p e (form e)

-- a call with a fraction that is 0 is never wide
pub record ZeroMakesNoCall : Type 0 where
  pub sum : (x : Frac) → AddsWide x (whole 0) ⊎ AddsWide (whole 0) x → ⊥
  pub difference : (x : Frac) → SubtractsWide x (whole 0) ⊎ SubtractsWide (whole 0) x → ⊥
  pub product : (x : Frac) → MultipliesWide x (whole 0) ⊎ MultipliesWide (whole 0) x → ⊥

-- at one root no two of the faults by coefficients come, and none where the root fits
pub record OneFault (e : Expression) : Type 0 where
  pub degree : HasDegree e → RootFits e → ⊥
  pub by_variable : DividesByVariable e → RootFits e → ⊥
  pub by_zero : DividesByZero e → RootFits e → ⊥
  pub degree_or_variable : HasDegree e → DividesByVariable e → ⊥
  pub degree_or_zero : HasDegree e → DividesByZero e → ⊥
  pub variable_or_zero : DividesByVariable e → DividesByZero e → ⊥

abbrev pub OneFaultAtEachRoot : Type 0
OneFaultAtEachRoot = (e : Expression) → OneFault e
