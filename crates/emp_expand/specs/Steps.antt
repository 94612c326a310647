-- What the steps on coefficients give. `None` stands for a coefficient that is 0.
use Rattle.std.specs.Prelude.{◌≡◌, ◌≢◌, ◌⊎◌, pos, Bool, true, false, Option, Some, None, Result, Ok, Err}
use Rattle.emp_num.specs.declared.exact.Wide.{Wide as TheWide}
use Rattle.emp_num.specs.declared.frac.Frac.{Frac}
use Rattle.emp_form.specs.Form.{Monomial}
use Rattle.emp_form.specs.Calls.{Formula, given, added, subtracted, Gives, HasWideCall}
use Rattle.emp_form.specs.Wide.{IsLarge}
use Rattle.emp_expand.specs.Factors.{factor, or_zero}
use Rattle.emp_expand.specs.Stands.{IsSmall}
use Rattle.emp_expand.specs.declared.coefficients.Coefficients.{Coefficients}
use Rattle.emp_expand.specs.declared.sums.PartFault.{PartFault}
use Rattle.emp_expand.specs.declared.sums.PartFault.TheVariants.{NoMemory, Wide}

abbrev pub Finishes : Frac → Result (Option Frac) TheWide → Type 0
Finishes f (Ok None) = f.num ≡ pos 0
Finishes f (Ok (Some r)) = (r ≡ f) × (f.num ≢ pos 0) × IsSmall f
Finishes f (Err w) = IsLarge f

abbrev pub sum_of : Bool → Frac → Frac → Formula
sum_of false x y = added (given x) (given y)
sum_of true x y = subtracted (given x) (given y)

-- the finished result of a formula
abbrev pub Ends : Formula → Option Frac → Type 0
Ends s o = (v : Frac) × Gives s v × (HasWideCall s → ⊥) × Finishes v (Ok o)

-- a call is wide, or the result is large
abbrev pub EndsWide : Formula → Type 0
EndsWide s = HasWideCall s ⊎ ((v : Frac) × Gives s v × IsLarge v)

-- ---- one coefficient
abbrev pub StepAt : Bool → Option Frac → Option Frac → Option Frac → Type 0
StepAt minus o None r = r ≡ o
StepAt minus o (Some g) r = Ends (sum_of minus (or_zero o) g) r

abbrev pub StepIsWide : Bool → Option Frac → Option Frac → Type 0
StepIsWide minus o None = ⊥
StepIsWide minus o (Some g) = EndsWide (sum_of minus (or_zero o) g)

abbrev pub StepGives : Bool → Option Frac → Option Frac → Result (Option Frac) TheWide → Type 0
StepGives minus o p (Ok r) = StepAt minus o p r
StepGives minus o p (Err w) = StepIsWide minus o p

-- ---- all coefficients
abbrev pub GathersTo : {U : Type 0} → Bool → Coefficients → Coefficients → Result U PartFault → Coefficients → Type 0
GathersTo minus a b (Ok u) r = (q : Monomial) → StepAt minus (factor a q) (factor b q) (factor r q)
GathersTo minus a b (Err Wide) r = (q : Monomial) × StepIsWide minus (factor a q) (factor b q)
GathersTo minus a b (Err NoMemory) r = Unit {0}
