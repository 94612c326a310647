-- Coefficients that stand for a form.
use Rattle.std.specs.Prelude.{◌≡◌, ◌≢◌, ◌<◌, ◌^◌, ℤ, pos, ◌*ℤ◌, ◌<ℤ◌, Option, Some, None, unsigned_abs}
use Rattle.emp_num.specs.declared.frac.Frac.{Frac}
use Rattle.emp_form.specs.Form.{Form, Monomial, coefficient}
use Rattle.emp_expand.specs.Factors.{factor}
use Rattle.emp_expand.specs.declared.coefficients.Coefficients.{Coefficients}

-- its numbers are below 2^62
abbrev pub IsSmall : Frac → Type 0
IsSmall f = (unsigned_abs f.num < 2 ^ 62) × (unsigned_abs f.den < 2 ^ 62)

-- the fraction is z over d, not 0, and not large
abbrev pub StandsAt : Option Frac → ℤ → ℤ → Type 0
StandsAt None z d = z ≡ pos 0
StandsAt (Some f) z d = (f.num *ℤ d ≡ z *ℤ f.den) × (f.num ≢ pos 0) × IsSmall f

pub record Stands (c : Coefficients) (f : Form) : Type 0 where
  pub den : pos 0 <ℤ f.den
  pub at : (q : Monomial) → StandsAt (factor c q) (coefficient f q.0 q.1) f.den
