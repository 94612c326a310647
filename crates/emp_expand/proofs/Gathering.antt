-- Sums and differences of polynomials, in place.
use Rattle.std.proofs.Common.{◌≡◌, Bool, true, false, Option, Some, None, Ok, Err, refl, sym, ap, subst, subst₂}
use Rattle.emp_num.specs.declared.frac.Frac.{Frac}
use Rattle.emp_ast.specs.declared.tree.Operator.TheVariants.{Plus, Minus}
use Rattle.emp_form.specs.Form.{Form, Monomial, coefficient}
use Rattle.emp_form.specs.Expansion.{JoinFits}
use Rattle.emp_form.specs.Calls.{Formula, given, added, subtracted, Gives}
use Rattle.emp_form.specs.Wide.{formula_at}
use Rattle.emp_form.proofs.Formulas.{can_join}
use Rattle.emp_expand.specs.Factors.{factor, or_zero, fractions}
use Rattle.emp_expand.specs.Stands.{StandsAt}
use Rattle.emp_expand.specs.Steps.{Ends, EndsWide, StepAt, StepIsWide, GathersTo}
use Rattle.emp_expand.specs.Joins.{OfPart, NodeJoined}
use Rattle.emp_expand.specs.Expanding.{operator_of, SumGives}
use Rattle.emp_expand.specs.declared.coefficients.Coefficients.{Coefficients}
use Rattle.emp_expand.specs.declared.sums.PartFault.{PartFault}
use Rattle.emp_expand.specs.declared.sums.PartFault.TheVariants.{NoMemory as PartNoMemory, Wide as PartWide}
use Rattle.emp_expand.specs.declared.products.NodeFault.{NodeFault}
use Rattle.emp_expand.proofs.Standing.{added_zero, subtracted_zero, stays_ends, joined_stands, joined_wide}

sum_fits : (minus : Bool) (f g : Form) → JoinFits (operator_of minus) f g
sum_fits false f g = tt
sum_fits true f g = tt

-- the step is the formula's
step_ends : (minus : Bool) (a b : Coefficients) (q : Monomial) (o p r : Option Frac) (z : Form) → factor a q ≡ o → factor b q ≡ p → StandsAt o (coefficient z q.0 q.1) z.den → StepAt minus o p r → Ends (formula_at (operator_of minus) (fractions a) (fractions b) q) r
step_ends false a b q o None r z e n h s =
    let g = added_zero (fractions a q) (fractions b q) (ap or_zero n) in
    subst (λ r. Ends (formula_at Plus (fractions a) (fractions b) q) r) (sym s) (stays_ends (formula_at Plus (fractions a) (fractions b) q) o (coefficient z q.0 q.1) z.den h g.0 (subst (λ o. g_at o) e g.1))
  where
    g_at : Option Frac → Type 0
    g_at o = Gives (formula_at Plus (fractions a) (fractions b) q) (or_zero o)
step_ends true a b q o None r z e n h s =
    let g = subtracted_zero (fractions a q) (fractions b q) (ap or_zero n) in
    subst (λ r. Ends (formula_at Minus (fractions a) (fractions b) q) r) (sym s) (stays_ends (formula_at Minus (fractions a) (fractions b) q) o (coefficient z q.0 q.1) z.den h g.0 (subst (λ o. g_at o) e g.1))
  where
    g_at : Option Frac → Type 0
    g_at o = Gives (formula_at Minus (fractions a) (fractions b) q) (or_zero o)
step_ends false a b q o (Some x) r z e n h s = subst₂ (λ o p. Ends (formula_of o p) r) (sym e) (sym n) s
  where
    formula_of : Option Frac → Option Frac → Formula
    formula_of o p = added (given (or_zero o)) (given (or_zero p))
step_ends true a b q o (Some x) r z e n h s = subst₂ (λ o p. Ends (formula_of o p) r) (sym e) (sym n) s
  where
    formula_of : Option Frac → Option Frac → Formula
    formula_of o p = subtracted (given (or_zero o)) (given (or_zero p))

step_wide : (minus : Bool) (a b : Coefficients) (q : Monomial) (p : Option Frac) → factor b q ≡ p → StepIsWide minus (factor a q) p → EndsWide (formula_at (operator_of minus) (fractions a) (fractions b) q)
step_wide minus a b q None e w = absurd w
step_wide false a b q (Some x) e w = subst (λ p. EndsWide (formula_of p)) (sym e) w
  where
    formula_of : Option Frac → Formula
    formula_of p = added (given (fractions a q)) (given (or_zero p))
step_wide true a b q (Some x) e w = subst (λ p. EndsWide (formula_of p)) (sym e) w
  where
    formula_of : Option Frac → Formula
    formula_of p = subtracted (given (fractions a q)) (given (or_zero p))

pub sum_ok : (minus : Bool) (a b r : Coefficients) → ((q : Monomial) → StepAt minus (factor a q) (factor b q) (factor r q)) → SumGives minus a b (Ok r)
sum_ok minus a b r steps f g h k =
    let j = joined_stands (operator_of minus) a b r f g h k (can_join (operator_of minus) f g (sum_fits minus f g)) (λ q. step_ends minus a b q (factor a q) (factor b q) (factor r q) f refl refl (h.at q) (steps q)) in
    (j.0, sum_fits minus f g, j.1)

pub sum_err : (minus : Bool) (a b r : Coefficients) (p : PartFault) (n : NodeFault) → GathersTo {U = Unit {0}} minus a b (Err p) r → OfPart p n → SumGives minus a b (Err n)
sum_err minus a b r PartNoMemory n w e f g h k = subst (λ n. NodeJoined (operator_of minus) f g (Err n)) (sym e) tt
sum_err minus a b r PartWide n w e f g h k =
    subst (λ n. NodeJoined (operator_of minus) f g (Err n)) (sym e) (sum_fits minus f g, joined_wide (operator_of minus) a b f g h k (can_join (operator_of minus) f g (sum_fits minus f g)) w.0 (step_wide minus a b w.0 (factor b w.0) refl w.1))
