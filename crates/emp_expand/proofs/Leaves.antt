-- Numbers, variables and opposites as polynomials.
use Rattle.std.proofs.Common.{◌≡◌, ◌≢◌, ◌⊎◌, inl, inr, ℕ, ℤ, pos, ◌+ℤ◌, ◌*ℤ◌, Bool, true, false, cond, [], ◌∷◌, Option, Some, None, Result, Ok, Err, arith, refl, sym, ap, subst, subst₂, ◌∙◌}
use Rattle.std.specs.Prelude.{nat_lt, nat_eq}
use Rattle.std.proofs.lemmas.Int.{ints}
use Rattle.emp_algebra.proofs.Ring.{var, lit, ◌⊕◌, ◌⊗◌, by_ring}
use Rattle.emp_num.specs.FracSpec.{IsQuotient, SubtractsWide}
use Rattle.emp_num.specs.Whole.{whole}
use Rattle.emp_num.specs.declared.frac.Frac.{Frac}
use Rattle.emp_num.proofs.FracOrder.{one_value}
use Rattle.emp_ast.specs.declared.tree.Operator.TheVariants.{Minus}
use Rattle.emp_ast.specs.Expression.{Expression, number, variable, negated}
use Rattle.emp_form.specs.Form.{Form, Monomial, coefficient, form_of, unit_at, variable_form, negated_form, sum_form}
use Rattle.emp_form.specs.Expansion.{form}
use Rattle.emp_form.specs.Calls.{given, subtracted, HasWideCall}
use Rattle.emp_form.specs.Wide.{JoinIsWide, HasLarge}
use Rattle.emp_form.proofs.Formulas.{coefficient-sum, is_zero}
use Rattle.emp_form.proofs.Vanishing.{zero_makes_no_call}
use Rattle.emp_expand.specs.Factors.{factor}
use Rattle.emp_expand.specs.Stands.{StandsAt, Stands}
use Rattle.emp_expand.specs.Joins.{Kept, NodeJoined}
use Rattle.emp_expand.specs.Powers.{ConstantOf, IsNumber, ConstantGives}
use Rattle.emp_expand.specs.Expanding.{RootGives, SumGives}
use Rattle.emp_expand.specs.declared.coefficients.Coefficients.{Coefficients}
use Rattle.emp_expand.specs.declared.sums.PartFault.{PartFault}
use Rattle.emp_expand.specs.declared.sums.PartFault.TheVariants.{NoMemory as PartNoMemory, Wide as PartWide}
use Rattle.emp_expand.specs.declared.products.NodeFault.{NodeFault}
use Rattle.emp_expand.specs.declared.products.NodeFault.TheVariants.{NoMemory, Degree, DivideByVariable, DivideByZero, Wide}
use Rattle.emp_expand.proofs.Keys.{key_cases}
use Rattle.emp_expand.proofs.Standing.{stands_small}
use Rattle.emp_expand.proofs.Powering.{stands_same}

-- ---- numbers
number_of : (v : Frac) → IsNumber v (form_of v.num v.den)
number_of v = record { den = v.positive; only = record { linear = λ i. refl; square = λ i j l. refl }; same = refl }

number_root : (v : Frac) (r : Result Coefficients PartFault) (m : Result Coefficients NodeFault) → Kept r m → ConstantOf (form_of v.num v.den) r → RootGives (number v) m
number_root v (Ok r) (Ok m) e c = subst (λ m. RootGives (number v) (Ok m)) (sym e) (c.0, (tt, c.1))
number_root v (Ok r) (Err n) e c = absurd e
number_root v (Err p) (Ok m) e c = absurd e
number_root v (Err PartWide) (Err n) e c = subst (λ n. RootGives (number v) (Err n)) (sym e) (tt, c)
number_root v (Err PartNoMemory) (Err n) e c = subst (λ n. RootGives (number v) (Err n)) (sym e) tt

pub number_gives : (v : Frac) (r : Result Coefficients PartFault) (m : Result Coefficients NodeFault) → Kept r m → ConstantGives v r → RootGives (number v) m
number_gives v r m e c = number_root v r m e (c (form_of v.num v.den) (number_of v))

-- ---- variables
same_number : (k : ℕ) → nat_eq k k ≡ true
same_number k = grind arith

other_number : (i k : ℕ) → i ≢ k → nat_eq i k ≡ false
other_number i k h = grind arith

abbrev single : ℕ → Monomial
single k = (None, Some k)

number_cases : (i k : ℕ) → (i ≡ k) ⊎ (i ≢ k)
number_cases i k = grind arith

variable_others : (k : ℕ) (u v : Option ℕ) → (u ≡ None → v ≡ Some k → ⊥) → coefficient (variable_form k) u v ≡ pos 0
variable_others k None None ne = refl
variable_others k None (Some i) ne = go (number_cases i k)
  where
    go : (i ≡ k) ⊎ (i ≢ k) → unit_at k i ≡ pos 0
    go (inl e) = absurd (ne refl (ap (λ (j : ℕ). Some j) e))
    go (inr h) = ap (λ t. cond t (pos 1) (pos 0)) (other_number i k h)
variable_others k (Some i) None ne = refl
variable_others k (Some i) (Some j) ne = go (nat_lt j i)
  where
    go : (t : Bool) → cond t (pos 0) (pos 0) ≡ pos 0
    go true = refl
    go false = refl

one_stands : (z : ℤ) → z ≡ pos 1 → StandsAt (Some (whole 1)) z (pos 1)
one_stands z e = subst (λ z. StandsAt (Some (whole 1)) z (pos 1)) (sym e) (refl, (λ h. cc), (omega arith, omega arith))

pub variable_stands : (c d : Coefficients) (k : ℕ) (one : Frac) → IsQuotient one (pos 1) (pos 1) → ((q : Monomial) → factor c q ≡ None) → factor d (single k) ≡ Some one → ((q : Monomial) → q ≢ single k → factor d q ≡ factor c q) → Stands d (variable_form k)
variable_stands c d k one is empty here others = record { den = omega (arith, ints); at = λ q. go q (key_cases (single k) q) }
  where
    is_one : one ≡ whole 1
    is_one = one_value (pos 1) (pos 1) one (whole 1) (omega (arith, ints)) is refl

    at_key : StandsAt (factor d (single k)) (unit_at k k) (pos 1)
    at_key = subst (λ o. StandsAt o (unit_at k k) (pos 1)) (sym (here ∙ ap (λ (x : Frac). Some x) is_one)) (one_stands (unit_at k k) (ap (λ t. cond t (pos 1) (pos 0)) (same_number k)))

    go : (q : Monomial) → (q ≡ single k) ⊎ (q ≢ single k) → StandsAt (factor d q) (coefficient (variable_form k) q.0 q.1) (pos 1)
    go q (inl e) = subst (λ (q : Monomial). StandsAt (factor d q) (coefficient (variable_form k) q.0 q.1) (pos 1)) (sym e) at_key
    go q (inr ne) = subst (λ o. StandsAt o (coefficient (variable_form k) q.0 q.1) (pos 1)) (sym (others q ne ∙ empty q)) (variable_others k q.0 q.1 (λ a b. ne (λ i. (a i, b i))))

pub variable_gives : (c d : Coefficients) (k : ℕ) (one : Frac) → IsQuotient one (pos 1) (pos 1) → ((q : Monomial) → factor c q ≡ None) → factor d (single k) ≡ Some one → ((q : Monomial) → q ≢ single k → factor d q ≡ factor c q) → RootGives (variable k) (Ok d)
variable_gives c d k one is empty here others =
    let s = variable_stands c d k one is empty here others in
    (s, (tt, stands_small d (variable_form k) s))

-- ---- opposites
abbrev zero_form : Form
zero_form = form_of (pos 0) (pos 1)

zero_coefficient : (u v : Option ℕ) → coefficient zero_form u v ≡ pos 0
zero_coefficient None None = refl
zero_coefficient None (Some i) = refl
zero_coefficient (Some i) None = refl
zero_coefficient (Some i) (Some j) = go (nat_lt j i)
  where
    go : (t : Bool) → cond t (pos 0) (pos 0) ≡ pos 0
    go true = refl
    go false = refl

stands_zero : (c : Coefficients) → ((q : Monomial) → factor c q ≡ None) → Stands c zero_form
stands_zero c h = record {
  den = omega (arith, ints);
  at = λ q. subst (λ o. StandsAt o (coefficient zero_form q.0 q.1) (pos 1)) (sym (h q)) (zero_coefficient q.0 q.1);
}

one_times : (z : ℤ) → pos 1 *ℤ z ≡ z
one_times z = by_ring (z ∷ []) (lit (pos 1) ⊗ var 0) (var 0) refl

opposite_coefficient : (g : Form) (u v : Option ℕ) → coefficient (sum_form zero_form (negated_form g)) u v ≡ coefficient (negated_form g) u v
opposite_coefficient g u v =
    coefficient-sum zero_form (negated_form g) u v ∙ (ap (λ z. g.den *ℤ z +ℤ pos 1 *ℤ coefficient (negated_form g) u v) (zero_coefficient u v) ∙ by_ring (g.den ∷ coefficient (negated_form g) u v ∷ []) (var 0 ⊗ lit (pos 0) ⊕ lit (pos 1) ⊗ var 1) (var 1) refl)

no_call : (g : Form) → JoinIsWide Minus zero_form g → ⊥
no_call g w = go w.4.1
  where
    zero_at : w.0 w.4.0 ≡ whole 0
    zero_at = one_value (coefficient zero_form w.4.0.0 w.4.0.1) (pos 1) (w.0 w.4.0) (whole 0) (omega (arith, ints)) (w.2 w.4.0) (is_zero (coefficient zero_form w.4.0.0 w.4.0.1) (pos 1) (zero_coefficient w.4.0.0 w.4.0.1))

    go : HasWideCall (subtracted (given (w.0 w.4.0)) (given (w.1 w.4.0))) → ⊥
    go (inl c) = c
    go (inr (inl c)) = c
    go (inr (inr c)) = zero_makes_no_call.difference c.1 (inr (subst (λ (x : Frac). SubtractsWide x c.1) (c.2 ∙ zero_at) c.4))

large_opposite : (g : Form) → HasLarge (sum_form zero_form (negated_form g)) → HasLarge (negated_form g)
large_opposite g w = (w.0, w.1, subst₂ (λ z d. IsQuotient w.1 z d) (opposite_coefficient g w.0.0 w.0.1) (one_times g.den) w.2, w.3)

negated_root : (e : Expression) (m : Result Coefficients NodeFault) → NodeJoined Minus zero_form (form e) m → RootGives (negated e) m
negated_root e (Ok c) h = (s, (tt, stands_small c (negated_form (form e)) s))
  where
    s : Stands c (negated_form (form e))
    s = stands_same c (sum_form zero_form (negated_form (form e))) (negated_form (form e)) (one_times (form e).den) (opposite_coefficient (form e)) h.0
negated_root e (Err NoMemory) h = tt
negated_root e (Err Degree) h = h
negated_root e (Err DivideByVariable) h = h
negated_root e (Err DivideByZero) h = h
negated_root e (Err Wide) h = (tt, go h.1)
  where
    go : JoinIsWide Minus zero_form (form e) ⊎ HasLarge (sum_form zero_form (negated_form (form e))) → HasLarge (negated_form (form e))
    go (inl w) = absurd (no_call (form e) w)
    go (inr w) = large_opposite (form e) w

pub negated_gives : (c a : Coefficients) (m : Result Coefficients NodeFault) → ((q : Monomial) → factor c q ≡ None) → SumGives true c a m → (e : Expression) → Stands a (form e) → RootGives (negated e) m
negated_gives c a m empty s e h = negated_root e m (s zero_form (form e) (stands_zero c empty) h)
