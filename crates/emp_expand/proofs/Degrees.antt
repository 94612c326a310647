-- Degrees of coefficients and those of forms.
use Rattle.std.proofs.Common.{◌≡◌, ◌≢◌, inl, inr, ℕ, ◌≤◌, ℤ, pos, ◌*ℤ◌, Bool, true, false, cond, Option, Some, None, arith, refl, sym, ap, subst, ◌∙◌}
use Rattle.std.specs.Prelude.{nat_lt}
use lib.IntN.{zero-*ℤ}
use borrow.Author.Tests.{ltb-false}
use Rattle.emp_algebra.proofs.Order.{cancel_right}
use Rattle.emp_num.specs.declared.frac.Frac.{Frac}
use Rattle.emp_form.specs.Form.{Form, coefficient, IsConstant, IsLinear, DegreesFit}
use Rattle.emp_expand.specs.Factors.{factor}
use Rattle.emp_expand.specs.Stands.{StandsAt, Stands}
use Rattle.emp_expand.specs.Degrees.{OnlyConstant, OnlyLinear, DegreeIs}
use Rattle.emp_expand.specs.declared.coefficients.Coefficients.{Coefficients}
use Rattle.emp_expand.specs.declared.coefficients.Degree.TheVariants.{Constant, Linear, Quadratic}

none_is_zero : (o : Option Frac) (z d : ℤ) → StandsAt o z d → o ≡ None → z ≡ pos 0
none_is_zero o z d h e = subst (λ o. StandsAt o z d) e h

pub not_before : (i j : ℕ) → i ≤ j → nat_lt j i ≡ false
not_before i j h = grind arith

square_zero : (c : Coefficients) (f : Form) (i j : ℕ) → Stands c f → factor c (Some i, Some j) ≡ None → i ≤ j → f.square i j ≡ pos 0
square_zero c f i j h e l = sym (ap (λ t. cond t (pos 0) (f.square i j)) (not_before i j l)) ∙ none_is_zero (factor c (Some i, Some j)) (coefficient f (Some i) (Some j)) f.den (h.at (Some i, Some j)) e

pub constant_form : (c : Coefficients) (f : Form) → Stands c f → OnlyConstant c → IsConstant f
constant_form c f h o = record {
  linear = λ i. none_is_zero (factor c (None, Some i)) (f.linear i) f.den (h.at (None, Some i)) (o.linear i);
  square = λ i j l. square_zero c f i j h (o.square i (Some j)) l;
}

pub linear_form : (c : Coefficients) (f : Form) → Stands c f → OnlyLinear c → IsLinear f
linear_form c f h o = record { square = λ i j l. square_zero c f i j h (o.square i (Some j)) l }

-- ---- what is not constant, or not linear
some_linear : (c : Coefficients) (f : Form) (i : ℕ) (g : Frac) → Stands c f → factor c (None, Some i) ≡ Some g → f.linear i ≢ pos 0
some_linear c f i g h e z =
    let s : StandsAt (Some g) (f.linear i) f.den = subst (λ o. StandsAt o (f.linear i) f.den) e (h.at (None, Some i)) in
    s.1 (cancel_right g.num (pos 0) f.den (s.0 ∙ (ap (λ y. y *ℤ g.den) z ∙ (zero-*ℤ g.den ∙ sym (zero-*ℤ f.den)))) h.den)

pub not_constant : (c : Coefficients) (f : Form) (i : ℕ) (g : Frac) → Stands c f → factor c (None, Some i) ≡ Some g → IsConstant f → ⊥
not_constant c f i g h e k = some_linear c f i g h e (k.linear i)

pub not_linear : (c : Coefficients) (f : Form) (i : ℕ) (v : Option ℕ) (g : Frac) → Stands c f → factor c (Some i, v) ≡ Some g → IsLinear f → ⊥
not_linear c f i v g h e k = at_second v (subst (λ o. StandsAt o (coefficient f (Some i) v) f.den) e (h.at (Some i, v)))
  where
    zero_none : (z : ℤ) → z ≡ pos 0 → StandsAt (Some g) z f.den → ⊥
    zero_none z e s = s.1 (cancel_right g.num (pos 0) f.den (s.0 ∙ (ap (λ y. y *ℤ g.den) e ∙ (zero-*ℤ g.den ∙ sym (zero-*ℤ f.den)))) h.den)

    tested : (i j : ℕ) (t : Bool) → nat_lt j i ≡ t → cond t (pos 0) (f.square i j) ≡ pos 0
    tested i j true e = refl
    tested i j false e = k.square i j (ltb-false j i e)

    at_second : (v : Option ℕ) → StandsAt (Some g) (coefficient f (Some i) v) f.den → ⊥
    at_second None s = zero_none (pos 0) refl s
    at_second (Some j) s = zero_none (cond (nat_lt j i) (pos 0) (f.square i j)) (tested i j (nat_lt j i) refl) s

pub constant_linear : (f : Form) → IsConstant f → IsLinear f
constant_linear f h = record { square = h.square }

-- ---- products
pub fit_left : (a b : Coefficients) → DegreeIs a Constant → (f g : Form) → Stands a f → Stands b g → DegreesFit f g
fit_left a b d f g h k = inl (constant_form a f h d)

pub fit_right : (a b : Coefficients) → DegreeIs b Constant → (f g : Form) → Stands a f → Stands b g → DegreesFit f g
fit_right a b d f g h k = inr (inl (constant_form b g k d))

pub fit_both : (a b : Coefficients) → DegreeIs a Linear → DegreeIs b Linear → (f g : Form) → Stands a f → Stands b g → DegreesFit f g
fit_both a b d e f g h k = inr (inr (linear_form a f h d.0, linear_form b g k e.0))

pub apart_left : (a b : Coefficients) → DegreeIs a Linear → DegreeIs b Quadratic → (f g : Form) → Stands a f → Stands b g → DegreesFit f g → ⊥
apart_left a b d e f g h k (inl c) = not_constant a f d.1.0 d.1.1 h d.1.2 c
apart_left a b d e f g h k (inr (inl c)) = not_linear b g e.0 e.1 e.2 k e.3 (constant_linear g c)
apart_left a b d e f g h k (inr (inr c)) = not_linear b g e.0 e.1 e.2 k e.3 c.1

pub apart_right : (a b : Coefficients) → DegreeIs a Quadratic → DegreeIs b Linear → (f g : Form) → Stands a f → Stands b g → DegreesFit f g → ⊥
apart_right a b d e f g h k (inl c) = not_linear a f d.0 d.1 d.2 h d.3 (constant_linear f c)
apart_right a b d e f g h k (inr (inl c)) = not_constant b g e.1.0 e.1.1 k e.1.2 c
apart_right a b d e f g h k (inr (inr c)) = not_linear a f d.0 d.1 d.2 h d.3 c.0

pub apart_both : (a b : Coefficients) → DegreeIs a Quadratic → DegreeIs b Quadratic → (f g : Form) → Stands a f → Stands b g → DegreesFit f g → ⊥
apart_both a b d e f g h k (inl c) = not_linear a f d.0 d.1 d.2 h d.3 (constant_linear f c)
apart_both a b d e f g h k (inr (inl c)) = not_linear b g e.0 e.1 e.2 k e.3 (constant_linear g c)
apart_both a b d e f g h k (inr (inr c)) = not_linear a f d.0 d.1 d.2 h d.3 c.0
