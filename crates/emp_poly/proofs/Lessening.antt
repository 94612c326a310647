-- Differences of coefficients that are small are those of the forms, and none is wide.
use Rattle.std.proofs.Common.{◌≡◌, ◌≢◌, inl, inr, ◌<◌, ◌≤◌, ◌^◌, ℤ, pos, ◌-ℤ◌, ◌*ℤ◌, unsigned_abs, Option, Some, None, arith, refl, sym, subst, ◌∙◌}
use Rattle.std.proofs.lemmas.Int.{ints, unsigned_abs-mul}
use Rattle.std.proofs.Math.Nat.{mul-le-mul}
use Rattle.emp_algebra.proofs.Laws.{mul_pos}
use Rattle.emp_num.specs.Exact.{IsWide}
use Rattle.emp_num.specs.FracSpec.{IsQuotient, SubtractsWide}
use Rattle.emp_num.specs.Whole.{whole}
use Rattle.emp_num.specs.declared.frac.Frac.{Frac}
use Rattle.emp_ast.specs.declared.tree.Operator.TheVariants.{Minus}
use Rattle.emp_form.specs.Form.{Form}
use Rattle.emp_form.specs.Expansion.{joined_form}
use Rattle.emp_form.specs.Calls.{given, subtracted, Gives}
use Rattle.emp_form.proofs.Formulas.{formula_is}
use Rattle.emp_expand.specs.Factors.{factor, or_zero, fractions}
use Rattle.emp_expand.specs.declared.coefficients.Coefficients.{Coefficients}
use Rattle.emp_expand.specs.Stands.{IsSmall}
use Rattle.emp_expand.proofs.Standing.{subtracted_zero}
use Rattle.emp_expand.proofs.Moving.{Moved}
use Rattle.emp_poly.specs.Difference.{IsDifference}
use Rattle.emp_poly.specs.Parts.{StandsLoosely, Collects}
use Rattle.emp_poly.specs.Spread.{AreCoefficients, IsLess, LessAt, TakesAway}
use Rattle.emp_poly.specs.declared.quad.Quad.{Quad}
use Rattle.emp_poly.proofs.QuadForms.{quad_form, has_quad_form}
use Rattle.emp_poly.proofs.Spreading.{kept_value, kept_some, quad_stands}

-- ---- no number is wide
small_product : (a b : ℤ) → unsigned_abs a < 2 ^ 62 → unsigned_abs b < 2 ^ 62 → unsigned_abs (a *ℤ b) ≤ 2 ^ 124
small_product a b h k =
    let p : unsigned_abs a ≤ 2 ^ 62 = omega arith in
    let q : unsigned_abs b ≤ 2 ^ 62 = omega arith in
    subst (λ n. n ≤ 2 ^ 124) (sym (unsigned_abs-mul a b)) (mul-le-mul p q)

not_wide : (z : ℤ) → unsigned_abs z ≤ 2 ^ 124 → IsWide z → ⊥
not_wide z h w = omega arith

difference_narrow : (p q : ℤ) → unsigned_abs p ≤ 2 ^ 124 → unsigned_abs q ≤ 2 ^ 124 → IsWide (p -ℤ q) → ⊥
difference_narrow p q h k w = omega (arith, ints)

pub never_wide : (x y : Frac) → IsSmall x → IsSmall y → SubtractsWide x y → ⊥
never_wide x y h k (inl w) = not_wide (x.num *ℤ y.den) (small_product x.num y.den h.0 k.1) w
never_wide x y h k (inr (inl w)) = not_wide (y.num *ℤ x.den) (small_product y.num x.den k.0 h.1) w
never_wide x y h k (inr (inr (inl w))) = difference_narrow (x.num *ℤ y.den) (y.num *ℤ x.den) (small_product x.num y.den h.0 k.1) (small_product y.num x.den k.0 h.1) w
never_wide x y h k (inr (inr (inr w))) = not_wide (x.den *ℤ y.den) (small_product x.den y.den h.1 k.1) w

-- ---- the loop
pub moved_small : (a b l r : Option Frac) (g : Frac) → Moved LessAt a b l r → r ≡ Some g → IsSmall (or_zero a) → IsSmall (or_zero b) → IsSmall (or_zero l) × IsSmall g
moved_small a b l r g (inl m) e h k = (subst (λ o. IsSmall (or_zero o)) (sym m.0) h, subst (λ o. IsSmall (or_zero o)) (sym m.1 ∙ e) k)
moved_small a b l r g (inr m) e h k = absurd (no_number (sym m.0 ∙ e))
  where
    no_number : None ≡ Some g → ⊥
    no_number e = cc

pub less_of : (x y : Frac) (o f r : Option Frac) → x ≡ or_zero o → r ≡ f → IsLess x y f → LessAt o (Some y) r
less_of x y o f r e g h = subst (λ r. LessAt o (Some y) r) (sym g) (subst (λ (x : Frac). IsLess x y f) e h)

-- ---- forms
less_gives : (o p r : Option Frac) → LessAt o p r → Gives (subtracted (given (or_zero o)) (given (or_zero p))) (or_zero r)
less_gives o None r e = subst (λ r. Gives (subtracted (given (or_zero o)) (given (whole 0))) (or_zero r)) (sym e) (subtracted_zero (or_zero o) (whole 0) refl).1
less_gives o (Some y) r h = (or_zero o, y, refl, refl, subst (λ (v : Frac). IsQuotient v ((or_zero o).num *ℤ y.den -ℤ y.num *ℤ (or_zero o).den) ((or_zero o).den *ℤ y.den)) (sym (kept_value r h.number h.at)) h.is)

less_some : (o p r : Option Frac) → LessAt o p r → ((x : Frac) → o ≡ Some x → x.num ≢ pos 0) → (x : Frac) → r ≡ Some x → x.num ≢ pos 0
less_some o None r e some x f = some x (sym e ∙ f)
less_some o (Some y) r h some x f = kept_some r h.number x h.at f

pub less_stands : (a b r : Coefficients) (f g : Form) → StandsLoosely a f → StandsLoosely b g → TakesAway a b r → StandsLoosely r (joined_form Minus f g)
less_stands a b r f g h k t = record {
  den = mul_pos f.den g.den h.den k.den;
  values = λ q. formula_is Minus (fractions a) (fractions b) f g h.den k.den h.values k.values tt q (fractions r q) (less_gives (factor a q) (factor b q) (factor r q) (t q));
  some = λ q x e. less_some (factor a q) (factor b q) (factor r q) (t q) (h.some q) x e;
}

pub some_form : (p q : Quad) (a b r : Coefficients) → AreCoefficients p a → AreCoefficients q b → TakesAway a b r → (f : Form) × StandsLoosely r f
some_form p q a b r h k t =
    (joined_form Minus (quad_form p) (quad_form q), less_stands a b r (quad_form p) (quad_form q) (quad_stands p a (quad_form p) h (has_quad_form p)) (quad_stands q b (quad_form q) k (has_quad_form q)) t)

pub difference_is : (p q d : Quad) (a b r : Coefficients) → AreCoefficients p a → AreCoefficients q b → TakesAway a b r → Collects r d → IsDifference p q d
difference_is p q d a b r h k t c f g m n = c.form (joined_form Minus f g) (less_stands a b r f g (quad_stands p a f h m) (quad_stands q b g k n) t)
