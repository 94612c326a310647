-- Coefficients that stand for a form are its fractions, and finished results stand for the joined form.
use Rattle.std.proofs.Common.{◌≡◌, ◌≢◌, inl, inr, zero, suc, ℤ, pos, negsuc, ◌+ℤ◌, ◌-ℤ◌, ◌*ℤ◌, ◌<ℤ◌, Bool, [], ◌∷◌, Option, Some, None, Result, Ok, Err, arith, refl, sym, ap, subst, subst₂, ◌∙◌}
use Rattle.std.proofs.lemmas.Int.{ints}
use lib.IntN.{zero-*ℤ}
use Rattle.emp_algebra.proofs.Laws.{mul_pos}
use Rattle.emp_algebra.proofs.Order.{cancel_right}
use Rattle.emp_algebra.proofs.Ring.{var, lit, ◌⊕◌, ◌⊖◌, ◌⊗◌, by_ring}
use Rattle.emp_num.specs.FracSpec.{IsQuotient, AddsWide, SubtractsWide}
use Rattle.emp_num.specs.Whole.{whole}
use Rattle.emp_num.specs.declared.exact.Wide.{Wide as TheWide}
use Rattle.emp_num.specs.declared.frac.Frac.{Frac}
use Rattle.emp_ast.specs.declared.tree.Operator.{Operator}
use Rattle.emp_ast.specs.declared.tree.Operator.TheVariants.{Plus, Minus, Times, Over}
use Rattle.emp_form.specs.Form.{Form, Monomial, coefficient, divided}
use Rattle.emp_form.specs.Expansion.{joined_form}
use Rattle.emp_form.specs.Calls.{Formula, given, added, subtracted, Gives, HasWideCall, Runs}
use Rattle.emp_form.specs.Wide.{HasFractions, formula_at, IsLarge, HasLarge}
use Rattle.emp_form.proofs.Formulas.{CanJoin, is_zero, formula_is, join_narrow, none_large}
use Rattle.emp_form.proofs.Vanishing.{zero_makes_no_call, Vanishes}
use Rattle.emp_expand.specs.Factors.{factor, or_zero, fractions}
use Rattle.emp_expand.specs.Stands.{IsSmall, StandsAt, Stands}
use Rattle.emp_expand.specs.Steps.{Finishes, sum_of, Ends, EndsWide, StepGives}
use Rattle.emp_expand.specs.Joins.{JoinEndsWide}
use Rattle.emp_expand.specs.declared.coefficients.Coefficients.{Coefficients}

-- ---- fractions
pub fraction_is : (o : Option Frac) (z d : ℤ) → StandsAt o z d → IsQuotient (or_zero o) z d
fraction_is None z d h = is_zero z d h
fraction_is (Some f) z d h = h.0

pub has_fractions : (c : Coefficients) (f : Form) → Stands c f → HasFractions (fractions c) f
has_fractions c f h q = fraction_is (factor c q) (coefficient f q.0 q.1) f.den (h.at q)

small_not_large : (f : Frac) → IsSmall f → IsLarge f → ⊥
small_not_large f h (inl w) = omega (arith, h.0, w)
small_not_large f h (inr w) = omega (arith, h.1, w)

zero_small : IsSmall (whole 0)
zero_small = (omega arith, omega arith)

pub fraction_small : (o : Option Frac) (z d : ℤ) → StandsAt o z d → IsSmall (or_zero o)
fraction_small None z d h = zero_small
fraction_small (Some f) z d h = h.2

pub stands_small : (c : Coefficients) (f : Form) → Stands c f → HasLarge f → ⊥
stands_small c f h w =
    none_large (fractions c) f h.den (has_fractions c f h) (λ q. small_not_large (fractions c q) (fraction_small (factor c q) (coefficient f q.0 q.1) f.den (h.at q))) w

-- ---- finished results
pub finished_is : (v : Frac) (o : Option Frac) (z d : ℤ) → Finishes v (Ok o) → IsQuotient v z d → StandsAt o z d
finished_is v None z d h e = cancel_right z (pos 0) v.den (sym e ∙ (ap (λ n. n *ℤ d) h ∙ (zero-*ℤ d ∙ sym (zero-*ℤ v.den)))) v.positive
finished_is v (Some r) z d h e = subst (λ (r : Frac). StandsAt (Some r) z d) (sym h.0) (e, h.1, h.2)

pub ends_is : (s : Formula) (o : Option Frac) (z d : ℤ) → Ends s o → ((v : Frac) → Gives s v → IsQuotient v z d) → StandsAt o z d
ends_is s o z d h l = finished_is h.0 o z d h.3 (l h.0 h.1)

pub zero_ends : (s : Formula) (o : Option Frac) → Vanishes s → o ≡ None → Ends s o
zero_ends s o h e = (whole 0, h.1, h.0, subst (λ o. Finishes (whole 0) (Ok o)) (sym e) refl)

-- a coefficient that stays
pub stays_ends : (s : Formula) (o : Option Frac) (z d : ℤ) → StandsAt o z d → (HasWideCall s → ⊥) → Gives s (or_zero o) → Ends s o
stays_ends s None z d h narrow g = (whole 0, g, narrow, refl)
stays_ends s (Some f) z d h narrow g = (f, g, narrow, (refl, h.1, h.2))

-- ---- sums with nothing
pub added_zero : (x y : Frac) → y ≡ whole 0 → (HasWideCall (added (given x) (given y)) → ⊥) × Gives (added (given x) (given y)) x
added_zero x y e = (narrow, (x, y, refl, refl, subst (λ (y : Frac). IsQuotient x (x.num *ℤ y.den +ℤ y.num *ℤ x.den) (x.den *ℤ y.den)) (sym e) (by_ring (x.num ∷ x.den ∷ []) (var 0 ⊗ (var 1 ⊗ lit (pos 1))) ((var 0 ⊗ lit (pos 1) ⊕ lit (pos 0) ⊗ var 1) ⊗ var 1) refl)))
  where
    narrow : HasWideCall (added (given x) (given y)) → ⊥
    narrow (inl w) = w
    narrow (inr (inl w)) = w
    narrow (inr (inr w)) = zero_makes_no_call.sum x (inl (subst₂ AddsWide w.2 (w.3 ∙ e) w.4))

pub subtracted_zero : (x y : Frac) → y ≡ whole 0 → (HasWideCall (subtracted (given x) (given y)) → ⊥) × Gives (subtracted (given x) (given y)) x
subtracted_zero x y e = (narrow, (x, y, refl, refl, subst (λ (y : Frac). IsQuotient x (x.num *ℤ y.den -ℤ y.num *ℤ x.den) (x.den *ℤ y.den)) (sym e) (by_ring (x.num ∷ x.den ∷ []) (var 0 ⊗ (var 1 ⊗ lit (pos 1))) ((var 0 ⊗ lit (pos 1) ⊖ lit (pos 0) ⊗ var 1) ⊗ var 1) refl)))
  where
    narrow : HasWideCall (subtracted (given x) (given y)) → ⊥
    narrow (inl w) = w
    narrow (inr (inl w)) = w
    narrow (inr (inr w)) = zero_makes_no_call.difference x (inl (subst₂ SubtractsWide w.2 (w.3 ∙ e) w.4))

-- ---- all coefficients
pub den_above : (op : Operator) (f g : Form) → CanJoin op g → pos 0 <ℤ f.den → pos 0 <ℤ g.den → pos 0 <ℤ (joined_form op f g).den
den_above Plus f g fit p q = mul_pos f.den g.den p q
den_above Minus f g fit p q = mul_pos f.den g.den p q
den_above Times f g fit p q = mul_pos f.den g.den p q
den_above Over f g fit p q = over_above f g.constant g.den fit p
  where
    over_above : (f : Form) (c e : ℤ) → c ≢ pos 0 → pos 0 <ℤ f.den → pos 0 <ℤ (divided f c e).den
    over_above f (pos zero) e some p = absurd (some refl)
    over_above f (pos (suc n)) e some p = mul_pos f.den (pos (suc n)) p (omega (arith, ints))
    over_above f (negsuc n) e some p = mul_pos f.den (pos (suc n)) p (omega (arith, ints))

pub joined_stands : (op : Operator) (a b r : Coefficients) (f g : Form) → Stands a f → Stands b g → CanJoin op g → ((q : Monomial) → Ends (formula_at op (fractions a) (fractions b) q) (factor r q)) → Stands r (joined_form op f g) × (JoinEndsWide op f g → ⊥)
joined_stands op a b r f g h k fit ends = (stands, narrow)
  where
    stands : Stands r (joined_form op f g)
    stands = record {
      den = den_above op f g fit h.den k.den;
      at = λ q. ends_is (formula_at op (fractions a) (fractions b) q) (factor r q) (coefficient (joined_form op f g) q.0 q.1) (joined_form op f g).den (ends q) (formula_is op (fractions a) (fractions b) f g h.den k.den (has_fractions a f h) (has_fractions b g k) fit q);
    }

    narrow : JoinEndsWide op f g → ⊥
    narrow (inl w) = join_narrow op (fractions a) (fractions b) f g h.den k.den (has_fractions a f h) (has_fractions b g k) (λ q. (ends q).2) w
    narrow (inr w) = stands_small r (joined_form op f g) stands w

pub joined_wide : (op : Operator) (a b : Coefficients) (f g : Form) → Stands a f → Stands b g → CanJoin op g → (q : Monomial) → EndsWide (formula_at op (fractions a) (fractions b) q) → JoinEndsWide op f g
joined_wide op a b f g h k fit q (inl w) = inl (fractions a, fractions b, has_fractions a f h, has_fractions b g k, (q, w))
joined_wide op a b f g h k fit q (inr w) = inr (q, w.0, formula_is op (fractions a) (fractions b) f g h.den k.den (has_fractions a f h) (has_fractions b g k) fit q w.0 w.1, w.2)

-- ---- one step of a sum
pub step_gives : (minus : Bool) (left : Option Frac) (x right v : Frac) (r : Result (Option Frac) TheWide) → x ≡ or_zero left → Runs (sum_of minus x right) (Ok v) → Finishes v r → StepGives minus left (Some right) r
step_gives minus left x right v (Ok o) e h f = let k = subst (λ (x : Frac). Runs (sum_of minus x right) (Ok v)) e h in (v, k.0, k.1, f)
step_gives minus left x right v (Err w) e h f = let k = subst (λ (x : Frac). Runs (sum_of minus x right) (Ok v)) e h in inr (v, k.0, f)
