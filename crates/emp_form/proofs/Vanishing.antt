-- Formulas of which every product has a factor 0: no call is wide, and the result is 0.
use Rattle.std.proofs.Common.{◌≡◌, ◌⊎◌, inl, inr, ℕ, ℤ, pos, neg_ℤ, ◌+ℤ◌, ◌-ℤ◌, ◌*ℤ◌, Bool, true, false, cond, [], ◌∷◌, Option, Some, None, arith, refl, sym, ap, subst, subst₂, ◌∙◌}
use Rattle.std.specs.Prelude.{nat_lt, nat_eq}
use lib.IntN.{zero-*ℤ, *ℤ-zero}
use Rattle.emp_algebra.proofs.Laws.{one-*ℤ}
use Rattle.emp_algebra.proofs.Ring.{var, lit, neg, ◌⊕◌, ◌⊖◌, ◌⊗◌, by_ring}
use Rattle.emp_num.specs.Exact.{IsNarrow, IsWide}
use Rattle.emp_num.specs.FracSpec.{IsQuotient, AddsWide, SubtractsWide, MultipliesWide}
use Rattle.emp_num.specs.Whole.{whole, zero_below_limit}
use Rattle.emp_num.specs.Opposite.{opposite_narrow}
use Rattle.emp_num.specs.declared.frac.Frac.{Frac}
use Rattle.emp_form.specs.Calls.{Formula, given, added, multiplied, Gives, HasWideCall}
use Rattle.emp_form.specs.Wide.{Fractions, product, cross_at, square_at, product_at}
use Rattle.emp_form.specs.Laws.{ZeroMakesNoCall}
use Rattle.emp_form.proofs.Running.{narrow_not_wide, gives_one}

-- ---- calls with 0
not_wide : (z y : ℤ) → z ≡ y → IsNarrow y → IsWide z → ⊥
not_wide z y e h w = narrow_not_wide y h (subst IsWide e w)

pub zero_left : (y : ℤ) → IsWide (pos 0 *ℤ y) → ⊥
zero_left y w = not_wide (pos 0 *ℤ y) (pos 0) (zero-*ℤ y) zero_below_limit w

zero_right : (y : ℤ) → IsWide (y *ℤ pos 0) → ⊥
zero_right y w = not_wide (y *ℤ pos 0) (pos 0) (*ℤ-zero y) zero_below_limit w

pub one_left : (y : ℤ) → IsNarrow y → IsWide (pos 1 *ℤ y) → ⊥
one_left y h w = not_wide (pos 1 *ℤ y) y (one-*ℤ y) h w

one_right : (y : ℤ) → IsNarrow y → IsWide (y *ℤ pos 1) → ⊥
one_right y h w = not_wide (y *ℤ pos 1) y (by_ring (y ∷ []) (var 0 ⊗ lit (pos 1)) (var 0) refl) h w

sum_zero : (x : Frac) → AddsWide x (whole 0) ⊎ AddsWide (whole 0) x → ⊥
sum_zero x (inl (inl w)) = one_right x.num x.num_narrow w
sum_zero x (inl (inr (inl w))) = zero_left x.den w
sum_zero x (inl (inr (inr (inl w)))) = not_wide (x.num *ℤ pos 1 +ℤ pos 0 *ℤ x.den) x.num (by_ring (x.num ∷ x.den ∷ []) (var 0 ⊗ lit (pos 1) ⊕ lit (pos 0) ⊗ var 1) (var 0) refl) x.num_narrow w
sum_zero x (inl (inr (inr (inr w)))) = one_right x.den x.den_narrow w
sum_zero x (inr (inl w)) = zero_left x.den w
sum_zero x (inr (inr (inl w))) = one_right x.num x.num_narrow w
sum_zero x (inr (inr (inr (inl w)))) = not_wide (pos 0 *ℤ x.den +ℤ x.num *ℤ pos 1) x.num (by_ring (x.num ∷ x.den ∷ []) (lit (pos 0) ⊗ var 1 ⊕ var 0 ⊗ lit (pos 1)) (var 0) refl) x.num_narrow w
sum_zero x (inr (inr (inr (inr w)))) = one_left x.den x.den_narrow w

difference_zero : (x : Frac) → SubtractsWide x (whole 0) ⊎ SubtractsWide (whole 0) x → ⊥
difference_zero x (inl (inl w)) = one_right x.num x.num_narrow w
difference_zero x (inl (inr (inl w))) = zero_left x.den w
difference_zero x (inl (inr (inr (inl w)))) = not_wide (x.num *ℤ pos 1 -ℤ pos 0 *ℤ x.den) x.num (by_ring (x.num ∷ x.den ∷ []) (var 0 ⊗ lit (pos 1) ⊖ lit (pos 0) ⊗ var 1) (var 0) refl) x.num_narrow w
difference_zero x (inl (inr (inr (inr w)))) = one_right x.den x.den_narrow w
difference_zero x (inr (inl w)) = zero_left x.den w
difference_zero x (inr (inr (inl w))) = one_right x.num x.num_narrow w
difference_zero x (inr (inr (inr (inl w)))) = not_wide (pos 0 *ℤ x.den -ℤ x.num *ℤ pos 1) (neg_ℤ x.num) (by_ring (x.num ∷ x.den ∷ []) (lit (pos 0) ⊗ var 1 ⊖ var 0 ⊗ lit (pos 1)) (neg (var 0)) refl) (opposite_narrow x.num x.num_narrow) w
difference_zero x (inr (inr (inr (inr w)))) = one_left x.den x.den_narrow w

product_zero : (x : Frac) → MultipliesWide x (whole 0) ⊎ MultipliesWide (whole 0) x → ⊥
product_zero x (inl (inl w)) = zero_right x.num w
product_zero x (inl (inr w)) = one_right x.den x.den_narrow w
product_zero x (inr (inl w)) = zero_left x.num w
product_zero x (inr (inr w)) = one_left x.den x.den_narrow w

pub zero_makes_no_call : ZeroMakesNoCall
zero_makes_no_call = record { sum = sum_zero; difference = difference_zero; product = product_zero }

abbrev pub Vanishes : Formula → Type 0
Vanishes s = (HasWideCall s → ⊥) × Gives s (whole 0)

pub vanishes_product : (x y : Frac) → (x ≡ whole 0) ⊎ (y ≡ whole 0) → Vanishes (multiplied (given x) (given y))
vanishes_product x y h = (narrow, (x, y, refl, refl, value h))
  where
    fits : (x ≡ whole 0) ⊎ (y ≡ whole 0) → MultipliesWide x y → ⊥
    fits (inl e) w = zero_makes_no_call.product y (inr (subst (λ (x : Frac). MultipliesWide x y) e w))
    fits (inr e) w = zero_makes_no_call.product x (inl (subst (λ (y : Frac). MultipliesWide x y) e w))

    narrow : HasWideCall (multiplied (given x) (given y)) → ⊥
    narrow (inl w) = w
    narrow (inr (inl w)) = w
    narrow (inr (inr w)) = fits h (subst₂ MultipliesWide w.2 w.3 w.4)

    value : (x ≡ whole 0) ⊎ (y ≡ whole 0) → IsQuotient (whole 0) (x.num *ℤ y.num) (x.den *ℤ y.den)
    value (inl e) = subst (λ (x : Frac). IsQuotient (whole 0) (x.num *ℤ y.num) (x.den *ℤ y.den)) (sym e) (zero-*ℤ (pos 1 *ℤ y.den) ∙ sym (ap (λ z. z *ℤ pos 1) (zero-*ℤ y.num)))
    value (inr e) = subst (λ (y : Frac). IsQuotient (whole 0) (x.num *ℤ y.num) (x.den *ℤ y.den)) (sym e) (zero-*ℤ (x.den *ℤ pos 1) ∙ sym (ap (λ z. z *ℤ pos 1) (*ℤ-zero x.num)))

pub vanishes_added : (s t : Formula) → Vanishes s → Vanishes t → Vanishes (added s t)
vanishes_added s t h k = (narrow, (whole 0, whole 0, h.1, k.1, refl))
  where
    narrow : HasWideCall (added s t) → ⊥
    narrow (inl w) = h.0 w
    narrow (inr (inl w)) = k.0 w
    narrow (inr (inr w)) = zero_makes_no_call.sum (whole 0) (inl (subst₂ AddsWide (gives_one s w.0 (whole 0) w.2 h.1) (gives_one t w.1 (whole 0) w.3 k.1) w.4))

vanishes_zero : Vanishes (given (whole 0))
vanishes_zero = ((λ w. w), refl)

same_number : (i j : ℕ) → nat_eq i j ≡ true → i ≡ j
same_number i j e = grind arith

abbrev pub OneIsZero : Fractions → Fractions → ℕ → ℕ → Type 0
OneIsZero a b i j = (a (None, Some i) ≡ whole 0) ⊎ (b (None, Some j) ≡ whole 0)

vanishes_cross : (a b : Fractions) (i j : ℕ) → OneIsZero a b i j → OneIsZero a b j i → Vanishes (cross_at a b i j)
vanishes_cross a b i j h k = go (nat_eq i j) refl
  where
    go : (t : Bool) → nat_eq i j ≡ t → Vanishes (cond t (product a (None, Some i) b (None, Some i)) (added (product a (None, Some i) b (None, Some j)) (product a (None, Some j) b (None, Some i))))
    go true e = vanishes_product (a (None, Some i)) (b (None, Some i)) (subst (λ j. OneIsZero a b i j) (sym (same_number i j e)) h)
    go false e =
        vanishes_added (product a (None, Some i) b (None, Some j)) (product a (None, Some j) b (None, Some i)) (vanishes_product (a (None, Some i)) (b (None, Some j)) h) (vanishes_product (a (None, Some j)) (b (None, Some i)) k)

-- a coefficient of a product where neither factor has that coefficient, and of each two linear ones one is 0
pub vanishes_product_at : (a b : Fractions) (u v : Option ℕ) → a (u, v) ≡ whole 0 → b (u, v) ≡ whole 0 → ((i j : ℕ) → u ≡ Some i → v ≡ Some j → nat_lt j i ≡ false → OneIsZero a b i j × OneIsZero a b j i) → Vanishes (product_at a b u v)
vanishes_product_at a b None None h k l = vanishes_product (a (None, None)) (b (None, None)) (inl h)
vanishes_product_at a b None (Some i) h k l =
    vanishes_added (product a (None, None) b (None, Some i)) (product a (None, Some i) b (None, None)) (vanishes_product (a (None, None)) (b (None, Some i)) (inr k)) (vanishes_product (a (None, Some i)) (b (None, None)) (inl h))
vanishes_product_at a b (Some i) None h k l = vanishes_zero
vanishes_product_at a b (Some i) (Some j) h k l = go (nat_lt j i) refl
  where
    both : nat_lt j i ≡ false → Vanishes (square_at a b i j)
    both e =
        let c = l i j refl refl e in
        vanishes_added (cross_at a b i j) (added (product a (None, None) b (Some i, Some j)) (product a (Some i, Some j) b (None, None))) (vanishes_cross a b i j c.0 c.1) (vanishes_added (product a (None, None) b (Some i, Some j)) (product a (Some i, Some j) b (None, None)) (vanishes_product (a (None, None)) (b (Some i, Some j)) (inr k)) (vanishes_product (a (Some i, Some j)) (b (None, None)) (inl h)))

    go : (t : Bool) → nat_lt j i ≡ t → Vanishes (cond t (given (whole 0)) (square_at a b i j))
    go true e = vanishes_zero
    go false e = both e
