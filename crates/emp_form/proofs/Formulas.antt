-- What the formulas of coefficients give are the coefficients of forms.
use Rattle.std.proofs.Common.{◌≡◌, ◌≢◌, ℕ, suc, ℤ, pos, negsuc, neg_ℤ, ◌+ℤ◌, ◌-ℤ◌, ◌*ℤ◌, ◌<ℤ◌, Bool, true, false, cond, [], ◌∷◌, Option, Some, None, arith, refl, sym, ap, ap₂, subst, subst₂, ◌∙◌}
use Rattle.std.specs.Prelude.{nat_lt, nat_eq}
use Rattle.std.proofs.lemmas.Int.{ints}
use lib.IntN.{zero-*ℤ}
use Rattle.emp_algebra.proofs.Laws.{mul_pos}
use Rattle.emp_algebra.proofs.Order.{cancel_right}
use Rattle.emp_algebra.proofs.Ring.{var, lit, neg, ◌⊕◌, ◌⊖◌, ◌⊗◌, by_ring}
use Rattle.emp_num.specs.FracSpec.{IsQuotient}
use Rattle.emp_num.specs.Whole.{whole}
use Rattle.emp_num.specs.declared.frac.Frac.{Frac}
use Rattle.emp_num.proofs.FracOrder.{one_value}
use Rattle.emp_ast.specs.declared.tree.Operator.{Operator}
use Rattle.emp_ast.specs.declared.tree.Operator.TheVariants.{Plus, Minus, Times, Over}
use Rattle.emp_form.specs.Form.{Form, Monomial, coefficient, crossed, sum_form, negated_form, product_form, scaled, divided as divided_form}
use Rattle.emp_form.specs.Expansion.{JoinFits, joined_form}
use Rattle.emp_form.specs.Calls.{Formula, given, added, Gives, HasWideCall}
use Rattle.emp_form.specs.Wide.{Fractions, HasFractions, product, cross_at, square_at, product_at, formula_at, JoinIsWide, IsLarge, HasLarge}
use Rattle.emp_form.proofs.FormLaws.{SameSign, both_above, both_below, same_sign}

-- ---- one quotient by another
-- r is N/F, which is Z/D
pub same_quotient : (r : Frac) (N F Z D : ℤ) → pos 0 <ℤ F → IsQuotient r N F → N *ℤ D ≡ Z *ℤ F → r.num *ℤ D ≡ Z *ℤ r.den
same_quotient r N F Z D p q e =
    cancel_right (r.num *ℤ D) (Z *ℤ r.den) F
    (by_ring (r.num ∷ D ∷ F ∷ []) (var 0 ⊗ var 1 ⊗ var 2) (var 0 ⊗ var 2 ⊗ var 1) refl ∙ (ap (λ z. z *ℤ D) q ∙ (by_ring (N ∷ r.den ∷ D ∷ []) (var 0 ⊗ var 1 ⊗ var 2) (var 0 ⊗ var 2 ⊗ var 1) refl ∙ (ap (λ z. z *ℤ r.den) e ∙ by_ring (Z ∷ F ∷ r.den ∷ []) (var 0 ⊗ var 1 ⊗ var 2) (var 0 ⊗ var 2 ⊗ var 1) refl))))
    p

pub is_product : (x y r : Frac) (Y d Z e : ℤ) → IsQuotient x Y d → IsQuotient y Z e → IsQuotient r (x.num *ℤ y.num) (x.den *ℤ y.den) → IsQuotient r (Y *ℤ Z) (d *ℤ e)
is_product x y r Y d Z e h k q =
    same_quotient r (x.num *ℤ y.num) (x.den *ℤ y.den) (Y *ℤ Z) (d *ℤ e) (mul_pos x.den y.den x.positive y.positive) q
    (by_ring (x.num ∷ y.num ∷ d ∷ e ∷ []) (var 0 ⊗ var 1 ⊗ (var 2 ⊗ var 3)) (var 0 ⊗ var 2 ⊗ (var 1 ⊗ var 3)) refl ∙ (ap₂ (λ u v. u *ℤ v) h k ∙ by_ring (x.den ∷ y.den ∷ Y ∷ Z ∷ []) (var 2 ⊗ var 0 ⊗ (var 3 ⊗ var 1)) (var 2 ⊗ var 3 ⊗ (var 0 ⊗ var 1)) refl))

-- over one denominator
pub is_sum : (x y r : Frac) (Y Z D : ℤ) → IsQuotient x Y D → IsQuotient y Z D → IsQuotient r (x.num *ℤ y.den +ℤ y.num *ℤ x.den) (x.den *ℤ y.den) → IsQuotient r (Y +ℤ Z) D
is_sum x y r Y Z D h k q =
    same_quotient r (x.num *ℤ y.den +ℤ y.num *ℤ x.den) (x.den *ℤ y.den) (Y +ℤ Z) D (mul_pos x.den y.den x.positive y.positive) q
    (by_ring (x.num ∷ x.den ∷ y.num ∷ y.den ∷ D ∷ []) ((var 0 ⊗ var 3 ⊕ var 2 ⊗ var 1) ⊗ var 4) (var 3 ⊗ (var 0 ⊗ var 4) ⊕ var 1 ⊗ (var 2 ⊗ var 4)) refl ∙ (ap₂ (λ u v. y.den *ℤ u +ℤ x.den *ℤ v) h k ∙ by_ring (x.den ∷ y.den ∷ Y ∷ Z ∷ []) (var 1 ⊗ (var 2 ⊗ var 0) ⊕ var 0 ⊗ (var 3 ⊗ var 1)) ((var 2 ⊕ var 3) ⊗ (var 0 ⊗ var 1)) refl))

-- over two denominators
pub is_plus : (x y r : Frac) (Y d Z e : ℤ) → IsQuotient x Y d → IsQuotient y Z e → IsQuotient r (x.num *ℤ y.den +ℤ y.num *ℤ x.den) (x.den *ℤ y.den) → IsQuotient r (e *ℤ Y +ℤ d *ℤ Z) (d *ℤ e)
is_plus x y r Y d Z e h k q =
    same_quotient r (x.num *ℤ y.den +ℤ y.num *ℤ x.den) (x.den *ℤ y.den) (e *ℤ Y +ℤ d *ℤ Z) (d *ℤ e) (mul_pos x.den y.den x.positive y.positive) q
    (by_ring (x.num ∷ x.den ∷ y.num ∷ y.den ∷ d ∷ e ∷ []) ((var 0 ⊗ var 3 ⊕ var 2 ⊗ var 1) ⊗ (var 4 ⊗ var 5)) (var 3 ⊗ var 5 ⊗ (var 0 ⊗ var 4) ⊕ var 1 ⊗ var 4 ⊗ (var 2 ⊗ var 5)) refl ∙ (ap₂ (λ u v. y.den *ℤ e *ℤ u +ℤ x.den *ℤ d *ℤ v) h k ∙ by_ring (x.den ∷ y.den ∷ Y ∷ d ∷ Z ∷ e ∷ []) (var 1 ⊗ var 5 ⊗ (var 2 ⊗ var 0) ⊕ var 0 ⊗ var 3 ⊗ (var 4 ⊗ var 1)) ((var 5 ⊗ var 2 ⊕ var 3 ⊗ var 4) ⊗ (var 0 ⊗ var 1)) refl))

pub is_minus : (x y r : Frac) (Y d Z e : ℤ) → IsQuotient x Y d → IsQuotient y Z e → IsQuotient r (x.num *ℤ y.den -ℤ y.num *ℤ x.den) (x.den *ℤ y.den) → IsQuotient r (e *ℤ Y +ℤ d *ℤ neg_ℤ Z) (d *ℤ e)
is_minus x y r Y d Z e h k q =
    same_quotient r (x.num *ℤ y.den -ℤ y.num *ℤ x.den) (x.den *ℤ y.den) (e *ℤ Y +ℤ d *ℤ neg_ℤ Z) (d *ℤ e) (mul_pos x.den y.den x.positive y.positive) q
    (by_ring (x.num ∷ x.den ∷ y.num ∷ y.den ∷ d ∷ e ∷ []) ((var 0 ⊗ var 3 ⊖ var 2 ⊗ var 1) ⊗ (var 4 ⊗ var 5)) (var 3 ⊗ var 5 ⊗ (var 0 ⊗ var 4) ⊖ var 1 ⊗ var 4 ⊗ (var 2 ⊗ var 5)) refl ∙ (ap₂ (λ u v. y.den *ℤ e *ℤ u -ℤ x.den *ℤ d *ℤ v) h k ∙ by_ring (x.den ∷ y.den ∷ Y ∷ d ∷ Z ∷ e ∷ []) (var 1 ⊗ var 5 ⊗ (var 2 ⊗ var 0) ⊖ var 0 ⊗ var 3 ⊗ (var 4 ⊗ var 1)) ((var 5 ⊗ var 2 ⊕ var 3 ⊗ neg (var 4)) ⊗ (var 0 ⊗ var 1)) refl))

pub is_zero : (z d : ℤ) → z ≡ pos 0 → IsQuotient (whole 0) z d
is_zero z d e = zero-*ℤ d ∙ ap (λ y. y *ℤ pos 1) (sym e)

pub over_cross : (xn xd Y d g B C e : ℤ) → xn *ℤ d ≡ Y *ℤ xd → B *ℤ e ≡ C *ℤ g → xn *ℤ g *ℤ (d *ℤ C) ≡ e *ℤ Y *ℤ (xd *ℤ B)
over_cross xn xd Y d g B C e h k =
    by_ring (xn ∷ g ∷ d ∷ C ∷ []) (var 0 ⊗ var 1 ⊗ (var 2 ⊗ var 3)) (var 0 ⊗ var 2 ⊗ (var 3 ⊗ var 1)) refl ∙ (ap₂ (λ u v. u *ℤ v) h (sym k) ∙ by_ring (xd ∷ B ∷ Y ∷ e ∷ []) (var 2 ⊗ var 0 ⊗ (var 1 ⊗ var 3)) (var 3 ⊗ var 2 ⊗ (var 0 ⊗ var 1)) refl)

-- ---- coefficients of sums and opposites
kept_sum : (t : Bool) (e y d z : ℤ) → e *ℤ cond t (pos 0) y +ℤ d *ℤ cond t (pos 0) z ≡ cond t (pos 0) (e *ℤ y +ℤ d *ℤ z)
kept_sum true e y d z = by_ring (d ∷ e ∷ []) (var 1 ⊗ lit (pos 0) ⊕ var 0 ⊗ lit (pos 0)) (lit (pos 0)) refl
kept_sum false e y d z = refl

kept_neg : (t : Bool) (z : ℤ) → neg_ℤ (cond t (pos 0) z) ≡ cond t (pos 0) (neg_ℤ z)
kept_neg true z = refl
kept_neg false z = refl

kept_times : (t : Bool) (k z : ℤ) → k *ℤ cond t (pos 0) z ≡ cond t (pos 0) (k *ℤ z)
kept_times true k z = by_ring (k ∷ []) (var 0 ⊗ lit (pos 0)) (lit (pos 0)) refl
kept_times false k z = refl

pub coefficient-sum : (f g : Form) (u v : Option ℕ) → coefficient (sum_form f g) u v ≡ g.den *ℤ coefficient f u v +ℤ f.den *ℤ coefficient g u v
coefficient-sum f g None None = refl
coefficient-sum f g None (Some i) = refl
coefficient-sum f g (Some i) None = by_ring (g.den ∷ f.den ∷ []) (lit (pos 0)) (var 0 ⊗ lit (pos 0) ⊕ var 1 ⊗ lit (pos 0)) refl
coefficient-sum f g (Some i) (Some j) = sym (kept_sum (nat_lt j i) g.den (f.square i j) f.den (g.square i j))

pub coefficient-negated : (f : Form) (u v : Option ℕ) → coefficient (negated_form f) u v ≡ neg_ℤ (coefficient f u v)
coefficient-negated f None None = refl
coefficient-negated f None (Some i) = refl
coefficient-negated f (Some i) None = refl
coefficient-negated f (Some i) (Some j) = sym (kept_neg (nat_lt j i) (f.square i j))

pub coefficient-minus : (f g : Form) (u v : Option ℕ) → coefficient (sum_form f (negated_form g)) u v ≡ g.den *ℤ coefficient f u v +ℤ f.den *ℤ neg_ℤ (coefficient g u v)
coefficient-minus f g u v = coefficient-sum f (negated_form g) u v ∙ ap (λ z. g.den *ℤ coefficient f u v +ℤ f.den *ℤ z) (coefficient-negated g u v)

-- ---- products
module _ (a b : Fractions) (f g : Form) (h : HasFractions a f) (k : HasFractions b g) where
  abbrev D : ℤ
  D = f.den *ℤ g.den

  pub product_is : (p q : Monomial) (r : Frac) → Gives (product a p b q) r → IsQuotient r (coefficient f p.0 p.1 *ℤ coefficient g q.0 q.1) D
  product_is p q r c =
      is_product (a p) (b q) r (coefficient f p.0 p.1) f.den (coefficient g q.0 q.1) g.den (h p) (k q) (subst₂ (λ (x y : Frac). IsQuotient r (x.num *ℤ y.num) (x.den *ℤ y.den)) c.2 c.3 c.4)

  added_is : (s t : Formula) (Y Z : ℤ) (r : Frac) → ((x : Frac) → Gives s x → IsQuotient x Y D) → ((y : Frac) → Gives t y → IsQuotient y Z D) → Gives (added s t) r → IsQuotient r (Y +ℤ Z) D
  added_is s t Y Z r l m c = is_sum c.0 c.1 r Y Z D (l c.0 c.2) (m c.1 c.3) c.4

  cross_is : (i j : ℕ) (r : Frac) → Gives (cross_at a b i j) r → IsQuotient r (crossed f.linear g.linear i j) D
  cross_is i j r c = go (nat_eq i j) c
    where
      go : (t : Bool) → Gives (cond t (product a (None, Some i) b (None, Some i)) (added (product a (None, Some i) b (None, Some j)) (product a (None, Some j) b (None, Some i)))) r → IsQuotient r (cond t (f.linear i *ℤ g.linear i) (f.linear i *ℤ g.linear j +ℤ f.linear j *ℤ g.linear i)) D
      go true c = product_is (None, Some i) (None, Some i) r c
      go false c =
          added_is (product a (None, Some i) b (None, Some j)) (product a (None, Some j) b (None, Some i)) (f.linear i *ℤ g.linear j) (f.linear j *ℤ g.linear i) r (product_is (None, Some i) (None, Some j)) (product_is (None, Some j) (None, Some i)) c

  square_is : (i j : ℕ) (r : Frac) → Gives (square_at a b i j) r → IsQuotient r (crossed f.linear g.linear i j +ℤ (f.constant *ℤ coefficient g (Some i) (Some j) +ℤ coefficient f (Some i) (Some j) *ℤ g.constant)) D
  square_is i j r c =
      added_is (cross_at a b i j) (added (product a (None, None) b (Some i, Some j)) (product a (Some i, Some j) b (None, None))) (crossed f.linear g.linear i j) (f.constant *ℤ coefficient g (Some i) (Some j) +ℤ coefficient f (Some i) (Some j) *ℤ g.constant) r (cross_is i j)
      (λ y m. added_is (product a (None, None) b (Some i, Some j)) (product a (Some i, Some j) b (None, None)) (f.constant *ℤ coefficient g (Some i) (Some j)) (coefficient f (Some i) (Some j) *ℤ g.constant) y (product_is (None, None) (Some i, Some j)) (product_is (Some i, Some j) (None, None)) m) c

  abbrev turned : ℤ → ℤ → ℤ → ℤ → Type 0
  turned x y z w = x +ℤ (y +ℤ z *ℤ w) ≡ x +ℤ (y +ℤ w *ℤ z)

  turn : (x y z w : ℤ) → turned x y z w
  turn x y z w = by_ring (x ∷ y ∷ z ∷ w ∷ []) (var 0 ⊕ (var 1 ⊕ var 2 ⊗ var 3)) (var 0 ⊕ (var 1 ⊕ var 3 ⊗ var 2)) refl

  pub product_at_is : (u v : Option ℕ) (r : Frac) → Gives (product_at a b u v) r → IsQuotient r (coefficient (product_form f g) u v) D
  product_at_is None None r c = product_is (None, None) (None, None) r c
  product_at_is None (Some i) r c =
      subst (λ z. IsQuotient r z D) (by_ring (f.constant ∷ g.linear i ∷ f.linear i ∷ g.constant ∷ []) (var 0 ⊗ var 1 ⊕ var 2 ⊗ var 3) (var 0 ⊗ var 1 ⊕ var 3 ⊗ var 2) refl)
      (added_is (product a (None, None) b (None, Some i)) (product a (None, Some i) b (None, None)) (f.constant *ℤ g.linear i) (f.linear i *ℤ g.constant) r (product_is (None, None) (None, Some i)) (product_is (None, Some i) (None, None)) c)
  product_at_is (Some i) None r c = subst (λ (x : Frac). IsQuotient x (pos 0) D) (sym c) (is_zero (pos 0) D refl)
  product_at_is (Some i) (Some j) r c = go (nat_lt j i) (λ t. coefficient f (Some i) (Some j) ≡ cond t (pos 0) (f.square i j)) refl refl c
    where
      go : (t : Bool) (Q : Bool → Type 0) → coefficient f (Some i) (Some j) ≡ cond t (pos 0) (f.square i j) → coefficient g (Some i) (Some j) ≡ cond t (pos 0) (g.square i j) → Gives (cond t (given (whole 0)) (square_at a b i j)) r → IsQuotient r (cond t (pos 0) (crossed f.linear g.linear i j +ℤ (f.constant *ℤ g.square i j +ℤ g.constant *ℤ f.square i j))) D
      go true Q e n c = subst (λ (x : Frac). IsQuotient x (pos 0) D) (sym c) (is_zero (pos 0) D refl)
      go false Q e n c =
          subst (λ z. IsQuotient r z D) (ap₂ (λ y z. crossed f.linear g.linear i j +ℤ (f.constant *ℤ z +ℤ y *ℤ g.constant)) e n ∙ turn (crossed f.linear g.linear i j) (f.constant *ℤ g.square i j) (f.square i j) g.constant) (square_is i j r c)

-- ---- quotients: a over b, where b is c/e
pub coefficient-scaled : (k : ℤ) (f : Form) (m : ℤ) (u v : Option ℕ) → coefficient (scaled k f m) u v ≡ k *ℤ coefficient f u v
coefficient-scaled k f m None None = refl
coefficient-scaled k f m None (Some i) = refl
coefficient-scaled k f m (Some i) None = by_ring (k ∷ []) (lit (pos 0)) (var 0 ⊗ lit (pos 0)) refl
coefficient-scaled k f m (Some i) (Some j) = sym (kept_times (nat_lt j i) k (f.square i j))

quotient_is : (f : Form) (u v : Option ℕ) (x r : Frac) (g B C e : ℤ) → pos 0 <ℤ g → IsQuotient x (coefficient f u v) f.den → SameSign B C → B *ℤ e ≡ C *ℤ g → IsQuotient r (x.num *ℤ g) (x.den *ℤ B) → IsQuotient r (coefficient (divided_form f C e) u v) (divided_form f C e).den
quotient_is f u v x r g B C e p h (both_above m n) k q =
    subst (λ z. IsQuotient r z (f.den *ℤ pos (suc n))) (sym (coefficient-scaled e f (pos (suc n)) u v))
    (same_quotient r (x.num *ℤ g) (x.den *ℤ pos (suc m)) (e *ℤ coefficient f u v) (f.den *ℤ pos (suc n)) (mul_pos x.den (pos (suc m)) x.positive (omega (arith, ints))) q (over_cross x.num x.den (coefficient f u v) f.den g (pos (suc m)) (pos (suc n)) e h k))
quotient_is f u v x r g B C e p h (both_below m n) k q =
    subst (λ z. IsQuotient r z (f.den *ℤ pos (suc n))) (sym (coefficient-scaled (neg_ℤ e) f (pos (suc n)) u v))
    (same_quotient r (neg_ℤ (x.num *ℤ g)) (x.den *ℤ pos (suc m)) (neg_ℤ e *ℤ coefficient f u v) (f.den *ℤ pos (suc n)) (mul_pos x.den (pos (suc m)) x.positive (omega (arith, ints)))
    (by_ring (r.num ∷ x.den ∷ pos (suc m) ∷ []) (var 0 ⊗ (var 1 ⊗ var 2)) (neg (var 0 ⊗ (var 1 ⊗ neg (var 2)))) refl ∙ (ap neg_ℤ q ∙ by_ring (x.num ∷ g ∷ r.den ∷ []) (neg (var 0 ⊗ var 1 ⊗ var 2)) (neg (var 0 ⊗ var 1) ⊗ var 2) refl))
    (by_ring (x.num ∷ g ∷ f.den ∷ pos (suc n) ∷ []) (neg (var 0 ⊗ var 1) ⊗ (var 2 ⊗ var 3)) (var 0 ⊗ var 1 ⊗ (var 2 ⊗ neg (var 3))) refl ∙ (over_cross x.num x.den (coefficient f u v) f.den g (negsuc m) (negsuc n) e h k ∙ by_ring (e ∷ coefficient f u v ∷ x.den ∷ pos (suc m) ∷ []) (var 0 ⊗ var 1 ⊗ (var 2 ⊗ neg (var 3))) (neg (var 0) ⊗ var 1 ⊗ (var 2 ⊗ var 3)) refl)))

-- ---- any operation
-- a divisor's constant is not 0
abbrev pub CanJoin : Operator → Form → Type 0
CanJoin Plus g = Unit {0}
CanJoin Minus g = Unit {0}
CanJoin Times g = Unit {0}
CanJoin Over g = g.constant ≢ pos 0

pub can_join : (op : Operator) (f g : Form) → JoinFits op f g → CanJoin op g
can_join Plus f g fit = tt
can_join Minus f g fit = tt
can_join Times f g fit = tt
can_join Over f g fit = fit.1

pub formula_is : (op : Operator) (a b : Fractions) (f g : Form) → pos 0 <ℤ f.den → pos 0 <ℤ g.den → HasFractions a f → HasFractions b g → CanJoin op g → (q : Monomial) (r : Frac) → Gives (formula_at op a b q) r → IsQuotient r (coefficient (joined_form op f g) q.0 q.1) (joined_form op f g).den
formula_is Plus a b f g pf pg h k fit q r c =
    subst (λ z. IsQuotient r z (f.den *ℤ g.den)) (sym (coefficient-sum f g q.0 q.1)) (is_plus (a q) (b q) r (coefficient f q.0 q.1) f.den (coefficient g q.0 q.1) g.den (h q) (k q) (subst₂ (λ (x y : Frac). IsQuotient r (x.num *ℤ y.den +ℤ y.num *ℤ x.den) (x.den *ℤ y.den)) c.2 c.3 c.4))
formula_is Minus a b f g pf pg h k fit q r c =
    subst (λ z. IsQuotient r z (f.den *ℤ g.den)) (sym (coefficient-minus f g q.0 q.1)) (is_minus (a q) (b q) r (coefficient f q.0 q.1) f.den (coefficient g q.0 q.1) g.den (h q) (k q) (subst₂ (λ (x y : Frac). IsQuotient r (x.num *ℤ y.den -ℤ y.num *ℤ x.den) (x.den *ℤ y.den)) c.2 c.3 c.4))
formula_is Times a b f g pf pg h k fit q r c = product_at_is a b f g h k q.0 q.1 r c
formula_is Over a b f g pf pg h k fit q r c =
    let n = b (None, None) in
    let e : n.num *ℤ g.den ≡ g.constant *ℤ n.den = k (None, None) in
    quotient_is f q.0 q.1 (a q) r n.den n.num g.constant g.den n.positive (h q) (same_sign n.num g.constant g.den n.den pg n.positive fit e) e (subst₂ (λ (x y : Frac). IsQuotient r (x.num *ℤ y.den) (x.den *ℤ y.num)) c.2 c.3 c.5)

-- ---- a form has one fraction for each product of variables
pub fractions_one : (a b : Fractions) (f : Form) → pos 0 <ℤ f.den → HasFractions a f → HasFractions b f → a ≡ b
fractions_one a b f p h k = λ i q. one_value (coefficient f q.0 q.1) f.den (a q) (b q) p (h q) (k q) i

pub join_narrow : (op : Operator) (a b : Fractions) (f g : Form) → pos 0 <ℤ f.den → pos 0 <ℤ g.den → HasFractions a f → HasFractions b g → ((q : Monomial) → HasWideCall (formula_at op a b q) → ⊥) → JoinIsWide op f g → ⊥
join_narrow op a b f g pf pg h k narrow w =
    narrow w.4.0 (subst₂ (λ (c d : Fractions). HasWideCall (formula_at op c d w.4.0)) (fractions_one w.0 a f pf w.2 h) (fractions_one w.1 b g pg w.3 k) w.4.1)

pub none_large : (a : Fractions) (f : Form) → pos 0 <ℤ f.den → HasFractions a f → ((q : Monomial) → IsLarge (a q) → ⊥) → HasLarge f → ⊥
none_large a f p h small w = small w.0 (subst (λ (x : Frac). IsLarge x) (one_value (coefficient f w.0.0 w.0.1) f.den w.1 (a w.0) p w.2 (h w.0)) w.3)
