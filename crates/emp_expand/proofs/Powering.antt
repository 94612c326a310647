-- Numbers as polynomials, and powers.
use Rattle.std.proofs.Common.{◌≡◌, ◌≢◌, ◌⊎◌, inl, inr, ℕ, zero, suc, ◌+◌, ◌≤◌, ℤ, pos, ◌+ℤ◌, ◌*ℤ◌, ◌<ℤ◌, Bool, true, false, cond, [], ◌∷◌, Option, Some, None, Result, Ok, Err, MatchResult, arith, refl, sym, ap, ap₂, subst, subst₂, ◌∙◌, add-one}
use Rattle.std.specs.Prelude.{nat_lt, nat_eq}
use Rattle.std.proofs.lemmas.Int.{ints}
use lib.IntN.{zero-*ℤ, *ℤ-zero}
use borrow.Author.Tests.{ltb-false}
use Rattle.emp_algebra.proofs.Laws.{mul_pos}
use Rattle.emp_algebra.proofs.Ring.{var, lit, ◌⊕◌, ◌⊗◌, by_ring}
use Rattle.emp_num.specs.FracSpec.{IsQuotient, MultipliesNarrow, MultipliesWide}
use Rattle.emp_num.specs.Whole.{whole}
use Rattle.emp_num.specs.declared.exact.Wide.{Wide as TheWide}
use Rattle.emp_num.specs.declared.frac.Frac.{Frac}
use Rattle.emp_num.proofs.FracOrder.{one_value}
use Rattle.emp_ast.specs.declared.tree.Operator.TheVariants.{Times}
use Rattle.emp_form.specs.Form.{Form, Monomial, coefficient, crossed, form_of, product_form, power_form, IsConstant, IsLinear, PowerFits}
use Rattle.emp_form.specs.Calls.{given, multiplied, HasWideCall}
use Rattle.emp_form.specs.Wide.{product_at, JoinIsWide, PowerIsWide, HasLarge, IsLarge}
use Rattle.emp_form.proofs.Running.{multiplies_narrow}
use Rattle.emp_form.proofs.Formulas.{is_product, is_zero}
use Rattle.emp_form.proofs.Vanishing.{vanishes_product_at}
use Rattle.emp_expand.specs.Factors.{factor, fractions}
use Rattle.emp_expand.specs.Stands.{StandsAt, Stands}
use Rattle.emp_expand.specs.Steps.{Finishes}
use Rattle.emp_expand.specs.Joins.{Kept, Joined, TimesGives}
use Rattle.emp_expand.specs.Degrees.{OnlyConstant, OnlyLinear, DegreeIs}
use Rattle.emp_expand.specs.declared.coefficients.Degree.TheVariants.{Linear, Quadratic}
use Rattle.emp_expand.specs.Powers.{ConstantOf, ConstantGives, IsNumber, PowerOf, PowerRuns, PowerEndsWide, Raised, NodeRaised, PowerGives}
use Rattle.emp_expand.specs.declared.coefficients.Coefficients.{Coefficients}
use Rattle.emp_expand.specs.declared.sums.PartFault.{PartFault}
use Rattle.emp_expand.specs.declared.sums.PartFault.TheVariants.{NoMemory as PartNoMemory, Wide as PartWide}
use Rattle.emp_expand.specs.declared.products.NodeFault.{NodeFault}
use Rattle.emp_expand.specs.declared.products.NodeFault.TheVariants.{Degree, Wide}
use Rattle.emp_expand.proofs.Keys.{key_cases}
use Rattle.emp_expand.proofs.Degrees.{constant_form, linear_form, not_constant, not_linear}
use Rattle.emp_expand.proofs.Standing.{has_fractions, finished_is, stands_small}

-- ---- constant forms
zero_coefficient : (f : Form) (u v : Option ℕ) → IsConstant f → (u ≡ None → v ≡ None → ⊥) → coefficient f u v ≡ pos 0
zero_coefficient f None None h some = absurd (some refl refl)
zero_coefficient f None (Some i) h some = h.linear i
zero_coefficient f (Some i) None h some = refl
zero_coefficient f (Some i) (Some j) h some = go (nat_lt j i) refl
  where
    go : (t : Bool) → nat_lt j i ≡ t → cond t (pos 0) (f.square i j) ≡ pos 0
    go true e = refl
    go false e = h.square i j (ltb-false j i e)

abbrev one : Monomial
one = (None, None)

not_one : (q : Monomial) → q ≢ one → q.0 ≡ None → q.1 ≡ None → ⊥
not_one q ne e f = ne (λ i. (e i, f i))

pub number_stands : (c d : Coefficients) (v : Frac) (o : Option Frac) (f : Form) → IsNumber v f → Finishes v (Ok o) → ((q : Monomial) → factor c q ≡ None) → factor d one ≡ o → ((q : Monomial) → q ≢ one → factor d q ≡ factor c q) → Stands d f
number_stands c d v o f h fin empty here others = record { den = h.den; at = λ q. go q (key_cases one q) }
  where
    at_one : StandsAt (factor d one) f.constant f.den
    at_one = subst (λ o. StandsAt o f.constant f.den) (sym here) (finished_is v o f.constant f.den fin h.same)

    go : (q : Monomial) → (q ≡ one) ⊎ (q ≢ one) → StandsAt (factor d q) (coefficient f q.0 q.1) f.den
    go q (inl e) = subst (λ (q : Monomial). StandsAt (factor d q) (coefficient f q.0 q.1) f.den) (sym e) at_one
    go q (inr ne) = subst (λ o. StandsAt o (coefficient f q.0 q.1) f.den) (sym (others q ne ∙ empty q)) (zero_coefficient f q.0 q.1 h.only (not_one q ne))

pub number_ok : (c d : Coefficients) (v : Frac) (o : Option Frac) (f : Form) → IsNumber v f → Finishes v (Ok o) → ((q : Monomial) → factor c q ≡ None) → factor d one ≡ o → ((q : Monomial) → q ≢ one → factor d q ≡ factor c q) → ConstantOf f (Ok d)
number_ok c d v o f h fin empty here others =
    let s = number_stands c d v o f h fin empty here others in
    (s, stands_small d f s)

pub number_large : (v : Frac) (f : Form) → IsNumber v f → IsLarge v → HasLarge f
number_large v f h l = (one, v, h.same, l)

pub constant_number : (c : Coefficients) (f : Form) → Stands c f → OnlyConstant c → IsNumber (fractions c one) f
constant_number c f h o = record { den = h.den; only = constant_form c f h o; same = has_fractions c f h one }

-- ---- products of numbers
crossed_zero : (a b : ℕ → ℤ) (i j : ℕ) (t : Bool) → ((i : ℕ) → a i ≡ pos 0) → cond t (a i *ℤ b i) (a i *ℤ b j +ℤ a j *ℤ b i) ≡ pos 0
crossed_zero a b i j true h = ap (λ z. z *ℤ b i) (h i) ∙ zero-*ℤ (b i)
crossed_zero a b i j false h = ap₂ (λ y z. y *ℤ b j +ℤ z *ℤ b i) (h i) (h j) ∙ by_ring (b i ∷ b j ∷ []) (lit (pos 0) ⊗ var 1 ⊕ lit (pos 0) ⊗ var 0) (lit (pos 0)) refl

constant_product : (f g : Form) → IsConstant f → IsConstant g → IsConstant (product_form f g)
constant_product f g h k = record {
  linear = λ i. ap₂ (λ y z. f.constant *ℤ y +ℤ g.constant *ℤ z) (k.linear i) (h.linear i) ∙ by_ring (f.constant ∷ g.constant ∷ []) (var 0 ⊗ lit (pos 0) ⊕ var 1 ⊗ lit (pos 0)) (lit (pos 0)) refl;
  square = λ i j l. ap₂ (λ x y. x +ℤ y) (crossed_zero f.linear g.linear i j (nat_eq i j) h.linear) (ap₂ (λ y z. f.constant *ℤ y +ℤ g.constant *ℤ z) (k.square i j l) (h.square i j l)) ∙ by_ring (f.constant ∷ g.constant ∷ []) (lit (pos 0) ⊕ (var 0 ⊗ lit (pos 0) ⊕ var 1 ⊗ lit (pos 0))) (lit (pos 0)) refl;
}

number_product : (x c r : Frac) (f g : Form) → IsNumber x g → IsNumber c f → IsQuotient r (x.num *ℤ c.num) (x.den *ℤ c.den) → IsNumber r (product_form f g)
number_product x c r f g h k q = record {
  den = mul_pos f.den g.den k.den h.den;
  only = constant_product f g k.only h.only;
  same = subst₂ (λ z d. IsQuotient r z d) (by_ring (g.constant ∷ f.constant ∷ []) (var 0 ⊗ var 1) (var 1 ⊗ var 0) refl) (by_ring (g.den ∷ f.den ∷ []) (var 0 ⊗ var 1) (var 1 ⊗ var 0) refl) (is_product x c r g.constant g.den f.constant f.den h.same k.same q);
}

-- the only call is that on the two numbers
number_call : (x c : Frac) (f g : Form) → IsNumber x g → IsNumber c f → JoinIsWide Times g f → MultipliesWide x c
number_call x c f g h k w = go w.4.0.0 w.4.0.1 w.4.1
  where
    zero_left : (u v : Option ℕ) → (u ≡ None → v ≡ None → ⊥) → w.0 (u, v) ≡ whole 0
    zero_left u v some = one_value (coefficient g u v) g.den (w.0 (u, v)) (whole 0) h.den (w.2 (u, v)) (is_zero (coefficient g u v) g.den (zero_coefficient g u v h.only some))

    zero_right : (u v : Option ℕ) → (u ≡ None → v ≡ None → ⊥) → w.1 (u, v) ≡ whole 0
    zero_right u v some = one_value (coefficient f u v) f.den (w.1 (u, v)) (whole 0) k.den (w.3 (u, v)) (is_zero (coefficient f u v) f.den (zero_coefficient f u v k.only some))

    some_none : (i : ℕ) → Some i ≡ None → ⊥
    some_none i e = cc

    beyond : (u v : Option ℕ) → (u ≡ None → v ≡ None → ⊥) → HasWideCall (product_at w.0 w.1 u v) → ⊥
    beyond u v some call =
        (vanishes_product_at w.0 w.1 u v (zero_left u v some) (zero_right u v some) (λ i j e n l. (inl (zero_left None (Some i) (λ a b. some_none i b)), inl (zero_left None (Some j) (λ a b. some_none j b))))).0 call

    numbers : HasWideCall (multiplied (given (w.0 one)) (given (w.1 one))) → MultipliesWide x c
    numbers (inl call) = absurd call
    numbers (inr (inl call)) = absurd call
    numbers (inr (inr call)) =
        subst₂ MultipliesWide (call.2 ∙ one_value g.constant g.den (w.0 one) x h.den (w.2 one) h.same) (call.3 ∙ one_value f.constant f.den (w.1 one) c k.den (w.3 one) k.same) call.4

    go : (u v : Option ℕ) → HasWideCall (product_at w.0 w.1 u v) → MultipliesWide x c
    go None None call = numbers call
    go None (Some i) call = absurd (beyond None (Some i) (λ a b. some_none i b) call)
    go (Some i) v call = absurd (beyond (Some i) v (λ a b. some_none i a) call)

abbrev number_fractions : Frac → Option ℕ → Option ℕ → Frac
number_fractions x None None = x
number_fractions x None (Some i) = whole 0
number_fractions x (Some i) v = whole 0

number_has : (x : Frac) (f : Form) → IsNumber x f → (u v : Option ℕ) → IsQuotient (number_fractions x u v) (coefficient f u v) f.den
number_has x f h None None = h.same
number_has x f h None (Some i) = is_zero (f.linear i) f.den (zero_coefficient f None (Some i) h.only (λ a b. cc))
number_has x f h (Some i) v = is_zero (coefficient f (Some i) v) f.den (zero_coefficient f (Some i) v h.only (λ a b. cc))

number_wide : (x c : Frac) (f g : Form) → IsNumber x g → IsNumber c f → MultipliesWide x c → JoinIsWide Times g f
number_wide x c f g h k w = (
  (λ q. number_fractions x q.0 q.1),
  (λ q. number_fractions c q.0 q.1),
  (λ q. number_has x g h q.0 q.1),
  (λ q. number_has c f k q.0 q.1),
  (one, inr (inr (x, c, refl, refl, w))),
)

-- ---- powers of a number
one_constant : IsConstant (form_of (pos 1) (pos 1))
one_constant = record { linear = λ i. refl; square = λ i j l. refl }

pub power_first : (c : Frac) (f : Form) → IsNumber c f → PowerOf f 1 (Ok c)
power_first c f h = (
  record {
    den = mul_pos f.den (pos 1) h.den (omega (arith, ints));
    only = constant_product f (form_of (pos 1) (pos 1)) h.only one_constant;
    same = by_ring (c.num ∷ f.den ∷ []) (var 0 ⊗ (var 1 ⊗ lit (pos 1))) (var 0 ⊗ var 1) refl ∙ (h.same ∙ by_ring (f.constant ∷ c.den ∷ []) (var 0 ⊗ var 1) (var 0 ⊗ lit (pos 1) ⊗ var 1) refl);
  },
  λ w. w,
)

pub power_next : (x c : Frac) (f : Form) (n : ℕ) (r : Result Frac TheWide) → 1 ≤ n → IsNumber c f → PowerOf f n (Ok x) → MatchResult r (λ r. MultipliesNarrow x c × IsQuotient r (x.num *ℤ c.num) (x.den *ℤ c.den)) (λ w. MultipliesWide x c) → PowerOf f (n + 1) r
power_next x c f zero r l h p s = absurd (omega arith)
power_next x c f (suc n) (Ok r) l h p s = subst (λ m. PowerOf f m (Ok r)) (sym (add-one (suc n))) (number_product x c r f (power_form f (suc n)) p.0 h s.1, narrow)
  where
    narrow : PowerIsWide f (suc n) ⊎ JoinIsWide Times (power_form f (suc n)) f → ⊥
    narrow (inl w) = p.1 w
    narrow (inr w) = multiplies_narrow x c s.0 (number_call x c f (power_form f (suc n)) p.0 h w)
power_next x c f (suc n) (Err w) l h p s = subst (λ m. PowerOf f m (Err w)) (sym (add-one (suc n))) (inr (number_wide x c f (power_form f (suc n)) p.0 h s))

-- a power that is wide before the last product is wide
pub power_wide : (f : Form) (m n : ℕ) → 1 ≤ m → m ≤ n → PowerIsWide f m → PowerIsWide f n
power_wide f m zero one_le le w = absurd (omega arith)
power_wide f m (suc zero) one_le le w = let e : m ≡ 1 = omega arith in subst (λ k. PowerIsWide f k) e w
power_wide f m (suc (suc n)) one_le le w = go (last m (suc n) le) (λ h. power_wide f m (suc n) one_le h w)
  where
    last : (m n : ℕ) → m ≤ suc n → (m ≤ n) ⊎ (m ≡ suc n)
    last m n h = grind arith

    go : (m ≤ suc n) ⊎ (m ≡ suc (suc n)) → (m ≤ suc n → PowerIsWide f (suc n)) → PowerIsWide f (suc (suc n))
    go (inl h) before = inl (before h)
    go (inr e) before = subst (λ k. PowerIsWide f k) e w

pub raised : (x : Frac) (f : Form) (n : ℕ) (r : Result Coefficients PartFault) → PowerOf f n (Ok x) → ConstantOf (power_form f n) r → Raised f n r
raised x f n (Ok r) p c = (c.0, narrow)
  where
    narrow : PowerEndsWide f n → ⊥
    narrow (inl w) = p.1 w
    narrow (inr w) = c.1 w
raised x f n (Err PartWide) p c = inr c
raised x f n (Err PartNoMemory) p c = tt

-- ---- a polynomial to the powers 0, 1 and 2
pub one_number : (v : Frac) → IsQuotient v (pos 1) (pos 1) → IsNumber v (form_of (pos 1) (pos 1))
one_number v h = record { den = omega (arith, ints); only = one_constant; same = h }

no_power_wide : (f : Form) → PowerEndsWide f 0 → HasLarge (form_of (pos 1) (pos 1))
no_power_wide f (inl w) = absurd w
no_power_wide f (inr w) = w

pub node_power_zero : (f : Form) (r : Result Coefficients PartFault) (m : Result Coefficients NodeFault) → Kept r m → ConstantOf (form_of (pos 1) (pos 1)) r → NodeRaised f 0 m
node_power_zero f (Ok r) (Ok m) e c = subst (λ m. NodeRaised f 0 (Ok m)) (sym e) (c.0, tt, λ w. c.1 (no_power_wide f w))
node_power_zero f (Ok r) (Err n) e c = absurd e
node_power_zero f (Err p) (Ok m) e c = absurd e
node_power_zero f (Err PartWide) (Err n) e c = subst (λ n. NodeRaised f 0 (Err n)) (sym e) (tt, inr c)
node_power_zero f (Err PartNoMemory) (Err n) e c = subst (λ n. NodeRaised f 0 (Err n)) (sym e) tt

-- a form times 1 has the same coefficients
with_one : (f : Form) (u v : Option ℕ) → coefficient (product_form f (form_of (pos 1) (pos 1))) u v ≡ coefficient f u v
with_one f None None = by_ring (f.constant ∷ []) (var 0 ⊗ lit (pos 1)) (var 0) refl
with_one f None (Some i) = by_ring (f.constant ∷ f.linear i ∷ []) (var 0 ⊗ lit (pos 0) ⊕ lit (pos 1) ⊗ var 1) (var 1) refl
with_one f (Some i) None = refl
with_one f (Some i) (Some j) = go (nat_lt j i)
  where
    crossed_one : (t : Bool) → cond t (f.linear i *ℤ pos 0) (f.linear i *ℤ pos 0 +ℤ f.linear j *ℤ pos 0) ≡ pos 0
    crossed_one true = *ℤ-zero (f.linear i)
    crossed_one false = by_ring (f.linear i ∷ f.linear j ∷ []) (var 0 ⊗ lit (pos 0) ⊕ var 1 ⊗ lit (pos 0)) (lit (pos 0)) refl

    go : (t : Bool) → cond t (pos 0) (crossed f.linear (λ k. pos 0) i j +ℤ (f.constant *ℤ pos 0 +ℤ pos 1 *ℤ f.square i j)) ≡ cond t (pos 0) (f.square i j)
    go true = refl
    go false = ap (λ z. z +ℤ (f.constant *ℤ pos 0 +ℤ pos 1 *ℤ f.square i j)) (crossed_one (nat_eq i j)) ∙ by_ring (f.constant ∷ f.square i j ∷ []) (lit (pos 0) ⊕ (var 0 ⊗ lit (pos 0) ⊕ lit (pos 1) ⊗ var 1)) (var 1) refl

one_den : (d : ℤ) → d *ℤ pos 1 ≡ d
one_den d = by_ring (d ∷ []) (var 0 ⊗ lit (pos 1)) (var 0) refl

pub stands_same : (c : Coefficients) (f g : Form) → f.den ≡ g.den → ((u v : Option ℕ) → coefficient f u v ≡ coefficient g u v) → Stands c f → Stands c g
stands_same c f g d e h = record {
  den = subst (λ z. pos 0 <ℤ z) d h.den;
  at = λ q. subst (λ z. StandsAt (factor c q) z g.den) (e q.0 q.1) (subst (λ z. StandsAt (factor c q) (coefficient f q.0 q.1) z) d (h.at q));
}

pub stands_once : (c : Coefficients) (f : Form) → Stands c f → Stands c (power_form f 1)
stands_once c f h = stands_same c f (power_form f 1) (sym (one_den f.den)) (λ u v. sym (with_one f u v)) h

pub node_power_one : (c : Coefficients) (f : Form) → Stands c f → NodeRaised f 1 (Ok c)
node_power_one c f h = let s = stands_once c f h in (s, tt, narrow)
  where
    narrow : PowerEndsWide f 1 → ⊥
    narrow (inl w) = w
    narrow (inr w) = stands_small c (power_form f 1) (stands_once c f h) w

turned : (f g : Form) (u v : Option ℕ) → coefficient (product_form f g) u v ≡ coefficient (product_form g f) u v
turned f g None None = by_ring (f.constant ∷ g.constant ∷ []) (var 0 ⊗ var 1) (var 1 ⊗ var 0) refl
turned f g None (Some i) = by_ring (f.constant ∷ g.linear i ∷ g.constant ∷ f.linear i ∷ []) (var 0 ⊗ var 1 ⊕ var 2 ⊗ var 3) (var 2 ⊗ var 3 ⊕ var 0 ⊗ var 1) refl
turned f g (Some i) None = refl
turned f g (Some i) (Some j) = ap₂ (λ x y. cond (nat_lt j i) (pos 0) (x +ℤ y)) (go (nat_eq i j)) (by_ring (f.constant ∷ g.square i j ∷ g.constant ∷ f.square i j ∷ []) (var 0 ⊗ var 1 ⊕ var 2 ⊗ var 3) (var 2 ⊗ var 3 ⊕ var 0 ⊗ var 1) refl)
  where
    go : (t : Bool) → cond t (f.linear i *ℤ g.linear i) (f.linear i *ℤ g.linear j +ℤ f.linear j *ℤ g.linear i) ≡ cond t (g.linear i *ℤ f.linear i) (g.linear i *ℤ f.linear j +ℤ g.linear j *ℤ f.linear i)
    go true = by_ring (f.linear i ∷ g.linear i ∷ []) (var 0 ⊗ var 1) (var 1 ⊗ var 0) refl
    go false = by_ring (f.linear i ∷ g.linear i ∷ f.linear j ∷ g.linear j ∷ []) (var 0 ⊗ var 3 ⊕ var 2 ⊗ var 1) (var 1 ⊗ var 2 ⊕ var 3 ⊗ var 0) refl

den_turned : (d e : ℤ) → d *ℤ e ≡ e *ℤ d
den_turned d e = by_ring (d ∷ e ∷ []) (var 0 ⊗ var 1) (var 1 ⊗ var 0) refl

large_turned : (f g : Form) → HasLarge (product_form f g) → HasLarge (product_form g f)
large_turned f g w = (w.0, w.1, subst₂ (λ z d. IsQuotient w.1 z d) (turned f g w.0.0 w.0.1) (den_turned f.den g.den) w.2, w.3)

square_raised : (c : Coefficients) (f : Form) (r : Result Coefficients PartFault) → Stands c f → Joined Times (power_form f 1) f r → Raised f 2 r
square_raised c f (Ok r) h j = (s, narrow)
  where
    s : Stands r (power_form f 2)
    s = stands_same r (product_form (power_form f 1) f) (power_form f 2) (den_turned (power_form f 1).den f.den) (turned (power_form f 1) f) j.0

    narrow : PowerEndsWide f 2 → ⊥
    narrow (inl (inl w)) = w
    narrow (inl (inr w)) = j.1 (inl w)
    narrow (inr w) = stands_small r (power_form f 2) s w
square_raised c f (Err PartWide) h (inl w) = inl (inr w)
square_raised c f (Err PartWide) h (inr w) = inr (large_turned (power_form f 1) f w)
square_raised c f (Err PartNoMemory) h j = tt

pub node_kept : (f : Form) (n : ℕ) (r : Result Coefficients PartFault) (m : Result Coefficients NodeFault) → Kept r m → PowerFits f n → Raised f n r → NodeRaised f n m
node_kept f n (Ok r) (Ok m) e fit c = subst (λ m. NodeRaised f n (Ok m)) (sym e) (c.0, fit, c.1)
node_kept f n (Ok r) (Err k) e fit c = absurd e
node_kept f n (Err p) (Ok m) e fit c = absurd e
node_kept f n (Err PartWide) (Err k) e fit c = subst (λ k. NodeRaised f n (Err k)) (sym e) (fit, c)
node_kept f n (Err PartNoMemory) (Err k) e fit c = subst (λ k. NodeRaised f n (Err k)) (sym e) tt

pub node_square : (c : Coefficients) (r : Result Coefficients PartFault) (m : Result Coefficients NodeFault) → OnlyLinear c → TimesGives c c r → Kept r m → PowerGives c 2 m
node_square c r m only t kept f h = node_kept f 2 r m kept (linear_form c f h only) (square_raised c f r h (t (power_form f 1) f (stands_once c f h) h))

pub constant_fits : (f : Form) (n : ℕ) → IsConstant f → PowerFits f n
constant_fits f zero h = tt
constant_fits f (suc zero) h = tt
constant_fits f (suc (suc zero)) h = record { square = h.square }
constant_fits f (suc (suc (suc n))) h = h

pub no_power : (f : Form) (n : ℕ) → n ≢ 0 → n ≢ 1 → n ≢ 2 → (IsConstant f → ⊥) → PowerFits f n → ⊥
no_power f zero a b c h fit = a refl
no_power f (suc zero) a b c h fit = b refl
no_power f (suc (suc zero)) a b c h fit = c refl
no_power f (suc (suc (suc n))) a b c h fit = h fit

pub no_square : (f : Form) (n : ℕ) → n ≢ 0 → n ≢ 1 → (IsLinear f → ⊥) → PowerFits f n → ⊥
no_square f zero a b h fit = a refl
no_square f (suc zero) a b h fit = b refl
no_square f (suc (suc zero)) a b h fit = h fit
no_square f (suc (suc (suc n))) a b h fit = h (record { square = fit.square })

-- ---- a constant to a power
pub constant_wide : (c : Coefficients) (n : ℕ) (v : Frac) (w : TheWide) → OnlyConstant c → v ≡ fractions c one → PowerRuns v n (Err w) → PowerGives c n (Err Wide)
constant_wide c n v w only e p f h =
    (constant_fits f n (constant_form c f h only), inl (p f (subst (λ (v : Frac). IsNumber v f) (sym e) (constant_number c f h only))))

pub constant_raised : (c : Coefficients) (n : ℕ) (v x : Frac) (r : Result Coefficients PartFault) (m : Result Coefficients NodeFault) → OnlyConstant c → v ≡ fractions c one → PowerRuns v n (Ok x) → ConstantGives x r → Kept r m → PowerGives c n m
constant_raised c n v x r m only e p s kept f h =
    let q = p f (subst (λ (v : Frac). IsNumber v f) (sym e) (constant_number c f h only)) in
    node_kept f n r m kept (constant_fits f n (constant_form c f h only)) (raised x f n r q (s (power_form f n) q.0))

-- ---- by the exponent
pub power_zero : (c : Coefficients) (n : ℕ) (m : Result Coefficients NodeFault) → n ≡ 0 → ((f : Form) → NodeRaised f 0 m) → PowerGives c n m
power_zero c n m e s f h = subst (λ n. NodeRaised f n m) (sym e) (s f)

pub power_one : (c : Coefficients) (n : ℕ) → n ≡ 1 → PowerGives c n (Ok c)
power_one c n e f h = subst (λ n. NodeRaised f n (Ok c)) (sym e) (node_power_one c f h)

pub power_two : (c : Coefficients) (n : ℕ) (m : Result Coefficients NodeFault) → n ≡ 2 → PowerGives c 2 m → PowerGives c n m
power_two c n m e s f h = subst (λ n. NodeRaised f n m) (sym e) (s f h)

pub power_linear : (c : Coefficients) (n : ℕ) → DegreeIs c Linear → n ≢ 0 → n ≢ 1 → n ≢ 2 → PowerGives c n (Err Degree)
power_linear c n d a b e f h = no_power f n a b e (not_constant c f d.1.0 d.1.1 h d.1.2)

pub power_quadratic : (c : Coefficients) (n : ℕ) → DegreeIs c Quadratic → n ≢ 0 → n ≢ 1 → PowerGives c n (Err Degree)
power_quadratic c n d a b f h = no_square f n a b (not_linear c f d.0 d.1 d.2 h d.3)
