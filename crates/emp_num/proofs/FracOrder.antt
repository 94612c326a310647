-- The order and the signs of fractions.
use Rattle.std.proofs.Common.{◌≡◌, ◌⊎◌, inl, inr, ℤ, pos, ◌+ℤ◌, ◌*ℤ◌, ◌≤ℤ◌, ◌<ℤ◌, [], ◌∷◌, arith, refl, sym, ap, ◌∙◌}
use Rattle.std.specs.declared.cmp.Ordering.{Ordering}
use Rattle.std.specs.declared.cmp.Ordering.TheVariants.{Less, Equal, Greater}
use lib.IntN.{zero-*ℤ}
use Rattle.emp_algebra.proofs.Laws.{mul_pos, mul_nonneg}
use Rattle.emp_algebra.proofs.Order.{linear, le_or_lt, mul_le_right, mul_lt_right, le_cancel_right, cancel_right}
use Rattle.emp_algebra.proofs.Ring.{var, ◌⊗◌, by_ring}
use Rattle.emp_num.specs.FracSpec.{IsQuotient}
use Rattle.emp_num.specs.FracLaws.{AtMost, StandsTo}
use Rattle.emp_num.specs.Orders.{IsOrder}
use Rattle.emp_num.specs.declared.frac.Frac.{Frac}
use Rattle.emp_num.proofs.Same.{same_value}

-- ---- order
pub total : (a b : Frac) → AtMost a b ⊎ AtMost b a
total a b = go (le_or_lt (a.num *ℤ b.den) (b.num *ℤ a.den))
  where
    go : ((a.num *ℤ b.den) ≤ℤ (b.num *ℤ a.den)) ⊎ ((b.num *ℤ a.den) <ℤ (a.num *ℤ b.den)) → AtMost a b ⊎ AtMost b a
    go (inl h) = inl h
    go (inr h) = inr (omega (arith, linear))

turn : (x y z : ℤ) → x *ℤ y *ℤ z ≡ x *ℤ z *ℤ y
turn x y z = by_ring (x ∷ y ∷ z ∷ []) (var 0 ⊗ var 1 ⊗ var 2) (var 0 ⊗ var 2 ⊗ var 1) refl

pub goes_on : (a b c : Frac) → AtMost a b → AtMost b c → AtMost a c
goes_on a b c h k =
    let pa : pos 0 ≤ℤ a.den = omega (arith, linear, a.positive) in
    let pc : pos 0 ≤ℤ c.den = omega (arith, linear, c.positive) in
    let left = mul_le_right (a.num *ℤ b.den) (b.num *ℤ a.den) c.den h pc in
    let right = mul_le_right (b.num *ℤ c.den) (c.num *ℤ b.den) a.den k pa in
    let all : (a.num *ℤ c.den *ℤ b.den) ≤ℤ (c.num *ℤ a.den *ℤ b.den) = omega (arith, linear, left, right, turn a.num b.den c.den, turn b.num a.den c.den, turn c.num b.den a.den) in
    le_cancel_right (a.num *ℤ c.den) (c.num *ℤ a.den) b.den all b.positive

pub both_ways : (a b : Frac) → AtMost a b → AtMost b a → a ≡ b
both_ways a b h k = same_value a b (omega (arith, linear))

one_order : (o p : Ordering) (x y : ℤ) → IsOrder o x y → IsOrder p x y → o ≡ p
one_order Less Less x y h k = refl
one_order Equal Equal x y h k = refl
one_order Greater Greater x y h k = refl
one_order Less Equal x y h k = absurd (omega (arith, linear))
one_order Less Greater x y h k = absurd (omega (arith, linear))
one_order Equal Less x y h k = absurd (omega (arith, linear))
one_order Equal Greater x y h k = absurd (omega (arith, linear))
one_order Greater Less x y h k = absurd (omega (arith, linear))
one_order Greater Equal x y h k = absurd (omega (arith, linear))

pub one_answer : (o p : Ordering) (a b : Frac) → StandsTo o a b → StandsTo p a b → o ≡ p
one_answer o p a b h k = one_order o p (a.num *ℤ b.den) (b.num *ℤ a.den) h k

-- ---- one value
pub one_value : (n d : ℤ) (r s : Frac) → pos 0 <ℤ d → IsQuotient r n d → IsQuotient s n d → r ≡ s
one_value n d r s pd h k =
    same_value r s (cancel_right (r.num *ℤ s.den) (s.num *ℤ r.den) d
    (turn r.num s.den d ∙ (ap (λ z. z *ℤ s.den) h ∙ (turn n r.den s.den ∙ (sym (ap (λ z. z *ℤ r.den) k) ∙ turn s.num d r.den)))) pd)

-- ---- signs
pub not_below : (r : Frac) (n d : ℤ) → pos 0 <ℤ d → IsQuotient r n d → pos 0 ≤ℤ n → pos 0 ≤ℤ r.num
not_below r n d pd q h =
    let p : pos 0 ≤ℤ (n *ℤ r.den) = mul_nonneg n r.den h (omega (arith, linear, r.positive)) in
    le_cancel_right (pos 0) r.num d (omega (arith, linear, p, q, zero-*ℤ d)) pd

-- what is not at most 0 after a product by a number above 0 was above 0
above_cancels : (z d : ℤ) → pos 0 <ℤ (z *ℤ d) → pos 0 <ℤ d → pos 0 <ℤ z
above_cancels z d h k = go (le_or_lt z (pos 0))
  where
    go : (z ≤ℤ pos 0) ⊎ (pos 0 <ℤ z) → pos 0 <ℤ z
    go (inr l) = l
    go (inl l) = absurd (omega (arith, linear, mul_le_right z (pos 0) d l (omega (arith, linear)), zero-*ℤ d))

below_cancels : (z d : ℤ) → (z *ℤ d) <ℤ pos 0 → pos 0 <ℤ d → z <ℤ pos 0
below_cancels z d h k = go (le_or_lt (pos 0) z)
  where
    go : (pos 0 ≤ℤ z) ⊎ (z <ℤ pos 0) → z <ℤ pos 0
    go (inr l) = l
    go (inl l) = absurd (omega (arith, linear, mul_nonneg z d l (omega (arith, linear))))

pub above : (r : Frac) (n d : ℤ) → pos 0 <ℤ d → IsQuotient r n d → pos 0 <ℤ n → pos 0 <ℤ r.num
above r n d pd q h =
    let p : pos 0 <ℤ (n *ℤ r.den) = mul_pos n r.den h r.positive in
    above_cancels r.num d (omega (arith, linear, p, q)) pd

pub below : (r : Frac) (n d : ℤ) → pos 0 <ℤ d → IsQuotient r n d → n <ℤ pos 0 → r.num <ℤ pos 0
below r n d pd q h =
    let p : (n *ℤ r.den) <ℤ (pos 0 *ℤ r.den) = mul_lt_right n (pos 0) r.den h r.positive in
    below_cancels r.num d (omega (arith, linear, p, q, zero-*ℤ r.den)) pd

pub none : (r : Frac) (n d : ℤ) → pos 0 <ℤ d → IsQuotient r n d → n ≡ pos 0 → r.num ≡ pos 0
none r n d pd q h =
    cancel_right r.num (pos 0) d (q ∙ (ap (λ z. z *ℤ r.den) h ∙ (zero-*ℤ r.den ∙ sym (zero-*ℤ d)))) pd

-- ---- sums and products
pub sum_sign : (a b r : Frac) → IsQuotient r (a.num *ℤ b.den +ℤ b.num *ℤ a.den) (a.den *ℤ b.den) → pos 0 ≤ℤ a.num → pos 0 ≤ℤ b.num → pos 0 ≤ℤ r.num
sum_sign a b r q h k =
    let p : pos 0 ≤ℤ (a.num *ℤ b.den) = mul_nonneg a.num b.den h (omega (arith, linear, b.positive)) in
    let s : pos 0 ≤ℤ (b.num *ℤ a.den) = mul_nonneg b.num a.den k (omega (arith, linear, a.positive)) in
    not_below r (a.num *ℤ b.den +ℤ b.num *ℤ a.den) (a.den *ℤ b.den) (mul_pos a.den b.den a.positive b.positive) q (omega (arith, linear, p, s))

pub sum_above : (a b r : Frac) → IsQuotient r (a.num *ℤ b.den +ℤ b.num *ℤ a.den) (a.den *ℤ b.den) → pos 0 <ℤ a.num → pos 0 ≤ℤ b.num → pos 0 <ℤ r.num
sum_above a b r q h k =
    let p : pos 0 <ℤ (a.num *ℤ b.den) = mul_pos a.num b.den h b.positive in
    let s : pos 0 ≤ℤ (b.num *ℤ a.den) = mul_nonneg b.num a.den k (omega (arith, linear, a.positive)) in
    above r (a.num *ℤ b.den +ℤ b.num *ℤ a.den) (a.den *ℤ b.den) (mul_pos a.den b.den a.positive b.positive) q (omega (arith, linear, p, s))

pub product_sign : (a b r : Frac) → IsQuotient r (a.num *ℤ b.num) (a.den *ℤ b.den) → pos 0 ≤ℤ a.num → pos 0 ≤ℤ b.num → pos 0 ≤ℤ r.num
product_sign a b r q h k = not_below r (a.num *ℤ b.num) (a.den *ℤ b.den) (mul_pos a.den b.den a.positive b.positive) q (mul_nonneg a.num b.num h k)

pub product_above : (a b r : Frac) → IsQuotient r (a.num *ℤ b.num) (a.den *ℤ b.den) → pos 0 <ℤ a.num → pos 0 <ℤ b.num → pos 0 <ℤ r.num
product_above a b r q h k = above r (a.num *ℤ b.num) (a.den *ℤ b.den) (mul_pos a.den b.den a.positive b.positive) q (mul_pos a.num b.num h k)

pub product_below : (a b r : Frac) → IsQuotient r (a.num *ℤ b.num) (a.den *ℤ b.den) → a.num <ℤ pos 0 → pos 0 <ℤ b.num → r.num <ℤ pos 0
product_below a b r q h k =
    let p : (a.num *ℤ b.num) <ℤ (pos 0 *ℤ b.num) = mul_lt_right a.num (pos 0) b.num h k in
    below r (a.num *ℤ b.num) (a.den *ℤ b.den) (mul_pos a.den b.den a.positive b.positive) q (omega (arith, linear, p, zero-*ℤ b.num))
