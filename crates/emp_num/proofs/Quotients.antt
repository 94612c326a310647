-- Quotients compared by their whole parts and remainders.
use Rattle.std.proofs.Common.{◌≡◌, ℕ, zero, suc, ◌+◌, ◌*◌, ◌/◌, ◌%◌, ◌<◌, ◌≤◌, ℤ, pos, negsuc, neg_ℤ, ◌*ℤ◌, ◌<ℤ◌, ◌≤ℤ◌, unsigned_abs, ◌-◌, arith, ap, mod-lt, to_z-of_z}
use native.Mathlib.Nat.{div-add-mod, mul-lt-mul_of_pos_left}
use Rattle.std.proofs.lemmas.Int.{ints}
use Rattle.std.specs.declared.cmp.Ordering.{Ordering}
use Rattle.std.specs.declared.cmp.Ordering.TheVariants.{Less, Equal, Greater}
use Rattle.emp_algebra.proofs.Laws.{neg_ℤ-*ℤ}
use Rattle.emp_num.specs.Orders.{IsOrder, IsCountOrder}

mul_le : (k m n : ℕ) → m ≤ n → k * m ≤ k * n
mul_le k m n h = omega (arith, ap (λ x. k * x) (let e : n ≡ m + (n - m) = omega arith in e))

-- a number by its whole part and its rest, times another
split : (a b d : ℕ) → a * d ≡ b * (a / b) * d + a % b * d
split a b d = omega (arith, ap (λ n. n * d) (div-add-mod a b))

pub whole_less : (a b c d : ℕ) → 0 < b → 0 < d → a / b < c / d → a * d < c * b
whole_less a b c d pb pd h =
    let below : d * (a % b) < d * b = mul-lt-mul_of_pos_left (mod-lt a pb) pd in
    let parts : b * d * (a / b + 1) ≤ b * d * (c / d) = mul_le (b * d) (a / b + 1) (c / d) (omega arith) in
    omega (arith, split a b d, split c d b)

-- the rests alone order two quotients with one whole part
pub rests_order : (o : Ordering) (a b c d : ℕ) → a / b ≡ c / d → IsCountOrder o (a % b * d) (c % d * b) → IsCountOrder o (a * d) (c * b)
rests_order Less a b c d e h = omega (arith, split a b d, split c d b, ap (λ n. b * d * n) e)
rests_order Equal a b c d e h = omega (arith, split a b d, split c d b, ap (λ n. b * d * n) e)
rests_order Greater a b c d e h = omega (arith, split a b d, split c d b, ap (λ n. b * d * n) e)

pub rests_swap : (o : Ordering) (a b c d : ℕ) → a / b ≡ c / d → IsCountOrder o (d * (a % b)) (b * (c % d)) → IsCountOrder o (a * d) (c * b)
rests_swap Less a b c d e h = rests_order Less a b c d e (omega arith)
rests_swap Equal a b c d e h = rests_order Equal a b c d e (omega arith)
rests_swap Greater a b c d e h = rests_order Greater a b c d e (omega arith)

pub rests_none : (a b c d : ℕ) → a / b ≡ c / d → a % b ≡ 0 → c % d ≡ 0 → a * d ≡ c * b
rests_none a b c d e h k = rests_order Equal a b c d e (omega (arith, ap (λ n. n * d) h, ap (λ n. n * b) k))

pub rest_less : (a b c d : ℕ) → 0 < b → a / b ≡ c / d → a % b ≡ 0 → 0 < c % d → a * d < c * b
rest_less a b c d pb e h k =
    let p : b * 0 < b * (c % d) = mul-lt-mul_of_pos_left k pb in
    rests_order Less a b c d e (omega (arith, ap (λ n. n * d) h))

pub ruleset whole_parts = (whole_less, rests_none, rest_less)

-- ---- signs
up_order : (o : Ordering) (m n : ℕ) → IsCountOrder o m n → IsOrder o (pos m) (pos n)
up_order Less m n h = omega (arith, ints)
up_order Equal m n h = ap pos h
up_order Greater m n h = omega (arith, ints)

down_order : (o : Ordering) (m n d e : ℕ) → IsCountOrder o (n * d) (m * e) → IsOrder o (neg_ℤ (pos m) *ℤ pos e) (neg_ℤ (pos n) *ℤ pos d)
down_order Less m n d e h = omega (arith, ints, neg_ℤ-*ℤ (pos m) (pos e), neg_ℤ-*ℤ (pos n) (pos d))
down_order Equal m n d e h = omega (arith, ints, neg_ℤ-*ℤ (pos m) (pos e), neg_ℤ-*ℤ (pos n) (pos d))
down_order Greater m n d e h = omega (arith, ints, neg_ℤ-*ℤ (pos m) (pos e), neg_ℤ-*ℤ (pos n) (pos d))

pub less_by_sign : (a b d e : ℤ) → a <ℤ pos 0 → pos 0 ≤ℤ b → pos 0 <ℤ d → pos 0 <ℤ e → (a *ℤ e) <ℤ (b *ℤ d)
less_by_sign (negsuc a) (pos b) (pos d) (pos (suc e)) h k p q = omega (arith, ints)
less_by_sign (pos a) b d e h k p q = absurd (omega (arith, ints))
less_by_sign (negsuc a) (negsuc b) d e h k p q = absurd (omega (arith, ints))
less_by_sign (negsuc a) (pos b) (negsuc d) e h k p q = absurd (omega (arith, ints))
less_by_sign (negsuc a) (pos b) (pos d) (pos zero) h k p q = absurd (omega (arith, ints))
less_by_sign (negsuc a) (pos b) (pos d) (negsuc e) h k p q = absurd (omega (arith, ints))

pub order_of_sizes : (o : Ordering) (a b d e : ℤ) → pos 0 ≤ℤ a → pos 0 ≤ℤ b → pos 0 <ℤ d → pos 0 <ℤ e → IsCountOrder o (unsigned_abs a * unsigned_abs e) (unsigned_abs b * unsigned_abs d) → IsOrder o (a *ℤ e) (b *ℤ d)
order_of_sizes o (pos a) (pos b) (pos d) (pos e) h k p q i = up_order o (a * e) (b * d) i
order_of_sizes o (negsuc a) b d e h k p q i = absurd (omega (arith, ints))
order_of_sizes o (pos a) (negsuc b) d e h k p q i = absurd (omega (arith, ints))
order_of_sizes o (pos a) (pos b) (negsuc d) e h k p q i = absurd (omega (arith, ints))
order_of_sizes o (pos a) (pos b) (pos d) (negsuc e) h k p q i = absurd (omega (arith, ints))

-- the quotient of the greater size is the less of two below 0
pub order_below_zero : (o : Ordering) (a b d e : ℤ) → a <ℤ pos 0 → b <ℤ pos 0 → pos 0 <ℤ d → pos 0 <ℤ e → IsCountOrder o (unsigned_abs b * unsigned_abs d) (unsigned_abs a * unsigned_abs e) → IsOrder o (a *ℤ e) (b *ℤ d)
order_below_zero o (negsuc a) (negsuc b) (pos d) (pos e) h k p q i = down_order o (suc a) (suc b) d e i
order_below_zero o (pos a) b d e h k p q i = absurd (omega (arith, ints))
order_below_zero o (negsuc a) (pos b) d e h k p q i = absurd (omega (arith, ints))
order_below_zero o (negsuc a) (negsuc b) (negsuc d) e h k p q i = absurd (omega (arith, ints))
order_below_zero o (negsuc a) (negsuc b) (pos d) (negsuc e) h k p q i = absurd (omega (arith, ints))

pub greater_by_sign : (a b d e : ℤ) → pos 0 ≤ℤ a → b <ℤ pos 0 → pos 0 <ℤ d → pos 0 <ℤ e → (b *ℤ d) <ℤ (a *ℤ e)
greater_by_sign a b d e h k p q = less_by_sign b a e d k h q p

pub ruleset signed_orders = (to_z-of_z, less_by_sign, greater_by_sign, order_of_sizes, order_below_zero)

pub rests_fall : (a b c d : ℕ) → 0 < b → 0 < d → c % d + a % b < b + d
rests_fall a b c d pb pd = omega (arith, mod-lt a pb, mod-lt c pd)
