-- Products and the order of the whole numbers.
use Rattle.std.proofs.Common.{◌≡◌, ◌⊎◌, inl, inr, ℤ, pos, negsuc, ◌-ℤ◌, ◌*ℤ◌, ◌≤ℤ◌, ◌<ℤ◌, arith, refl, ap, ◌∙◌}
use Rattle.std.proofs.lemmas.Int.{ints}
use borrow.Author.Differences.{fits_out, same_out, Apart-out, lt_T, le_T, lt_not, le_not, lt-true, lt-false, le-true, le-false, true-lt, false-lt, true-le, false-le, not_negative_out, lt_out, le_out, fits_in, same_in, lt_in, le_in, below_in, at_most_in, not_negative_in, true_is_lt, false_is_lt, true_is_le, false_is_le, sum_is_lem, neg_is, abs_is, mag_is, back_is, small_is, read_fits, bits_is}
use Rattle.emp_algebra.proofs.Laws.{mul_nonneg, mul_pos}
use Rattle.emp_algebra.proofs.Ring.{lit, ◌⊖◌, ◌⊗◌, ring2, ring3}

-- `ints` with a product as an atom of which nothing is known
pub ruleset linear = (fits_out, same_out, Apart-out, lt_T, le_T, lt_not, le_not, lt-true, lt-false, le-true, le-false, true-lt, false-lt, true-le, false-le, not_negative_out, lt_out, le_out, fits_in, same_in, lt_in, le_in, below_in, at_most_in, not_negative_in, true_is_lt, false_is_lt, true_is_le, false_is_le, sum_is_lem, neg_is, abs_is, mag_is, back_is, small_is, read_fits, bits_is)

pub mul_le_right : (a b c : ℤ) → a ≤ℤ b → pos 0 ≤ℤ c → (a *ℤ c) ≤ℤ (b *ℤ c)
mul_le_right a b c h k =
    let p : pos 0 ≤ℤ (b -ℤ a) = omega (arith, linear) in
    let e : (b -ℤ a) *ℤ c ≡ b *ℤ c -ℤ a *ℤ c = ring3 (λ a b c. (b ⊖ a) ⊗ c) (λ a b c. b ⊗ c ⊖ a ⊗ c) refl a b c in
    omega (arith, linear, mul_nonneg (b -ℤ a) c p k)

pub mul_lt_right : (a b c : ℤ) → a <ℤ b → pos 0 <ℤ c → (a *ℤ c) <ℤ (b *ℤ c)
mul_lt_right a b c h k =
    let p : pos 0 <ℤ (b -ℤ a) = omega (arith, linear) in
    let e : (b -ℤ a) *ℤ c ≡ b *ℤ c -ℤ a *ℤ c = ring3 (λ a b c. (b ⊖ a) ⊗ c) (λ a b c. b ⊗ c ⊖ a ⊗ c) refl a b c in
    omega (arith, linear, mul_pos (b -ℤ a) c p k)

pub le_or_lt : (a b : ℤ) → (a ≤ℤ b) ⊎ (b <ℤ a)
le_or_lt a b = grind (arith, ints)

pub le_cancel_right : (a b c : ℤ) → (a *ℤ c) ≤ℤ (b *ℤ c) → pos 0 <ℤ c → a ≤ℤ b
le_cancel_right a b c h k = go (le_or_lt a b)
  where
    go : (a ≤ℤ b) ⊎ (b <ℤ a) → a ≤ℤ b
    go (inl r) = r
    go (inr r) = absurd (omega (arith, linear, mul_lt_right b a c r k))

pub cancel_right : (a b c : ℤ) → a *ℤ c ≡ b *ℤ c → pos 0 <ℤ c → a ≡ b
cancel_right a b c e k =
    omega (arith, linear, le_cancel_right a b c (omega (arith, linear)) k, le_cancel_right b a c (omega (arith, linear)) k)

pub square_nonneg : (a : ℤ) → pos 0 ≤ℤ (a *ℤ a)
square_nonneg (pos n) = omega (arith, ints)
square_nonneg (negsuc n) = omega (arith, ints)

-- an equation of one side by a multiple of another
pub by_multiple : (k p q l r : ℤ) → p -ℤ q ≡ k *ℤ (l -ℤ r) → l ≡ r → p ≡ q
by_multiple k p q l r e h =
    let z : k *ℤ (r -ℤ r) ≡ pos 0 = ring2 (λ k r. k ⊗ (r ⊖ r)) (λ k r. lit (pos 0)) refl k r in
    let f : p -ℤ q ≡ pos 0 = e ∙ ap (λ (x : ℤ). k *ℤ (x -ℤ r)) h ∙ z in
    omega (arith, linear)
