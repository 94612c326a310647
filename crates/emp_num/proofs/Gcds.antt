-- Greatest common divisors: bounds, scaling and Gauss's lemma.
use Rattle.std.proofs.Common.{◌≡◌, ℕ, zero, suc, ◌*◌, ◌<◌, ◌≤◌, arith, refl, sym, ap, ◌∙◌, subst, zero-lt-suc, subst₂, mul_comm, mul-one, [], ◌∷◌, ◌⊎◌, inl, inr, ◌≤ℤ◌, ◌<ℤ◌, ℤ, pos, negsuc, neg_ℤ, ◌+ℤ◌, ◌*ℤ◌, unsigned_abs, int_div, int_rem}
use lib.IntN.{+ℤ_idr, zero-*ℤ}
use Rattle.emp_algebra.proofs.Order.{le_or_lt, mul_le_right, linear}
use Rattle.emp_algebra.proofs.Laws.{mul_pos}
use Rattle.emp_algebra.proofs.Ring.{var, ◌⊗◌, by_ring}
use Rattle.emp_num.specs.Exact.{IsCoprime}
use Rattle.std.proofs.lemmas.Int.{quot-rem, unsigned_abs-mul, ints, to_z-of_z}
use Prim.Native.Nat.{◌∣◌}
use native.Mathlib.Nat.{eq-zero_of_zero-dvd, pos_of_dvd_of_pos, mul-dvd-mul_right, dvd_of_mul-dvd-mul_left, eq-one_of_dvd-one}
use Rattle.std.specs.Int.{IsGcd}
use Rattle.std.proofs.lemmas.Nat.Gcd.{dvd-zero, le_of_dvd, mod-eq-zero_of_dvd}

pub gcd_below : (a b m g : ℕ) → IsGcd a b g → a < m → b < m → g < m
gcd_below zero zero m g h p q = let e : g ≡ 0 = eq-zero_of_zero-dvd (h.2 0 (dvd-zero 0) (dvd-zero 0)) in omega arith
gcd_below zero (suc b) m g h p q = let e : g ≤ suc b = le_of_dvd (zero-lt-suc b) h.1 in omega arith
gcd_below (suc a) b m g h p q = let e : g ≤ suc a = le_of_dvd (zero-lt-suc a) h.0 in omega arith

rem_none : (a d : ℤ) → unsigned_abs d ∣ unsigned_abs a → int_rem a d ≡ pos 0
rem_none (pos a) d h = ap pos (mod-eq-zero_of_dvd (unsigned_abs d) h)
rem_none (negsuc a) d h = ap (λ n. neg_ℤ (pos n)) (mod-eq-zero_of_dvd (unsigned_abs d) h)

pub quot_exact : (a d : ℤ) → unsigned_abs d ∣ unsigned_abs a → int_div a d *ℤ d ≡ a
quot_exact a d h = sym (+ℤ_idr (int_div a d *ℤ d)) ∙ (ap (λ r. int_div a d *ℤ d +ℤ r) (sym (rem_none a d h)) ∙ quot-rem a d)

pub divisor_pos : (b : ℤ) (g : ℕ) → g ∣ unsigned_abs b → pos 0 <ℤ b → pos 0 <ℤ pos g
divisor_pos (pos b) g h k = let p : 0 < b = omega (arith, ints) in let q : 0 < g = pos_of_dvd_of_pos h p in omega (arith, ints)
divisor_pos (negsuc b) g h k = absurd k.lt

-- what is left after a division by the greatest common divisor has none
pub coprime_from_gcd : (a b n d g : ℤ) → IsGcd (unsigned_abs a) (unsigned_abs b) (unsigned_abs g) → pos 0 <ℤ g → n *ℤ g ≡ a → d *ℤ g ≡ b → IsCoprime n d
coprime_from_gcd a b n d g h p e f k in_n in_d =
    let size : 0 < unsigned_abs g = omega (arith, ints) in
    let step : (z w : ℤ) → z *ℤ g ≡ w → k ∣ unsigned_abs z → k * unsigned_abs g ∣ unsigned_abs w = λ z w e i. subst (λ x. k * unsigned_abs g ∣ x) (sym (unsigned_abs-mul z g) ∙ ap unsigned_abs e) (mul-dvd-mul_right k i (unsigned_abs g)) in
    let all : k * unsigned_abs g ∣ unsigned_abs g = h.2 (k * unsigned_abs g) (step n a e in_n) (step d b f in_d) in
    let one : unsigned_abs g * k ∣ unsigned_abs g * 1 = subst₂ (λ x y. x ∣ y) (mul_comm k (unsigned_abs g)) (sym (mul-one (unsigned_abs g))) all in
    eq-one_of_dvd-one (dvd_of_mul-dvd-mul_left k size one)

pub positive_from_product : (d g b : ℤ) → d *ℤ g ≡ b → pos 0 <ℤ g → pos 0 <ℤ b → pos 0 <ℤ d
positive_from_product d g b e p q =
    go (le_or_lt d (pos 0))
  where
    go : (d ≤ℤ pos 0) ⊎ (pos 0 <ℤ d) → pos 0 <ℤ d
    go (inr r) = r
    go (inl r) = absurd (omega (arith, linear, mul_le_right d (pos 0) g r (omega (arith, ints)), zero-*ℤ g))

-- the cross product of a fraction and of what it was reduced from
pub cross : (n d a b g : ℤ) → n *ℤ g ≡ a → d *ℤ g ≡ b → n *ℤ b ≡ a *ℤ d
cross n d a b g e f =
    ap (λ z. n *ℤ z) (sym f) ∙ (by_ring (n ∷ d ∷ g ∷ []) (var 0 ⊗ (var 1 ⊗ var 2)) (var 0 ⊗ var 2 ⊗ var 1) refl ∙ ap (λ z. z *ℤ d) e)

pub ruleset reads = (to_z-of_z, mul_pos)
