-- Greatest common divisors and quotients of narrow numbers.
use Rattle.std.proofs.Common.{ℕ, suc, ◌<◌, ◌≤◌, ◌^◌, ℤ, pos, negsuc, ◌<ℤ◌, unsigned_abs, int_div, arith}
use Prim.Native.Nat.{◌∣◌}
use native.Mathlib.Nat.{pos_of_dvd_of_pos}
use Rattle.std.proofs.lemmas.Int.{ints}
use Rattle.std.proofs.Math.Nat.{div-le_self}
use Rattle.std.proofs.lemmas.Nat.Gcd.{le_of_dvd}
use Rattle.emp_num.specs.Exact.{IsNarrow}
use Rattle.emp_num.specs.Gcd.{gcd_of}
use Rattle.emp_num.proofs.Gcds.{quot_exact, positive_from_product}
use Rattle.emp_num.proofs.Divisors.{IsGcd-gcd_of}

pub gcd_positive : (h : ℤ) (a : ℕ) → pos 0 <ℤ h → 0 < gcd_of (unsigned_abs h) a
gcd_positive h a p = let q : 0 < unsigned_abs h = omega (arith, ints) in pos_of_dvd_of_pos (IsGcd-gcd_of (unsigned_abs h) a).0 q

pub gcd_narrow : (h : ℤ) (a : ℕ) → pos 0 <ℤ h → IsNarrow h → gcd_of (unsigned_abs h) a < 2 ^ 126
gcd_narrow h a p n =
    let q : 0 < unsigned_abs h = omega (arith, ints) in
    let l : gcd_of (unsigned_abs h) a ≤ unsigned_abs h = le_of_dvd q (IsGcd-gcd_of (unsigned_abs h) a).0 in
    omega arith

pub quotient_small : (a : ℤ) (g : ℕ) → unsigned_abs (int_div a (pos g)) ≤ unsigned_abs a
quotient_small (pos a) g = div-le_self a g
quotient_small (negsuc a) g = omega (arith, ints, div-le_self (suc a) g)

pub quotient_narrow : (a : ℤ) (g : ℕ) → IsNarrow a → IsNarrow (int_div a (pos g))
quotient_narrow a g h = let k = quotient_small a g in omega (arith, quotient_small a g)

pub quotient_positive : (a : ℤ) (g : ℕ) → g ∣ unsigned_abs a → 0 < g → pos 0 <ℤ a → pos 0 <ℤ int_div a (pos g)
quotient_positive a g d p q = positive_from_product (int_div a (pos g)) (pos g) a (quot_exact a (pos g) d) (omega (arith, ints)) q
