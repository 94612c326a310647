-- Signs: what a quotient and a negation rest on.
use Rattle.std.proofs.Common.{◌≡◌, ◌≢◌, ◌<◌, ℤ, pos, neg_ℤ, ◌*ℤ◌, ◌<ℤ◌, Result, Ok, Err, unsigned_abs, arith, sym, ◌∙◌, subst, zero, to_z-of_z}
use Rattle.std.proofs.lemmas.Int.{ints}
use lib.IntN.{zero-*ℤ, *ℤ_comm}
use Prim.Native.Nat.{◌∣◌}
use Rattle.emp_algebra.proofs.Order.{cancel_right}
use Rattle.emp_num.specs.Exact.{IsCoprime}
use Rattle.emp_num.specs.FracSpec.{NewGives, DivGives}
use Rattle.emp_num.specs.declared.frac.Frac.{Frac}
use Rattle.emp_num.specs.declared.frac.DivFault.{DivFault}
use Rattle.emp_num.specs.declared.frac.DivFault.TheVariants.{Zero, Wide}

-- a number above 0 times another is 0 only where that one is
pub zero_factor : (d n : ℤ) → pos 0 <ℤ d → d *ℤ n ≡ pos 0 → n ≡ pos 0
zero_factor d n p e = cancel_right n (pos 0) d (*ℤ_comm n d ∙ (e ∙ sym (zero-*ℤ d))) p

pub div_gives : (a b : Frac) (r : Result Frac DivFault) → b.num ≢ pos 0 → NewGives (a.num *ℤ b.den) (a.den *ℤ b.num) r → DivGives a b r
div_gives a b (Ok r) h g = (h, g.1, g.2, g.3)
div_gives a b (Err Zero) h g = absurd (h (zero_factor a.den b.num a.positive g))
div_gives a b (Err Wide) h g = (h, g.1)

pub ruleset dividing = (to_z-of_z, div_gives)

pub size_neg : (z : ℤ) → unsigned_abs (neg_ℤ z) ≡ unsigned_abs z
size_neg z = omega (arith, ints)

pub coprime_neg : (n d : ℤ) → IsCoprime n d → IsCoprime (neg_ℤ n) d
coprime_neg n d h k in_n in_d = h k (subst (λ m. k ∣ m) (size_neg n) in_n) in_d

pub ruleset negating = (to_z-of_z, size_neg, coprime_neg)
