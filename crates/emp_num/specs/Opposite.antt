-- The opposite of a fraction.
use Rattle.std.specs.Prelude.{◌≡◌, zero, suc, ◌<◌, ◌^◌, ℤ, pos, negsuc, neg_ℤ, unsigned_abs, refl}
use Prim.Native.Nat.{◌∣◌}
use Rattle.std.proofs.Common.{subst, sym}
use Rattle.emp_num.specs.Exact.{IsNarrow, IsCoprime}
use Rattle.emp_num.specs.declared.frac.Frac.{Frac}

-- ---- what the fields rest on
pub same_size : (z : ℤ) → unsigned_abs (neg_ℤ z) ≡ unsigned_abs z
same_size (pos zero) = refl
same_size (pos (suc n)) = refl
same_size (negsuc n) = refl

pub opposite_narrow : (z : ℤ) → IsNarrow z → IsNarrow (neg_ℤ z)
opposite_narrow z h = subst (λ n. n < 2 ^ 126) (sym (same_size z)) h

pub opposite_coprime : (n d : ℤ) → IsCoprime n d → IsCoprime (neg_ℤ n) d
opposite_coprime n d h k in_n in_d = h k (subst (λ m. k ∣ m) (same_size n) in_n) in_d

-- ---- the fraction
abbrev pub opposite : Frac → Frac
opposite f = record { num = neg_ℤ f.num; den = f.den; positive = f.positive; num_narrow = opposite_narrow f.num f.num_narrow; den_narrow = f.den_narrow; lowest = opposite_coprime f.num f.den f.lowest }
