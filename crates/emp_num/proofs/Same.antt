-- Two fractions with equal numbers are one value: the ghost fields have one proof each.
use Rattle.std.proofs.Common.{◌≡◌, ℤ, pos, ◌*ℤ◌, ◌<ℤ◌, subst₂}
use Rattle.emp_num.specs.Exact.{IsNarrow, IsCoprime}
use Rattle.emp_num.specs.declared.frac.Frac.{Frac}
use Rattle.emp_num.specs.contracts.frac.Frac.{positive-found, num_narrow-found, den_narrow-found, lowest-found}
use Rattle.emp_num.proofs.Lowest.{same_lowest}

pub frac_eq : (a b : Frac) → a.num ≡ b.num → a.den ≡ b.den → a ≡ b
frac_eq a b p q = subst₂ Same p q base b.positive b.num_narrow b.den_narrow b.lowest
  where
    Same : ℤ → ℤ → Type 0
    Same m e = (s : pos 0 <ℤ e) (x : IsNarrow m) (y : IsNarrow e) (l : IsCoprime m e) → a ≡ record { num = m; den = e; positive = s; num_narrow = x; den_narrow = y; lowest = l }

    base : Same a.num a.den
    base s x y l = λ i. record {
      num = a.num;
      den = a.den;
      positive = positive-found a.num a.den a.positive s i;
      num_narrow = num_narrow-found a.num a.den a.positive a.num_narrow x i;
      den_narrow = den_narrow-found a.num a.den a.positive a.num_narrow a.den_narrow y i;
      lowest = lowest-found a.num a.den a.positive a.num_narrow a.den_narrow a.lowest l i;
    }

-- fractions that are equal as numbers are one value
pub same_value : (a b : Frac) → a.num *ℤ b.den ≡ b.num *ℤ a.den → a ≡ b
same_value a b e = let h = same_lowest a.num a.den b.num b.den a.lowest b.lowest a.positive b.positive e in frac_eq a b h.0 h.1
