-- The examples of points.
use Rattle.std.proofs.Common.{◌≡◌, ℕ, zero, suc, ◌<◌, pos, ◌*ℤ◌, [], ◌∷◌, length, slice_index_or, arith, refl, sym, ap, subst₂}
use Rattle.std.proofs.lemmas.Int.{ints}
use Rattle.emp_algebra.specs.Vector.{cell}
use Rattle.emp_num.specs.Point.{Point, StandsFor}
use Rattle.emp_num.specs.Whole.{whole}
use Rattle.emp_num.specs.declared.frac.Frac.{Frac}
use Rattle.emp_num.proofs.Standing.{stands_at, stands_from}
use Rattle.emp_examples.specs.Points.{IsTwoAndThree, ExamplesOfPoints}

module _ (p : Point) (h : IsTwoAndThree p) where
  at_first : cell p.nums 0 ≡ pos 4
  at_first = ap (λ ns. cell ns 0) h.nums

  at_second : cell p.nums 1 ≡ pos 6
  at_second = ap (λ ns. cell ns 1) h.nums

  each : (k : ℕ) (f : Frac) → k < 2 → (slice_index_or (whole 2 ∷ whole 3 ∷ []) k f).num *ℤ p.den ≡ cell p.nums k *ℤ (slice_index_or (whole 2 ∷ whole 3 ∷ []) k f).den
  each zero f l = subst₂ (λ x d. pos 2 *ℤ d ≡ x *ℤ pos 1) (sym at_first) (sym h.den) refl
  each (suc zero) f l = subst₂ (λ x d. pos 3 *ℤ d ≡ x *ℤ pos 1) (sym at_second) (sym h.den) refl
  each (suc (suc k)) f l = absurd (omega arith)

  not_other : StandsFor (whole 2 ∷ whole 4 ∷ []) p → ⊥
  not_other s =
      let e : pos 4 *ℤ p.den ≡ cell p.nums 1 *ℤ pos 1 = stands_at (whole 2 ∷ whole 4 ∷ []) p s 1 (whole 0) (omega arith) in
      let k : pos 8 ≡ pos 6 = subst₂ (λ x d. pos 4 *ℤ d ≡ x *ℤ pos 1) at_second h.den e in
      omega (arith, ints)

pub examples_of_points : ExamplesOfPoints
examples_of_points = record {
  some = (record { den = pos 2; nums = pos 4 ∷ pos 6 ∷ []; positive = omega (arith, ints) }, record { den = refl; nums = refl });
  first = λ p h. subst₂ (λ x d. x *ℤ pos 1 ≡ pos 2 *ℤ d) (sym (at_first p h)) (sym h.den) refl;
  second = λ p h. subst₂ (λ x d. x *ℤ pos 1 ≡ pos 3 *ℤ d) (sym (at_second p h)) (sym h.den) refl;
  no_first = λ p h e. let k : pos 4 ≡ pos 8 = subst₂ (λ x d. x *ℤ pos 1 ≡ pos 4 *ℤ d) (at_first p h) h.den e in omega (arith, ints);
  den_above = λ p e. let l = p.positive in omega (arith, ints);
  stands = λ p h. stands_from (whole 2 ∷ whole 3 ∷ []) p (ap length h.nums) (each p h);
  other = λ p h s. not_other p h s;
  fewer = λ p h s. let n = s.count in let k = ap length h.nums in omega arith;
}
