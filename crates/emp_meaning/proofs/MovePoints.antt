-- A point whose coordinates are given fractions, over a multiple of a number above 0.
use Rattle.std.proofs.Common.{◌≡◌, ℕ, zero, suc, ◌<◌, ℤ, pos, ◌*ℤ◌, ◌<ℤ◌, List, [], ◌∷◌, length, arith, refl, ap, ◌∙◌}
use Rattle.std.proofs.lemmas.Int.{ints}
use Rattle.emp_algebra.specs.Vector.{cell, scale}
use Rattle.emp_algebra.proofs.Laws.{mul_pos}
use Rattle.emp_algebra.proofs.Ring.{var, ◌⊗◌, by_ring}
use Rattle.emp_algebra.proofs.Vectors.{length-scale, cell-scale}
use Rattle.emp_num.specs.Ratio.{Ratio, SameRatio}
use Rattle.emp_num.specs.Point.{Point, coordinate}

-- the product of the first n bottoms
abbrev pub bottoms : ℕ → (ℕ → Ratio) → ℤ
bottoms zero f = pos 1
bottoms (suc n) f = (f 0).bottom *ℤ bottoms n (λ v. f (suc v))

-- the first n tops over that product times d
abbrev pub tops : ℕ → (ℕ → Ratio) → ℤ → List ℤ
tops zero f d = []
tops (suc n) f d = ((f 0).top *ℤ (bottoms n (λ v. f (suc v)) *ℤ d)) ∷ scale (f 0).bottom (tops n (λ v. f (suc v)) d)

bottoms_above : (n : ℕ) (f : ℕ → Ratio) → ((v : ℕ) → v < n → pos 0 <ℤ (f v).bottom) → pos 0 <ℤ bottoms n f
bottoms_above zero f h = omega (arith, ints)
bottoms_above (suc n) f h = mul_pos (f 0).bottom (bottoms n (λ v. f (suc v))) (h 0 (omega arith)) (bottoms_above n (λ v. f (suc v)) (λ v l. h (suc v) (omega arith)))

tops_count : (n : ℕ) (f : ℕ → Ratio) (d : ℤ) → length (tops n f d) ≡ n
tops_count zero f d = refl
tops_count (suc n) f d = ap suc (length-scale (f 0).bottom (tops n (λ v. f (suc v)) d) ∙ tops_count n (λ v. f (suc v)) d)

tops_same : (n : ℕ) (f : ℕ → Ratio) (d : ℤ) (v : ℕ) → v < n → cell (tops n f d) v *ℤ (f v).bottom ≡ (f v).top *ℤ (bottoms n f *ℤ d)
tops_same zero f d v h = absurd (omega arith)
tops_same (suc n) f d zero h =
    by_ring ((f 0).top ∷ bottoms n (λ v. f (suc v)) ∷ d ∷ (f 0).bottom ∷ []) (var 0 ⊗ (var 1 ⊗ var 2) ⊗ var 3) (var 0 ⊗ (var 3 ⊗ var 1 ⊗ var 2)) refl
tops_same (suc n) f d (suc v) h =
    let g = λ (u : ℕ). f (suc u) in
    ap (λ z. z *ℤ (g v).bottom) (cell-scale (f 0).bottom (tops n g d) v)
    ∙ (by_ring ((f 0).bottom ∷ cell (tops n g d) v ∷ (g v).bottom ∷ []) (var 0 ⊗ var 1 ⊗ var 2) (var 0 ⊗ (var 1 ⊗ var 2)) refl
    ∙ (ap (λ z. (f 0).bottom *ℤ z) (tops_same n g d v (omega arith))
    ∙ by_ring ((f 0).bottom ∷ (g v).top ∷ bottoms n g ∷ d ∷ []) (var 0 ⊗ (var 1 ⊗ (var 2 ⊗ var 3))) (var 1 ⊗ (var 0 ⊗ var 2 ⊗ var 3)) refl))

-- a point of n coordinates, each of which is its fraction; the denominator is a multiple of d
pub record HasCoordinates (f : ℕ → Ratio) (n : ℕ) (d : ℤ) : Type 0 where
  pub point : Point
  pub count : length point.nums ≡ n
  pub times : ℤ
  pub positive : pos 0 <ℤ times
  pub den : point.den ≡ times *ℤ d
  pub each : (v : ℕ) → v < n → SameRatio (coordinate point v) (f v)

pub with_coordinates : (f : ℕ → Ratio) (n : ℕ) (d : ℤ) → pos 0 <ℤ d → ((v : ℕ) → v < n → pos 0 <ℤ (f v).bottom) → HasCoordinates f n d
with_coordinates f n d above fractions = record {
  point = record { den = bottoms n f *ℤ d; nums = tops n f d; positive = mul_pos (bottoms n f) d (bottoms_above n f fractions) above };
  count = tops_count n f d;
  times = bottoms n f;
  positive = bottoms_above n f fractions;
  den = refl;
  each = tops_same n f d;
}
