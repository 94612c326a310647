-- Fractions over a common denominator: each list of fractions stands for a point.
use Rattle.std.proofs.Common.{◌≡◌, ℕ, zero, suc, ◌<◌, ℤ, pos, ◌*ℤ◌, ◌<ℤ◌, List, [], ◌∷◌, length, get_or, arith, refl, sym, ap, ◌∙◌}
use Rattle.std.proofs.lemmas.Int.{ints}
use Rattle.emp_algebra.specs.Vector.{cell, scale}
use Rattle.emp_algebra.proofs.Laws.{mul_pos}
use Rattle.emp_algebra.proofs.Ring.{var, ◌⊗◌, by_ring}
use Rattle.emp_algebra.proofs.Vectors.{length-scale, cell-scale}
use Rattle.emp_num.specs.Point.{Point, StandsFor}
use Rattle.emp_num.specs.declared.frac.Frac.{Frac}
use Rattle.emp_num.proofs.Standing.{stands_from}

abbrev pub common_den : List Frac → ℤ
common_den [] = pos 1
common_den (f ∷ fs) = f.den *ℤ common_den fs

abbrev pub common_nums : List Frac → List ℤ
common_nums [] = []
common_nums (f ∷ fs) = (f.num *ℤ common_den fs) ∷ scale f.den (common_nums fs)

pub common_den_pos : (fs : List Frac) → pos 0 <ℤ common_den fs
common_den_pos [] = omega (arith, ints)
common_den_pos (f ∷ fs) = mul_pos f.den (common_den fs) f.positive (common_den_pos fs)

abbrev pub common_point : List Frac → Point
common_point fs = record { den = common_den fs; nums = common_nums fs; positive = common_den_pos fs }

common_count : (fs : List Frac) → length (common_nums fs) ≡ length fs
common_count [] = refl
common_count (f ∷ fs) = ap suc (length-scale f.den (common_nums fs) ∙ common_count fs)

pub common_same : (fs : List Frac) (k : ℕ) (d : Frac) → k < length fs → (get_or fs k d).num *ℤ common_den fs ≡ cell (common_nums fs) k *ℤ (get_or fs k d).den
common_same [] k d h = absurd (omega arith)
common_same (f ∷ fs) zero d h = by_ring (f.num ∷ f.den ∷ common_den fs ∷ []) (var 0 ⊗ (var 1 ⊗ var 2)) (var 0 ⊗ var 2 ⊗ var 1) refl
common_same (f ∷ fs) (suc k) d h =
    let g = get_or fs k d in
    by_ring (g.num ∷ f.den ∷ common_den fs ∷ []) (var 0 ⊗ (var 1 ⊗ var 2)) (var 1 ⊗ (var 0 ⊗ var 2)) refl
    ∙ (ap (λ z. f.den *ℤ z) (common_same fs k d (omega arith))
    ∙ (by_ring (f.den ∷ cell (common_nums fs) k ∷ g.den ∷ []) (var 0 ⊗ (var 1 ⊗ var 2)) (var 0 ⊗ var 1 ⊗ var 2) refl ∙ ap (λ z. z *ℤ g.den) (sym (cell-scale f.den (common_nums fs) k))))

pub stands_for_common : (fs : List Frac) → StandsFor fs (common_point fs)
stands_for_common fs = stands_from fs (common_point fs) (common_count fs) (common_same fs)
