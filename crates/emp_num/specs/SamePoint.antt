-- Points with equal coordinates, and the coordinates in lowest terms.
use Rattle.std.specs.Prelude.{◌≡◌, ℕ, ℤ, pos, List, [], ◌∷◌, length, map, unsigned_abs, int_div}
use Rattle.emp_num.specs.Gcd.{gcd_of}
use Rattle.emp_num.specs.Ratio.{Ratio, ratio, SameRatio}
use Rattle.emp_num.specs.Point.{Point, coordinate, StandsFor}
use Rattle.emp_num.specs.declared.frac.Frac.{Frac}

-- the points have as many coordinates, and equal ones
pub record SamePoint (p q : Point) : Type 0 where
  pub count : length p.nums ≡ length q.nums
  pub same : (k : ℕ) → SameRatio (coordinate p k) (coordinate q k)

-- n over d in lowest terms, where d is above 0
abbrev pub lowest : ℤ → ℤ → Ratio
lowest n d = ratio (int_div n (pos (gcd_of (unsigned_abs n) (unsigned_abs d)))) (int_div d (pos (gcd_of (unsigned_abs n) (unsigned_abs d))))

abbrev pub lowest_coordinates : Point → List Ratio
lowest_coordinates p = map (λ n. lowest n p.den) p.nums

abbrev pub ratios : List Frac → List Ratio
ratios fs = map (λ f. ratio f.num f.den) fs

-- ---- the laws
pub record SameIsEquivalence : Type 0 where
  pub itself : (p : Point) → SamePoint p p
  pub back : (p q : Point) → SamePoint p q → SamePoint q p
  pub on : (p q r : Point) → SamePoint p q → SamePoint q r → SamePoint p r

-- a list of fractions stands for the points that are the same as one point, and for no others, and no other list does
pub record StandsForSame : Type 0 where
  pub some : (fs : List Frac) → (p : Point) × StandsFor fs p
  pub respects : (fs : List Frac) (p q : Point) → StandsFor fs p → SamePoint p q → StandsFor fs q
  pub one_point : (fs : List Frac) (p q : Point) → StandsFor fs p → StandsFor fs q → SamePoint p q
  pub one_list : (fs gs : List Frac) (p q : Point) → StandsFor fs p → StandsFor gs q → SamePoint p q → fs ≡ gs

-- the numbers of the fractions are the coordinates in lowest terms; so what is folded over the one is a function of the point
pub record LowestAreFractions : Type 0 where
  pub fractions : (fs : List Frac) (p : Point) → StandsFor fs p → ratios fs ≡ lowest_coordinates p
  pub of_same : (p q : Point) → SamePoint p q → lowest_coordinates p ≡ lowest_coordinates q

-- ---- worked examples
-- one half is two quarters and no third, and a coordinate of 0 is not one that is missing
pub record SamePointExamples : Type 0 where
  pub halves : (p q : Point) → p.den ≡ pos 2 → p.nums ≡ pos 1 ∷ [] → q.den ≡ pos 4 → q.nums ≡ pos 2 ∷ [] → SamePoint p q
  pub thirds : (p q : Point) → p.den ≡ pos 2 → p.nums ≡ pos 1 ∷ [] → q.den ≡ pos 3 → q.nums ≡ pos 1 ∷ [] → SamePoint p q → ⊥
  pub missing : (p q : Point) → p.nums ≡ pos 0 ∷ [] → q.nums ≡ [] → SamePoint p q → ⊥
