-- Points, their coordinates, and lists of fractions that stand for them.
use Rattle.std.specs.Prelude.{◌≡◌, pos, [], ◌∷◌}
use Rattle.emp_num.specs.Ratio.{ratio, SameRatio}
use Rattle.emp_num.specs.Point.{Point, coordinate, StandsFor}
use Rattle.emp_num.specs.Whole.{whole}

-- the numbers 4 and 6 over 2
pub record IsTwoAndThree (p : Point) : Type 0 where
  pub den : p.den ≡ pos 2
  pub nums : p.nums ≡ pos 4 ∷ pos 6 ∷ []

pub record ExamplesOfPoints : Type 0 where
  pub some : (p : Point) × IsTwoAndThree p
  pub first : (p : Point) → IsTwoAndThree p → SameRatio (coordinate p 0) (ratio (pos 2) (pos 1))
  pub second : (p : Point) → IsTwoAndThree p → SameRatio (coordinate p 1) (ratio (pos 3) (pos 1))
  pub no_first : (p : Point) → IsTwoAndThree p → SameRatio (coordinate p 0) (ratio (pos 4) (pos 1)) → ⊥
  pub den_above : (p : Point) → p.den ≡ pos 0 → ⊥
  pub stands : (p : Point) → IsTwoAndThree p → StandsFor (whole 2 ∷ whole 3 ∷ []) p
  pub other : (p : Point) → IsTwoAndThree p → StandsFor (whole 2 ∷ whole 4 ∷ []) p → ⊥
  pub fewer : (p : Point) → IsTwoAndThree p → StandsFor (whole 2 ∷ []) p → ⊥
