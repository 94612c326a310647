-- A point: one whole number per variable over one whole number above 0.
use Rattle.std.specs.Prelude.{◌≡◌, ℕ, ℤ, pos, ◌<ℤ◌, List, length, slice_get, Some}
use Rattle.emp_algebra.specs.Vector.{cell}
use Rattle.emp_num.specs.Ratio.{Ratio, ratio, SameRatio}
use Rattle.emp_num.specs.declared.frac.Frac.{Frac}

-- the coordinate of variable k is `nums` at k over `den`; nothing bounds the numbers
pub record Point : Type 0 where
  pub den : ℤ
  pub nums : List ℤ
  pub positive : pos 0 <ℤ den

abbrev pub coordinate : Point → ℕ → Ratio
coordinate p k = ratio (cell p.nums k) p.den

-- the list of fractions stands for the point: it has one for each coordinate, and each is the coordinate at its place
pub record StandsFor (fracs : List Frac) (p : Point) : Type 0 where
  pub count : length p.nums ≡ length fracs
  pub same : (k : ℕ) (f : Frac) → slice_get fracs k ≡ Some f → SameRatio (ratio f.num f.den) (coordinate p k)
