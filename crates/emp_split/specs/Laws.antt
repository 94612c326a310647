-- The laws of games with and without numbers, as statements.
use Rattle.std.specs.Prelude.{◌≡◌, ℤ, pos, ◌*ℤ◌, ◌<ℤ◌, List, take}
use Rattle.emp_algebra.specs.Vector.{scale}
use Rattle.emp_split.specs.Games.{Game, coordinates, IsGame, IsConvexGame}
use Rattle.emp_split.specs.Meaning.{IsAdmissible, IsSplit}

-- the first coordinates of what solves with numbers solve without
abbrev pub SplitIsAdmissible : Type 0
SplitIsAdmissible = (g : Game) (d : ℤ) (nums : List ℤ) → IsGame g → pos 0 <ℤ d → IsSplit g d nums → IsAdmissible g d (take (coordinates g) nums)

-- numbers over a larger denominator, behind the coordinates of the same point
pub record Lifted (g : Game) (d : ℤ) (xs : List ℤ) : Type 0 where
  pub times : ℤ
  pub positive : pos 0 <ℤ times
  pub nums : List ℤ
  pub front : take (coordinates g) nums ≡ scale times xs
  pub split : IsSplit g (times *ℤ d) nums

-- what solves without numbers has them, at the same point
abbrev pub AdmissibleLifts : Type 0
AdmissibleLifts = (g : Game) (d : ℤ) (xs : List ℤ) → IsGame g → IsConvexGame g → pos 0 <ℤ d → IsAdmissible g d xs → Lifted g d xs
