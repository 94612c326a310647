-- The laws of one player, as statements. The point is xs over d.
use Rattle.std.specs.Prelude.{◌≡◌, ℤ, pos, ◌*ℤ◌, ◌<ℤ◌, List, length}
use Rattle.emp_algebra.specs.Vector.{scale}
use Rattle.emp_game.specs.Game.{Player, Ranges, IsPlayer}
use Rattle.emp_game.specs.Solved.{Obeys, IsSolved, AreMultipliers, IsConvex}
use Rattle.emp_game.specs.Conditions.{Holds}

-- multipliers at the same point, by numbers that are `times` as large
pub record Multiplied (ranges : Ranges) (pl : Player) (d : ℤ) (xs : List ℤ) : Type 0 where
  pub times : ℤ
  pub positive : pos 0 <ℤ times
  pub numbers : List ℤ
  pub multipliers : AreMultipliers ranges pl (times *ℤ d) (scale times xs) numbers

-- a player who obeys its rules and has multipliers is solved; no convexity is needed
abbrev pub MultipliersSolve : Type 0
MultipliersSolve = (ranges : Ranges) (pl : Player) (d : ℤ) (xs us : List ℤ) → pos 0 <ℤ d → Obeys pl.rules d xs → AreMultipliers ranges pl d xs us → IsSolved ranges pl d xs

-- a convex player who is solved has multipliers; no condition on its rules is needed
abbrev pub SolvedIsMultiplied : Type 0
SolvedIsMultiplied = (ranges : Ranges) (pl : Player) (d : ℤ) (xs : List ℤ) → IsPlayer (length ranges) pl → IsConvex pl → pos 0 <ℤ d → IsSolved ranges pl d xs → Multiplied ranges pl d xs

-- the rows of a convex player have its multipliers, and it is solved
abbrev pub RowsSolve : Type 0
RowsSolve = (ranges : Ranges) (pl : Player) (d : ℤ) (xs us zs : List ℤ) → IsPlayer (length ranges) pl → IsConvex pl → pos 0 <ℤ d → length xs ≡ length ranges → Holds ranges pl d xs us zs → AreMultipliers ranges pl d xs us × IsSolved ranges pl d xs

-- a player with multipliers who obeys its rules has the rows, over the same denominator; no convexity is needed
abbrev pub MultipliersHaveRows : Type 0
MultipliersHaveRows = (ranges : Ranges) (pl : Player) (d : ℤ) (xs us : List ℤ) → IsPlayer (length ranges) pl → pos 0 <ℤ d → AreMultipliers ranges pl d xs us → Obeys pl.rules d xs → (zs : List ℤ) × Holds ranges pl d xs us zs
