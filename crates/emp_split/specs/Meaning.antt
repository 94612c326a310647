-- What solves a game, and what solves it together with numbers for the multipliers. The point is xs over d.
use Rattle.std.specs.Prelude.{◌≡◌, ℕ, ◌+◌, ℤ, pos, ◌*ℤ◌, ◌<ℤ◌, true, List, map, take, length, Option, Some, None}
use Rattle.emp_algebra.specs.Vector.{cell, scale}
use Rattle.emp_num.specs.Ratio.{ratio}
use Rattle.emp_game.specs.Game.{range_at, names}
use Rattle.emp_game.specs.Solved.{value_at, InRange, Obeys, IsSolved, AreMultipliers}
use Rattle.emp_split.specs.Games.{Leader, Game, coordinates, EachPlayer, has_rule, dual_of}
use Rattle.emp_split.specs.Numbers.{holder, slots, multipliers_at, is_priced}

-- the leader's rules are obeyed, and its own coordinates are in range
abbrev pub LeaderObeys : Game → Option Leader → ℤ → List ℤ → Type 0
LeaderObeys g None d xs = Unit {0}
LeaderObeys g (Some l) d xs = Obeys l.rules d xs × ((k : ℕ) → names l.own k ≡ true → InRange (range_at g.ranges k) (ratio (cell xs k) d))

-- one choice of multipliers serves all priced players, by player and equation: numbers over `times` times d. That of an
-- equation with a dual variable is the variable's coordinate, and an equation under `visol` has that of the first player that
-- has it
pub record ArePrices (g : Game) (d : ℤ) (xs : List ℤ) (times : ℤ) (number : ℕ → ℕ → ℤ) : Type 0 where
  pub positive : pos 0 <ℤ times
  pub multipliers : EachPlayer (λ j pl. is_priced g pl.rules ≡ true → AreMultipliers g.ranges pl (times *ℤ d) (scale times xs) (map (λ r. number j r.equation) pl.rules)) 0 g.players
  pub duals : EachPlayer (λ j pl. (e k : ℕ) → has_rule pl.rules e ≡ true → dual_of g.duals e ≡ Some k → number j e ≡ times *ℤ cell xs k) 0 g.players
  pub shared : EachPlayer (λ j pl. (e : ℕ) → has_rule pl.rules e ≡ true → number j e ≡ number (holder g j e) e) 0 g.players

-- the leader's part is met, each player is solved, and there are such multipliers
pub record IsAdmissible (g : Game) (d : ℤ) (xs : List ℤ) : Type 0 where
  pub count : length xs ≡ coordinates g
  pub leads : LeaderObeys g g.leader d xs
  pub solved : EachPlayer (λ j pl. IsSolved g.ranges pl d xs) 0 g.players
  pub times : ℤ
  pub number : ℕ → ℕ → ℤ
  pub prices : ArePrices g d xs times number

-- the coordinates and then a number for each slot: the leader's part is met, each player is solved, and the numbers with the
-- dual variables' coordinates are the players' multipliers
pub record IsSplit (g : Game) (d : ℤ) (nums : List ℤ) : Type 0 where
  pub count : length nums ≡ coordinates g + length (slots g)
  pub leads : LeaderObeys g g.leader d (take (coordinates g) nums)
  pub solved : EachPlayer (λ j pl. IsSolved g.ranges pl d (take (coordinates g) nums)) 0 g.players
  pub multipliers : EachPlayer (λ j pl. AreMultipliers g.ranges pl d (take (coordinates g) nums) (multipliers_at g j pl.rules nums)) 0 g.players

-- the first point's goal is below the second's; without a leader no point is better
abbrev pub IsBetter : Option Leader → ℤ → List ℤ → ℤ → List ℤ → Type 0
IsBetter None d xs e ys = ⊥
IsBetter (Some l) d xs e ys = (value_at l.goal d xs *ℤ e) <ℤ (value_at l.goal e ys *ℤ d)
