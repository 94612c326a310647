-- The laws of the rows of a game, as statements.
use Rattle.std.specs.Prelude.{◌≡◌, ℕ, ◌<◌, ℤ, pos, ◌<ℤ◌, true, List, All, length, ◌≤◌, Option, Some, None}
use Rattle.emp_game.specs.Game.{Rule, names}
use Rattle.emp_split.specs.Games.{Leader, Game, coordinates, EachPlayer, IsGame, IsConvexGame}
use Rattle.emp_split.specs.Meaning.{IsSplit}
use Rattle.emp_conditions.specs.Base.{split_of}
use Rattle.emp_conditions.specs.Rows.{SolvesRows}

-- an equation of several players has one rule
pub record HasOneRule (g : Game) : Type 0 where
  pub rule : ℕ → Rule
  pub each : EachPlayer (λ j pl. All (λ r. r ≡ rule r.equation) pl.rules) 0 g.players

-- nothing of the leader names a coordinate from n on
abbrev pub IsLeader : ℕ → Option Leader → Type 0
IsLeader n None = Unit {0}
IsLeader n (Some l) = ((k : ℕ) → names l.own k ≡ true → (k < n)) × All (λ r. length r.row.cells ≤ n) l.rules

-- the coordinates and multipliers of a row point of convex players split the game
abbrev pub RowsAreSplit : Type 0
RowsAreSplit = (g : Game) (d : ℤ) (nums : List ℤ) → IsGame g → IsConvexGame g → HasOneRule g → IsLeader (coordinates g) g.leader → pos 0 <ℤ d → SolvesRows g d nums → IsSplit g d (split_of g nums)

-- what splits a game is that of a row point, over the same denominator
abbrev pub SplitHasRows : Type 0
SplitHasRows = (g : Game) (d : ℤ) (nums : List ℤ) → IsGame g → IsLeader (coordinates g) g.leader → pos 0 <ℤ d → IsSplit g d nums → (rows : List ℤ) × SolvesRows g d rows × (split_of g rows ≡ nums)
