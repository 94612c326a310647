-- Games of several players and, in a bilevel problem, a leader, in whole numbers.
use Rattle.std.specs.Prelude.{◌≡◌, ℕ, suc, ◌<◌, Bool, false, ◌||◌, nat_eq, cond, List, [], ◌∷◌, map, length, Option, Some, None}
use Rattle.emp_game.specs.Game.{Row, Rule, Player, Ranges, AreApart, IsPlayer}
use Rattle.emp_game.specs.Solved.{IsConvex}

-- whose own coordinates are to be within their ranges and whose rules are to be obeyed, and the row that is to be least
pub record Leader : Type 0 where
  pub own : List ℕ
  pub goal : Row
  pub rules : List Rule

-- `duals` has coordinates that are the multipliers of equations, each with its equation; an equation of `visols` has one
-- multiplier for all players
pub record Game : Type 0 where
  pub ranges : Ranges
  pub leader : Option Leader
  pub players : List Player
  pub duals : List (ℕ × ℕ)
  pub visols : List ℕ

abbrev pub coordinates : Game → ℕ
coordinates g = length g.ranges

-- what holds of each player with its number, counted from j
abbrev pub EachPlayer : (ℕ → Player → Type 0) → ℕ → List Player → Type 0
EachPlayer P j [] = Unit {0}
EachPlayer P j (pl ∷ pls) = P j pl × EachPlayer P (suc j) pls

-- one of the rules is of the equation
abbrev pub has_rule : List Rule → ℕ → Bool
has_rule [] e = false
has_rule (r ∷ rs) e = nat_eq r.equation e || has_rule rs e

-- the coordinate that is the equation's multiplier, by the first pair that names the equation
abbrev pub dual_of : List (ℕ × ℕ) → ℕ → Option ℕ
dual_of [] e = None
dual_of (d ∷ ds) e = cond (nat_eq d.1 e) (Some d.0) (dual_of ds e)

-- ---- what a game keeps
-- each player is one of a game of so many coordinates and has at most one rule of each equation; the coordinates that are
-- multipliers are among them
pub record IsGame (g : Game) : Type 0 where
  pub players : EachPlayer (λ j pl. IsPlayer (coordinates g) pl) 0 g.players
  pub apart : EachPlayer (λ j pl. AreApart (map (λ r. r.equation) pl.rules)) 0 g.players
  pub duals : (k e : ℕ) → dual_of g.duals e ≡ Some k → k < coordinates g

abbrev pub IsConvexGame : Game → Type 0
IsConvexGame g = EachPlayer (λ j pl. IsConvex pl) 0 g.players
