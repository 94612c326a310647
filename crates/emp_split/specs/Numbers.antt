-- Which multipliers have a number of their own, and where the multiplier of a player's rule stands.
use Rattle.std.specs.Prelude.{ℕ, suc, ◌+◌, Bool, false, ◌&&◌, ◌||◌, nat_eq, cond, is_none, is_some, List, [], ◌∷◌, ◌++◌, map, Option, Some, None, ℤ}
use Rattle.emp_algebra.specs.Vector.{cell}
use Rattle.emp_game.specs.Game.{Rule, Player, names}
use Rattle.emp_split.specs.Games.{Game, coordinates, has_rule, dual_of}

-- the first player, counted from `at`, that has a rule of the equation
abbrev pub first_with : ℕ → List Player → ℕ → ℕ
first_with at [] e = at
first_with at (pl ∷ pls) e = cond (has_rule pl.rules e) at (first_with (suc at) pls e)

-- the player whose number is player j's multiplier of the equation: under `visol` the first that has it, else j itself
abbrev pub holder : Game → ℕ → ℕ → ℕ
holder g j e = cond (names g.visols e) (first_with 0 g.players e) j

-- player j has a number of its own for the equation
abbrev pub needs_own : Game → ℕ → ℕ → Bool
needs_own g j e = is_none (dual_of g.duals e) && nat_eq (holder g j e) j

-- a player and an equation
abbrev pub Slot : Type 0
Slot = ℕ × ℕ

abbrev pub player_slots : Game → ℕ → List Rule → List Slot
player_slots g j [] = []
player_slots g j (r ∷ rs) = cond (needs_own g j r.equation) ((j, r.equation) ∷ player_slots g j rs) (player_slots g j rs)

abbrev pub slots_from : Game → ℕ → List Player → List Slot
slots_from g j [] = []
slots_from g j (pl ∷ pls) = player_slots g j pl.rules ++ slots_from g (suc j) pls

-- the multipliers that have a number of their own: player by player, in the order of its rules
abbrev pub slots : Game → List Slot
slots g = slots_from g 0 g.players

abbrev pub index_of : Slot → List Slot → ℕ
index_of s [] = 0
index_of s (t ∷ ts) = cond (nat_eq t.0 s.0 && nat_eq t.1 s.1) 0 (suc (index_of s ts))

abbrev pub place_by : Option ℕ → ℕ → ℕ
place_by (Some k) p = k
place_by None p = p

-- where the multiplier of player j's rule stands among the coordinates and the numbers behind them
abbrev pub place : Game → ℕ → ℕ → ℕ
place g j e = place_by (dual_of g.duals e) (coordinates g + index_of (holder g j e, e) (slots g))

-- player j's multipliers, one for each of its rules
abbrev pub multipliers_at : Game → ℕ → List Rule → List ℤ → List ℤ
multipliers_at g j rules nums = map (λ r. cell nums (place g j r.equation)) rules

-- the player has a rule whose equation has a dual variable or is under `visol`
abbrev pub is_priced : Game → List Rule → Bool
is_priced g [] = false
is_priced g (r ∷ rs) = (is_some (dual_of g.duals r.equation) || names g.visols r.equation) || is_priced g rs
