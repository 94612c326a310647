-- The base variables of a game's rows: the coordinates, and then player by player a number for each own coordinate whose two
-- ends are there and differ, and one for each multiplier that has a number of its own.
use Rattle.std.specs.Prelude.{ℕ, suc, ◌+◌, ℤ, Bool, false, ◌&&◌, not, nat_eq, cond, List, [], ◌∷◌, ◌++◌, map, take}
use Rattle.emp_algebra.specs.Vector.{cell}
use Rattle.emp_ast.specs.declared.model.End.{End}
use Rattle.emp_ast.specs.declared.model.End.TheVariants.{Open, At}
use Rattle.emp_game.specs.Game.{Rule, Player, Ranges, range_at}
use Rattle.emp_game.specs.Conditions.{ends_meet}
use Rattle.emp_split.specs.Games.{Game, coordinates, dual_of}
use Rattle.emp_split.specs.Numbers.{holder, player_slots, slots, place_by}

-- of a player and a coordinate, or of a player and an equation
pub data Base : Type 0 where
  range : ℕ → ℕ → Base
  multiplier : ℕ → ℕ → Base

abbrev pub two_ends : End → End → Bool
two_ends Open hi = false
two_ends (At a) Open = false
two_ends (At a) (At b) = not (ends_meet a b)

abbrev pub range_slots : Ranges → ℕ → List ℕ → List Base
range_slots ranges j [] = []
range_slots ranges j (k ∷ ks) = cond (two_ends (range_at ranges k).0 (range_at ranges k).1) (range j k ∷ range_slots ranges j ks) (range_slots ranges j ks)

abbrev pub base_from : Game → ℕ → List Player → List Base
base_from g j [] = []
base_from g j (pl ∷ pls) = range_slots g.ranges j pl.own ++ (map (λ s. multiplier s.0 s.1) (player_slots g j pl.rules) ++ base_from g (suc j) pls)

-- those behind the coordinates
abbrev pub base_slots : Game → List Base
base_slots g = base_from g 0 g.players

abbrev pub same_base : Base → Base → Bool
same_base (range i k) (range j l) = nat_eq i j && nat_eq k l
same_base (range i k) (multiplier j e) = false
same_base (multiplier i e) (range j k) = false
same_base (multiplier i e) (multiplier j f) = nat_eq i j && nat_eq e f

abbrev pub index_base : Base → List Base → ℕ
index_base s [] = 0
index_base s (t ∷ ts) = cond (same_base t s) 0 (suc (index_base s ts))

-- where they stand among all base variables
abbrev pub range_place : Game → ℕ → ℕ → ℕ
range_place g j k = coordinates g + index_base (range j k) (base_slots g)

abbrev pub multiplier_place : Game → ℕ → ℕ → ℕ
multiplier_place g j e = place_by (dual_of g.duals e) (coordinates g + index_base (multiplier (holder g j e) e) (base_slots g))

-- player j's multipliers, one for each of its rules
abbrev pub multipliers_in : Game → ℕ → List Rule → List ℤ → List ℤ
multipliers_in g j rules nums = map (λ r. cell nums (multiplier_place g j r.equation)) rules

-- the coordinates and the multipliers alone
abbrev pub split_of : Game → List ℤ → List ℤ
split_of g nums = take (coordinates g) nums ++ map (λ s. cell nums (coordinates g + index_base (multiplier s.0 s.1) (base_slots g))) (slots g)
