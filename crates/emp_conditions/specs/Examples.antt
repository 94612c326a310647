-- Small games on which the words say what they should: the right numbers meet them and wrong ones do not.
use Rattle.std.specs.Prelude.{◌≡◌, ℕ, ℤ, pos, negsuc, List, [], ◌∷◌, None}
use Rattle.emp_num.specs.Whole.{whole}
use Rattle.emp_ast.specs.declared.model.Relation.TheVariants.{Equal, AtLeast}
use Rattle.emp_ast.specs.declared.model.End.TheVariants.{Open, At}
use Rattle.emp_game.specs.Game.{Row, goal, flow, Player, Ranges}
use Rattle.emp_split.specs.Games.{Game}
use Rattle.emp_split.specs.Numbers.{slots, place}
use Rattle.emp_conditions.specs.Base.{base_slots, range, multiplier}
use Rattle.emp_conditions.specs.Rows.{SolvesRows}

abbrev pub row : ℤ → List ℤ → Row
row constant cells = record { constant = constant; cells = cells }

abbrev pub game : Ranges → List Player → List (ℕ × ℕ) → List ℕ → Game
game ranges players duals visols = record { ranges = ranges; leader = None; players = players; duals = duals; visols = visols }

-- least x^2 where x - 1 is at least 0
abbrev pub square_above_one : Player
square_above_one = record { own = 0 ∷ []; purpose = goal (record { constant = pos 0; linear = []; square = (pos 1 ∷ []) ∷ [] }); rules = record { equation = 0; relation = AtLeast; row = row (negsuc 0) (pos 1 ∷ []) } ∷ [] }

-- least -x where x is from 0 to 5
abbrev pub greatest : Player
greatest = record { own = 0 ∷ []; purpose = goal (record { constant = pos 0; linear = negsuc 0 ∷ []; square = [] }); rules = [] }

-- the function y at coordinate y, and x + y - 2 is to be 0
abbrev pub first_share : Player
first_share = record { own = 0 ∷ []; purpose = flow (row (pos 0) (pos 1 ∷ []) ∷ []); rules = record { equation = 0; relation = Equal; row = row (negsuc 1) (pos 1 ∷ (pos 1 ∷ [])) } ∷ [] }

abbrev pub second_share : Player
second_share = record { own = 1 ∷ []; purpose = flow (row (pos 0) (pos 0 ∷ (pos 1 ∷ [])) ∷ []); rules = record { equation = 0; relation = Equal; row = row (negsuc 1) (pos 1 ∷ (pos 1 ∷ [])) } ∷ [] }

abbrev pub bounded : Game
bounded = game ((At (whole 0), At (whole 5)) ∷ []) (greatest ∷ []) [] []

abbrev pub above_one : Game
above_one = game ((Open, Open) ∷ []) (square_above_one ∷ []) [] []

abbrev pub shared : List ℕ → Game
shared visols = game ((Open, Open) ∷ ((Open, Open) ∷ [])) (first_share ∷ (second_share ∷ [])) [] visols

pub record ExamplesOfRows : Type 0 where
  -- x = 1 with the multiplier 2, and neither x = 1 with 1 nor x = 0 with 0
  pub multiplier_two : SolvesRows above_one (pos 1) (pos 1 ∷ (pos 2 ∷ []))
  pub multiplier_one : SolvesRows above_one (pos 1) (pos 1 ∷ (pos 1 ∷ [])) → ⊥
  pub outside : SolvesRows above_one (pos 1) (pos 0 ∷ (pos 0 ∷ [])) → ⊥
  -- x = 5 with the number 1 of its upper end, and not x = 0
  pub at_upper_end : SolvesRows bounded (pos 1) (pos 5 ∷ (pos 1 ∷ []))
  pub at_lower_end : (z : ℤ) → SolvesRows bounded (pos 1) (pos 0 ∷ (z ∷ [])) → ⊥
  -- a shared equation has a number for each player, and under `visol` one for both, at the first
  pub two_numbers : slots (shared []) ≡ (0, 0) ∷ ((1, 0) ∷ [])
  pub one_number : slots (shared (0 ∷ [])) ≡ (0, 0) ∷ []
  pub one_place : place (shared (0 ∷ [])) 1 0 ≡ 2
  pub numbers : base_slots (game ((At (whole 0), At (whole 5)) ∷ []) (greatest ∷ (square_above_one ∷ [])) [] []) ≡ range 0 0 ∷ (range 1 0 ∷ (multiplier 1 0 ∷ []))
