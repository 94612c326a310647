-- Where base variables stand is the same over every number.
use Rattle.std.proofs.Common.{◌≡◌, ℕ, suc, ◌+◌, ℤ, pos, ◌&&◌, ◌||◌, cond, List, [], ◌∷◌, ◌++◌, map, refl, ap, ap₂, nat_eq}
use Rattle.std.specs.Prelude.{is_none}
use Rattle.emp_game.specs.Game.{names}
use Rattle.emp_split.specs.Games.{coordinates, has_rule, dual_of}
use Rattle.emp_split.specs.Numbers.{first_with, holder, needs_own, player_slots, place_by}
use Rattle.emp_conditions.specs.Base.{range, multiplier, range_slots, base_from, base_slots, index_base, range_place, multiplier_place}
use Rattle.emp_problem.specs.declared.problem.Rule.{Rule}
use Rattle.emp_problem.specs.declared.problem.BlockPart.{BlockPart}
use Rattle.emp_problem.specs.declared.problem.AgentProblem.{AgentProblem}
use Rattle.emp_problem.specs.Problem.{left_of, game_rule, game_player, game}
use Rattle.emp_kkt.specs.Items.{shape}
use Rattle.emp_kkt.specs.Making.{own_places}

rules_same : (n m : ℤ) (vs : List ℕ) (rs : List Rule) (e : ℕ) → has_rule (map (game_rule n vs) rs) e ≡ has_rule (map (game_rule m vs) rs) e
rules_same n m vs [] e = refl
rules_same n m vs (r ∷ rs) e = ap (λ b. nat_eq r.equation.at e || b) (rules_same n m vs rs e)

first_same : (n m : ℤ) (vs : List ℕ) (at : ℕ) (bs : List BlockPart) (e : ℕ) → first_with at (map (game_player n vs) bs) e ≡ first_with at (map (game_player m vs) bs) e
first_same n m vs at [] e = refl
first_same n m vs at (b ∷ bs) e = ap₂ (λ t k. cond t at k) (rules_same n m vs b.rules e) (first_same n m vs (suc at) bs e)

module _ (n : ℤ) (pr : AgentProblem) where
  pub holder_same : (j e : ℕ) → holder (game n pr) j e ≡ holder (shape pr) j e
  holder_same j e = ap (λ k. cond (names (shape pr).visols e) k j) (first_same n (pos 1) (left_of pr) 0 pr.blocks e)

  needs_same : (j e : ℕ) → needs_own (game n pr) j e ≡ needs_own (shape pr) j e
  needs_same j e = ap (λ h. is_none (dual_of (shape pr).duals e) && nat_eq h j) (holder_same j e)

  slots_same : (j : ℕ) (rs : List Rule) → player_slots (game n pr) j (map (game_rule n (left_of pr)) rs) ≡ player_slots (shape pr) j (map (game_rule (pos 1) (left_of pr)) rs)
  slots_same j [] = refl
  slots_same j (r ∷ rs) = ap₂ (λ b l. cond b ((j, r.equation.at) ∷ l) l) (needs_same j r.equation.at) (slots_same j rs)

  from_same : (j : ℕ) (bs : List BlockPart) → base_from (game n pr) j (map (game_player n (left_of pr)) bs) ≡ base_from (shape pr) j (map (game_player (pos 1) (left_of pr)) bs)
  from_same j [] = refl
  from_same j (b ∷ bs) = ap₂ (λ l m. range_slots (shape pr).ranges j (own_places pr b.own) ++ (map (λ s. multiplier s.0 s.1) l ++ m)) (slots_same j b.rules) (from_same (suc j) bs)

  pub base_same : base_slots (game n pr) ≡ base_slots (shape pr)
  base_same = from_same 0 pr.blocks

  pub range_place_same : (j k : ℕ) → range_place (game n pr) j k ≡ range_place (shape pr) j k
  range_place_same j k = ap (λ bs. coordinates (shape pr) + index_base (range j k) bs) base_same

  pub multiplier_place_same : (j e : ℕ) → multiplier_place (game n pr) j e ≡ multiplier_place (shape pr) j e
  multiplier_place_same j e = ap₂ (λ h bs. place_by (dual_of (shape pr).duals e) (coordinates (shape pr) + index_base (multiplier h e) bs)) (holder_same j e) base_same
