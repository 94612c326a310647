-- The rows of a game over its base variables, as conditions.
use Rattle.std.specs.Prelude.{◌≡◌, ℕ, suc, ◌+◌, ℤ, pos, negsuc, neg_ℤ, ◌+ℤ◌, ◌≤ℤ◌, nat_eq, cond, List, [], ◌∷◌, ◌++◌, length, Option, Some, None}
use Rattle.emp_algebra.specs.Vector.{cell, scale, add_rows}
use Rattle.emp_num.specs.declared.frac.Frac.{Frac}
use Rattle.emp_systems.specs.Own.{unit}
use Rattle.emp_ast.specs.declared.model.Relation.{Relation}
use Rattle.emp_ast.specs.declared.model.Relation.TheVariants.{Equal, AtLeast, AtMost, Nothing}
use Rattle.emp_ast.specs.declared.model.End.{End}
use Rattle.emp_ast.specs.declared.model.End.TheVariants.{Open, At}
use Rattle.emp_game.specs.Game.{Row, Rule, Player, Ranges, range_at}
use Rattle.emp_game.specs.Solved.{value_at}
use Rattle.emp_game.specs.Conditions.{AreComplementary, ends_meet, derivatives}
use Rattle.emp_split.specs.Games.{Leader, Game, coordinates}
use Rattle.emp_split.specs.Numbers.{holder}
use Rattle.emp_conditions.specs.Base.{base_slots, range_place, multiplier_place}

-- a row that is to be 0, one that is to be at least 0, or two that are to be at least 0 with one of them 0
pub data Condition : Type 0 where
  zero_row : Row → Condition
  nonneg_row : Row → Condition
  pair : Row → Row → Condition

abbrev pub HoldsAt : Condition → ℤ → List ℤ → Type 0
HoldsAt (zero_row r) d nums = value_at r d nums ≡ pos 0
HoldsAt (nonneg_row r) d nums = pos 0 ≤ℤ value_at r d nums
HoldsAt (pair a b) d nums = AreComplementary (value_at a d nums) (value_at b d nums)

abbrev pub HoldAt : List Condition → ℤ → List ℤ → Type 0
HoldAt [] d nums = Unit {0}
HoldAt (c ∷ cs) d nums = HoldsAt c d nums × HoldAt cs d nums

-- ---- rows
abbrev pub opposite : Row → Row
opposite r = record { constant = neg_ℤ r.constant; cells = scale (negsuc 0) r.cells }

abbrev pub variable : ℕ → Row
variable k = record { constant = pos 0; cells = unit k (pos 1) }

abbrev pub sum_row : Row → Row → Row
sum_row a b = record { constant = a.constant +ℤ b.constant; cells = add_rows a.cells b.cells }

-- the coordinate less its lower end, and its upper end less the coordinate
abbrev pub low_row : ℕ → Frac → Row
low_row k a = record { constant = neg_ℤ a.num; cells = unit k a.den }

abbrev pub high_row : ℕ → Frac → Row
high_row k b = record { constant = b.num; cells = unit k (neg_ℤ b.den) }

-- the multipliers of player j's rules, each times minus the rule's cell of coordinate k
abbrev pub charges : Game → ℕ → List Rule → ℕ → List ℤ
charges g j [] k = []
charges g j (r ∷ rs) k = add_rows (unit (multiplier_place g j r.equation) (neg_ℤ (cell r.row.cells k))) (charges g j rs k)

-- the derivative f by coordinate k, with the multipliers charged
abbrev pub slope_row : Game → ℕ → Player → Row → ℕ → Row
slope_row g j pl f k = record { constant = f.constant; cells = add_rows f.cells (charges g j pl.rules k) }

-- ---- the conditions of an own coordinate
abbrev pub range_conditions : End → End → ℕ → Row → Row → List Condition
range_conditions Open Open k s z = zero_row s ∷ []
range_conditions (At a) Open k s z = pair s (low_row k a) ∷ []
range_conditions Open (At b) k s z = pair (opposite s) (high_row k b) ∷ []
range_conditions (At a) (At b) k s z = cond (ends_meet a b) (zero_row (low_row k a) ∷ []) (pair (sum_row s z) (low_row k a) ∷ pair z (high_row k b) ∷ [])

abbrev pub own_conditions : Game → ℕ → Player → List ℕ → List Row → List Condition
own_conditions g j pl [] fs = []
own_conditions g j pl (k ∷ ks) [] = []
own_conditions g j pl (k ∷ ks) (f ∷ fs) =
    range_conditions (range_at g.ranges k).0 (range_at g.ranges k).1 k (slope_row g j pl f k) (variable (range_place g j k)) ++ own_conditions g j pl ks fs

-- ---- the conditions of a rule, with its multiplier
abbrev pub rule_condition : Relation → Row → Row → Condition
rule_condition Equal r u = zero_row r
rule_condition AtLeast r u = pair u r
rule_condition AtMost r u = pair (opposite u) (opposite r)
rule_condition Nothing r u = zero_row u

-- an equation under `visol` has them at the first player that has it alone
abbrev pub rule_conditions : Game → ℕ → List Rule → List Condition
rule_conditions g j [] = []
rule_conditions g j (r ∷ rs) =
    cond (nat_eq (holder g j r.equation) j) (rule_condition r.relation r.row (variable (multiplier_place g j r.equation)) ∷ rule_conditions g j rs) (rule_conditions g j rs)

-- ---- the leader's
abbrev pub leader_range : End → End → ℕ → List Condition
leader_range Open Open k = []
leader_range (At a) Open k = nonneg_row (low_row k a) ∷ []
leader_range Open (At b) k = nonneg_row (high_row k b) ∷ []
leader_range (At a) (At b) k = cond (ends_meet a b) (zero_row (low_row k a) ∷ []) (nonneg_row (low_row k a) ∷ nonneg_row (high_row k b) ∷ [])

abbrev pub leader_ranges : Ranges → List ℕ → List Condition
leader_ranges ranges [] = []
leader_ranges ranges (k ∷ ks) = leader_range (range_at ranges k).0 (range_at ranges k).1 k ++ leader_ranges ranges ks

abbrev pub leader_rule : Relation → Row → List Condition
leader_rule Equal r = zero_row r ∷ []
leader_rule AtLeast r = nonneg_row r ∷ []
leader_rule AtMost r = nonneg_row (opposite r) ∷ []
leader_rule Nothing r = []

abbrev pub leader_rules : List Rule → List Condition
leader_rules [] = []
leader_rules (r ∷ rs) = leader_rule r.relation r.row ++ leader_rules rs

abbrev pub leader_conditions : Game → Option Leader → List Condition
leader_conditions g None = []
leader_conditions g (Some l) = leader_ranges g.ranges l.own ++ leader_rules l.rules

-- ---- all, in order
abbrev pub player_conditions : Game → ℕ → List Player → List Condition
player_conditions g j [] = []
player_conditions g j (pl ∷ pls) = own_conditions g j pl pl.own (derivatives pl) ++ (rule_conditions g j pl.rules ++ player_conditions g (suc j) pls)

abbrev pub conditions : Game → List Condition
conditions g = leader_conditions g g.leader ++ player_conditions g 0 g.players

-- a point of all base variables that meets them
pub record SolvesRows (g : Game) (d : ℤ) (nums : List ℤ) : Type 0 where
  pub count : length nums ≡ coordinates g + length (base_slots g)
  pub hold : HoldAt (conditions g) d nums
