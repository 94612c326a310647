-- The conditions of a player in rows: of each own coordinate by its range, and of each rule. All are over the denominator d.
use Rattle.std.specs.Prelude.{◌≡◌, ◌⊎◌, ℕ, zero, suc, ℤ, pos, neg_ℤ, ◌+ℤ◌, ◌-ℤ◌, ◌*ℤ◌, ◌≤ℤ◌, Bool, true, false, List, [], ◌∷◌, map}
use Rattle.emp_algebra.specs.Vector.{cell, add_rows, is_zero}
use Rattle.emp_algebra.specs.Deciding.{total_cells}
use Rattle.emp_num.specs.declared.frac.Frac.{Frac}
use Rattle.emp_systems.specs.Steps.{Quadratic}
use Rattle.emp_ast.specs.declared.model.Relation.{Relation}
use Rattle.emp_ast.specs.declared.model.Relation.TheVariants.{Equal, AtLeast, AtMost, Nothing}
use Rattle.emp_ast.specs.declared.model.End.{End}
use Rattle.emp_ast.specs.declared.model.End.TheVariants.{Open, At}
use Rattle.emp_game.specs.Game.{Row, Rule, Purpose, goal, flow, Player, Ranges, range_at}
use Rattle.emp_game.specs.Solved.{value_at, charged}

-- both are at least 0, and one of them is 0
abbrev pub AreComplementary : ℤ → ℤ → Type 0
AreComplementary x y = (pos 0 ≤ℤ x) × (pos 0 ≤ℤ y) × ((x ≡ pos 0) ⊎ (y ≡ pos 0))

-- ---- own coordinates
-- the two ends are one number
abbrev pub ends_meet : Frac → Frac → Bool
ends_meet a b = is_zero (a.num *ℤ b.den -ℤ b.num *ℤ a.den)

-- the coordinate x over d less the lower end a, and the upper end b less the coordinate; each times a number above 0
abbrev pub over_low : Frac → ℤ → ℤ → ℤ
over_low a d x = x *ℤ a.den -ℤ a.num *ℤ d

abbrev pub under_high : Frac → ℤ → ℤ → ℤ
under_high b d x = b.num *ℤ d -ℤ x *ℤ b.den

abbrev pub BetweenHolds : Bool → Frac → Frac → ℤ → ℤ → ℤ → ℤ → Type 0
BetweenHolds true a b d x g z = over_low a d x ≡ pos 0
BetweenHolds false a b d x g z = AreComplementary (g +ℤ z) (over_low a d x) × AreComplementary z (under_high b d x)

-- for the coordinate x over d with this range: the derivative g of what is to be least, and a number z where both ends are
-- there and differ
abbrev pub CoordinateHolds : End → End → ℤ → ℤ → ℤ → ℤ → Type 0
CoordinateHolds Open Open d x g z = g ≡ pos 0
CoordinateHolds (At a) Open d x g z = AreComplementary g (over_low a d x)
CoordinateHolds Open (At b) d x g z = AreComplementary (neg_ℤ g) (under_high b d x)
CoordinateHolds (At a) (At b) d x g z = BetweenHolds (ends_meet a b) a b d x g z

-- ---- derivatives
abbrev pub column : List (List ℤ) → ℕ → List ℤ
column m k = map (λ r. cell r k) m

abbrev pub row_of : List (List ℤ) → ℕ → List ℤ
row_of [] k = []
row_of (r ∷ rs) zero = r
row_of (r ∷ rs) (suc k) = row_of rs k

-- of a quadratic by coordinate k
abbrev pub derivative : Quadratic → ℕ → Row
derivative q k = record { constant = cell q.linear k; cells = add_rows (row_of q.square k) (column q.square k) }

-- of the purpose by each own coordinate
abbrev pub derivatives : Player → List Row
derivatives pl = by_purpose pl.purpose
  where
    by_purpose : Purpose → List Row
    by_purpose (goal q) = map (derivative q) pl.own
    by_purpose (flow fs) = fs

-- less the multipliers times the cells of the rules
abbrev pub charged_slope : Player → Row → ℕ → ℤ → List ℤ → List ℤ → ℤ
charged_slope pl f k d xs us = value_at f d xs -ℤ cell (total_cells (charged pl.rules us)) k

-- the conditions of the own coordinates, in order, with one number z for each
abbrev pub CoordinatesHold : Ranges → Player → ℤ → List ℤ → List ℤ → List ℕ → List Row → List ℤ → Type 0
CoordinatesHold ranges pl d xs us [] fs zs = Unit {0}
CoordinatesHold ranges pl d xs us (k ∷ ks) [] zs = ⊥
CoordinatesHold ranges pl d xs us (k ∷ ks) (f ∷ fs) [] = ⊥
CoordinatesHold ranges pl d xs us (k ∷ ks) (f ∷ fs) (z ∷ zs) =
    CoordinateHolds (range_at ranges k).0 (range_at ranges k).1 d (cell xs k) (charged_slope pl f k d xs us) z × CoordinatesHold ranges pl d xs us ks fs zs

-- ---- rules
-- left minus right, and its number
abbrev pub RuleHolds : Relation → ℤ → ℤ → Type 0
RuleHolds Equal v u = v ≡ pos 0
RuleHolds AtLeast v u = AreComplementary u v
RuleHolds AtMost v u = AreComplementary (neg_ℤ u) (neg_ℤ v)
RuleHolds Nothing v u = u ≡ pos 0

abbrev pub RulesHold : List Rule → List ℤ → ℤ → List ℤ → Type 0
RulesHold [] [] d xs = Unit {0}
RulesHold [] (u ∷ us) d xs = ⊥
RulesHold (r ∷ rs) [] d xs = ⊥
RulesHold (r ∷ rs) (u ∷ us) d xs = RuleHolds r.relation (value_at r.row d xs) u × RulesHold rs us d xs

-- all conditions of the player
pub record Holds (ranges : Ranges) (pl : Player) (d : ℤ) (xs us zs : List ℤ) : Type 0 where
  pub coordinates : CoordinatesHold ranges pl d xs us pl.own (derivatives pl) zs
  pub rules : RulesHold pl.rules us d xs
