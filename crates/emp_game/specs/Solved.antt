-- A player's choice: its deviations and rivals, when it is solved, and its multipliers. The point is xs over d.
use Rattle.std.specs.Prelude.{◌≡◌, ◌⊎◌, ℕ, ℤ, pos, ◌≤ℤ◌, ◌<ℤ◌, true, List, [], ◌∷◌, length}
use Rattle.emp_algebra.specs.Vector.{cell, add_rows}
use Rattle.emp_algebra.specs.Deciding.{Zero, Weighted, value_times}
use Rattle.emp_num.specs.Ratio.{Ratio, ratio}
use Rattle.emp_systems.specs.Steps.{Quadratic, IsAtMost}
use Rattle.emp_systems.specs.Lagrangian.{lagrangian}
use Rattle.emp_systems.specs.Own.{unit, Agrees}
use Rattle.emp_systems.specs.Lagrange.{IsOwnConvex}
use Rattle.emp_ast.specs.declared.model.Relation.{Relation}
use Rattle.emp_ast.specs.declared.model.Relation.TheVariants.{Equal, AtLeast, AtMost, Nothing}
use Rattle.emp_ast.specs.declared.model.End.{End}
use Rattle.emp_ast.specs.Meets.{IsAbove, IsBelow}
use Rattle.emp_game.specs.Game.{Row, Rule, Purpose, goal, flow, Player, Ranges, range_at, owns}

-- d times the row's value
abbrev pub value_at : Row → ℤ → List ℤ → ℤ
value_at r d xs = value_times r.constant r.cells d xs

abbrev pub InRange : End × End → Ratio → Type 0
InRange r x = IsAbove x r.0 × IsBelow x r.1

-- how left minus right is to stand to 0
abbrev pub IsObeyed : Relation → ℤ → Type 0
IsObeyed Equal z = z ≡ pos 0
IsObeyed AtLeast z = pos 0 ≤ℤ z
IsObeyed AtMost z = z ≤ℤ pos 0
IsObeyed Nothing z = Unit {0}

abbrev pub Obeys : List Rule → ℤ → List ℤ → Type 0
Obeys [] d xs = Unit {0}
Obeys (r ∷ rs) d xs = IsObeyed r.relation (value_at r.row d xs) × Obeys rs d xs

-- ---- deviations and rivals
-- ys over e has the others' coordinates, and the own ones within their ranges
pub record IsDeviation (ranges : Ranges) (pl : Player) (d : ℤ) (xs : List ℤ) (e : ℤ) (ys : List ℤ) : Type 0 where
  pub fits : length ys ≡ length ranges
  pub others : Agrees (owns pl) d xs e ys
  pub within : (k : ℕ) → owns pl k ≡ true → InRange (range_at ranges k) (ratio (cell ys k) e)

-- and obeys the player's rules
pub record IsRival (ranges : Ranges) (pl : Player) (d : ℤ) (xs : List ℤ) (e : ℤ) (ys : List ℤ) : Type 0 where
  pub deviation : IsDeviation ranges pl d xs e ys
  pub obeys : Obeys pl.rules e ys

-- ---- purposes
-- the functions at the point, which are over d, as the cells of their coordinates
abbrev pub flow_row : List ℕ → List Row → ℤ → List ℤ → List ℤ
flow_row [] fs d xs = []
flow_row (k ∷ ks) [] d xs = []
flow_row (k ∷ ks) (f ∷ fs) d xs = add_rows (unit k (value_at f d xs)) (flow_row ks fs d xs)

-- the purpose as a quadratic, where the player stands at xs over d: a goal, or d times the sum of a flow
abbrev pub purpose_at : Purpose → List ℕ → ℤ → List ℤ → Quadratic
purpose_at (goal q) own d xs = q
purpose_at (flow fs) own d xs = record { constant = pos 0; linear = flow_row own fs d xs; square = [] }

-- what it is taken times, so that multipliers over d are charged to it
abbrev pub times_at : Purpose → ℤ → ℤ
times_at (goal q) d = d
times_at (flow fs) d = pos 1

-- ---- solved
-- the point is a rival of itself, and no rival has a smaller purpose
pub record IsSolved (ranges : Ranges) (pl : Player) (d : ℤ) (xs : List ℤ) : Type 0 where
  pub feasible : IsRival ranges pl d xs d xs
  pub best : (e : ℤ) (ys : List ℤ) → pos 0 <ℤ e → IsRival ranges pl d xs e ys → IsAtMost (purpose_at pl.purpose pl.own d xs) d xs e ys

-- ---- multipliers
abbrev pub HasSign : Relation → ℤ → Type 0
HasSign Equal u = Unit {0}
HasSign AtLeast u = pos 0 ≤ℤ u
HasSign AtMost u = u ≤ℤ pos 0
HasSign Nothing u = u ≡ pos 0

-- one number for each rule, with the sign of its relation; it or left minus right is 0
abbrev pub AreSigned : List Rule → List ℤ → ℤ → List ℤ → Type 0
AreSigned [] [] d xs = Unit {0}
AreSigned [] (u ∷ us) d xs = ⊥
AreSigned (r ∷ rs) [] d xs = ⊥
AreSigned (r ∷ rs) (u ∷ us) d xs = HasSign r.relation u × ((value_at r.row d xs ≡ pos 0) ⊎ (u ≡ pos 0)) × AreSigned rs us d xs

-- the rules with their numbers
abbrev pub charged : List Rule → List ℤ → List Weighted
charged [] us = []
charged (r ∷ rs) [] = []
charged (r ∷ rs) (u ∷ us) = record { factor = u; kind = Zero; constant = r.row.constant; cells = r.row.cells } ∷ charged rs us

-- the purpose minus the sum of multiplier times (left minus right), where the multipliers are us over d; times a number above 0
abbrev pub charged_purpose : Player → ℤ → List ℤ → List ℤ → Quadratic
charged_purpose pl d xs us = lagrangian (times_at pl.purpose d) (purpose_at pl.purpose pl.own d xs) (charged pl.rules us)

-- us over d are multipliers: the point is among its deviations, and with the multipliers it is least of them
pub record AreMultipliers (ranges : Ranges) (pl : Player) (d : ℤ) (xs us : List ℤ) : Type 0 where
  pub among : IsDeviation ranges pl d xs d xs
  pub signed : AreSigned pl.rules us d xs
  pub least : (e : ℤ) (ys : List ℤ) → pos 0 <ℤ e → IsDeviation ranges pl d xs e ys → IsAtMost (charged_purpose pl d xs us) d xs e ys

-- ---- convex
abbrev pub IsConvexPurpose : Player → Purpose → Type 0
IsConvexPurpose pl (goal q) = IsOwnConvex (owns pl) q.square
IsConvexPurpose pl (flow fs) = Unit {0}

abbrev pub IsConvex : Player → Type 0
IsConvex pl = IsConvexPurpose pl pl.purpose
