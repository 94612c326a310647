-- The row system of a game: its conditions as quantities with kinds and pairs, each quantity taken times a number above 0.
use Rattle.std.specs.Prelude.{◌≡◌, ℕ, ◌+◌, ℤ, pos, ◌*ℤ◌, ◌<ℤ◌, List, [], ◌∷◌, length, Option, Some, None}
use Rattle.emp_algebra.specs.Deciding.{value_times}
use Rattle.emp_rows.specs.declared.affine.Affine.{Affine}
use Rattle.emp_rows.specs.declared.system.Kind.{Kind}
use Rattle.emp_rows.specs.declared.system.Kind.TheVariants.{Zero, Nonneg}
use Rattle.emp_rows.specs.declared.system.RowSystem.{RowSystem}
use Rattle.emp_rows.specs.RowPoints.{value_at as affine_at}
use Rattle.emp_num.specs.Point.{Point}
use Rattle.emp_game.specs.Game.{Row}
use Rattle.emp_game.specs.Solved.{value_at}
use Rattle.emp_split.specs.Games.{Leader, Game, coordinates}
use Rattle.emp_conditions.specs.Base.{base_slots}
use Rattle.emp_conditions.specs.Rows.{Condition, zero_row, nonneg_row, pair, conditions}

-- ---- the conditions as quantities, in order: of a pair the second member stands first
abbrev pub rows_of : List Condition → List Row
rows_of [] = []
rows_of (zero_row r ∷ cs) = r ∷ rows_of cs
rows_of (nonneg_row r ∷ cs) = r ∷ rows_of cs
rows_of (pair a b ∷ cs) = b ∷ (a ∷ rows_of cs)

abbrev pub kinds_of : List Condition → List Kind
kinds_of [] = []
kinds_of (zero_row r ∷ cs) = Zero ∷ kinds_of cs
kinds_of (nonneg_row r ∷ cs) = Nonneg ∷ kinds_of cs
kinds_of (pair a b ∷ cs) = Nonneg ∷ (Nonneg ∷ kinds_of cs)

-- the pairs by the numbers of their quantities, first member first; `before` quantities stand before the first one
abbrev pub pairs_of : ℕ → List Condition → List (ℕ × ℕ)
pairs_of before [] = []
pairs_of before (zero_row r ∷ cs) = pairs_of (before + 1) cs
pairs_of before (nonneg_row r ∷ cs) = pairs_of (before + 1) cs
pairs_of before (pair a b ∷ cs) = (before + 2, before + 1) ∷ pairs_of (before + 2) cs

-- ---- quantities that are rows times a number above 0
pub record IsMultipleOf (q : Affine) (r : Row) : Type 0 where
  pub top : ℤ
  pub bottom : ℤ
  pub top_positive : pos 0 <ℤ top
  pub bottom_positive : pos 0 <ℤ bottom
  pub equal : (d : ℤ) (xs : List ℤ) → bottom *ℤ value_times q.constant q.cells d xs ≡ top *ℤ value_at r d xs

abbrev pub AreMultiplesOf : List Affine → List Row → Type 0
AreMultiplesOf [] [] = Unit {0}
AreMultiplesOf [] (r ∷ rs) = ⊥
AreMultiplesOf (q ∷ qs) [] = ⊥
AreMultiplesOf (q ∷ qs) (r ∷ rs) = IsMultipleOf q r × AreMultiplesOf qs rs

abbrev pub IsObjectiveOf : Option Affine → Option Leader → Type 0
IsObjectiveOf None None = Unit {0}
IsObjectiveOf None (Some l) = ⊥
IsObjectiveOf (Some q) None = ⊥
IsObjectiveOf (Some q) (Some l) = IsMultipleOf q l.goal

pub record IsSystemOf (g : Game) (s : RowSystem) : Type 0 where
  pub base : s.base ≡ coordinates g + length (base_slots g)
  pub quantities : AreMultiplesOf s.quantities (rows_of (conditions g))
  pub kinds : s.kinds ≡ kinds_of (conditions g)
  pub pairs : s.pairs ≡ pairs_of 0 (conditions g)
  pub objective : IsObjectiveOf s.objective g.leader

-- the objective at the first point is below that at the second; without one no point is better
abbrev pub IsBelowBy : Option Affine → Point → Point → Type 0
IsBelowBy None p q = ⊥
IsBelowBy (Some r) p q = (affine_at r p *ℤ q.den) <ℤ (affine_at r q *ℤ p.den)
