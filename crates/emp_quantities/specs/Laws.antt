-- The laws of the row system of a game, as statements.
use Rattle.std.specs.Prelude.{◌≡◌, ◌↔◌, ℕ, ◌≤◌, ℤ, pos, ◌*ℤ◌, ◌<ℤ◌, List, take, length, Option, Some, None}
use Rattle.emp_algebra.specs.Vector.{scale}
use Rattle.emp_num.specs.Point.{Point}
use Rattle.emp_rows.specs.declared.system.RowSystem.{RowSystem}
use Rattle.emp_rows.specs.RowPoints.{Solves}
use Rattle.emp_split.specs.Games.{Leader, Game, coordinates, IsGame, IsConvexGame}
use Rattle.emp_split.specs.Meaning.{IsSplit, IsBetter}
use Rattle.emp_conditions.specs.Base.{split_of}
use Rattle.emp_conditions.specs.Rows.{SolvesRows}
use Rattle.emp_conditions.specs.Laws.{HasOneRule, IsLeader}
use Rattle.emp_quantities.specs.System.{IsSystemOf, IsBelowBy}
use Rattle.emp_quantities.specs.Over.{over, IsSystemOver}

-- the row points of the system are those of the conditions
abbrev pub SystemIsConditions : Type 0
SystemIsConditions = (g : Game) (s : RowSystem) (p : Point) → IsSystemOf g s → Solves s p ↔ SolvesRows g p.den p.nums

-- a row point splits the game
abbrev pub SystemIsSound : Type 0
SystemIsSound = (g : Game) (s : RowSystem) (p : Point) → IsGame g → IsConvexGame g → HasOneRule g → IsLeader (coordinates g) g.leader → IsSystemOf g s → Solves s p → IsSplit g p.den (split_of g p.nums)

-- each split point is that of a row point
abbrev pub SystemLifts : Type 0
SystemLifts = (g : Game) (s : RowSystem) (q : Point) → IsGame g → IsLeader (coordinates g) g.leader → IsSystemOf g s → IsSplit g q.den q.nums → (p : Point) × Solves s p × (p.den ≡ q.den) × (split_of g p.nums ≡ q.nums)

abbrev pub GoalIsShort : ℕ → Option Leader → Type 0
GoalIsShort n None = Unit {0}
GoalIsShort n (Some l) = length l.goal.cells ≤ n

-- a row point is better exactly where its coordinates are
abbrev pub SystemOrders : Type 0
SystemOrders = (g : Game) (s : RowSystem) (p q : Point) → GoalIsShort (coordinates g) g.leader → IsSystemOf g s → IsBelowBy s.objective p q ↔ IsBetter g.leader p.den (take (coordinates g) p.nums) q.den (take (coordinates g) q.nums)

-- ---- where the game's numbers are those of a problem times n
-- the row points of the system are those at which the game's numbers meet the conditions
abbrev pub OverIsConditions : Type 0
OverIsConditions = (n : ℤ) (g : Game) (s : RowSystem) (p : Point) → IsSystemOver n g s → Solves s p ↔ SolvesRows g p.den (over n g p.nums)

-- the game's coordinates and multipliers are those of the row point
abbrev pub OverKeeps : Type 0
OverKeeps = (n : ℤ) (g : Game) (xs : List ℤ) → (take (coordinates g) (over n g xs) ≡ take (coordinates g) xs) × (split_of g (over n g xs) ≡ split_of g xs)

-- a row point splits the game
abbrev pub OverIsSound : Type 0
OverIsSound = (n : ℤ) (g : Game) (s : RowSystem) (p : Point) → IsGame g → IsConvexGame g → HasOneRule g → IsLeader (coordinates g) g.leader → IsSystemOver n g s → Solves s p → IsSplit g p.den (split_of g p.nums)

-- each split point is that of a row point, with numbers and denominator times n
abbrev pub OverLifts : Type 0
OverLifts = (n : ℤ) (g : Game) (s : RowSystem) (q : Point) → pos 0 <ℤ n → IsGame g → IsLeader (coordinates g) g.leader → IsSystemOver n g s → IsSplit g q.den q.nums → (p : Point) × Solves s p × (p.den ≡ n *ℤ q.den) × (split_of g p.nums ≡ scale n q.nums)

-- of points with a number for each base variable, one is better exactly where its coordinates are
abbrev pub OverOrders : Type 0
OverOrders = (n : ℤ) (g : Game) (s : RowSystem) (p q : Point) → GoalIsShort (coordinates g) g.leader → IsSystemOver n g s → length p.nums ≡ s.base → length q.nums ≡ s.base → IsBelowBy s.objective p q ↔ IsBetter g.leader p.den (take (coordinates g) p.nums) q.den (take (coordinates g) q.nums)
