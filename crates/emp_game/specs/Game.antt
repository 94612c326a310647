-- Games of players with affine rules, in whole numbers: all numbers of a game are those of its problem times one number above 0.
use Rattle.std.specs.Prelude.{◌≡◌, ℕ, ◌≤◌, ◌<◌, ℤ, Bool, true, false, ◌||◌, List, [], ◌∷◌, All, length, slice_index_or, nat_eq}
use Rattle.emp_systems.specs.Steps.{Quadratic}
use Rattle.emp_ast.specs.declared.model.Relation.{Relation}
use Rattle.emp_ast.specs.declared.model.End.{End}
use Rattle.emp_ast.specs.declared.model.End.TheVariants.{Open}

-- `constant + cells` of the coordinates
pub record Row : Type 0 where
  pub constant : ℤ
  pub cells : List ℤ

-- left minus right of an equation, and how it is to stand to 0
pub record Rule : Type 0 where
  pub equation : ℕ
  pub relation : Relation
  pub row : Row

-- what a player wants to be least: a quadratic; or, by functions, one for each own coordinate, the sum of the functions at the
-- point where the player stands, each times the coordinate
pub data Purpose : Type 0 where
  goal : Quadratic → Purpose
  flow : List Row → Purpose

-- who chooses the own coordinates, given by their numbers
pub record Player : Type 0 where
  pub own : List ℕ
  pub purpose : Purpose
  pub rules : List Rule

-- the lower and the upper end of each coordinate's range
abbrev pub Ranges : Type 0
Ranges = List (End × End)

abbrev pub range_at : Ranges → ℕ → End × End
range_at rs k = slice_index_or rs k (Open, Open)

abbrev pub names : List ℕ → ℕ → Bool
names [] k = false
names (j ∷ js) k = nat_eq j k || names js k

abbrev pub owns : Player → ℕ → Bool
owns pl k = names pl.own k

-- ---- what a player keeps
abbrev pub AreApart : List ℕ → Type 0
AreApart [] = Unit {0}
AreApart (k ∷ ks) = (names ks k ≡ false) × AreApart ks

abbrev pub IsPurpose : ℕ → List ℕ → Purpose → Type 0
IsPurpose n own (goal q) = (length q.linear ≤ n) × (length q.square ≤ n) × All (λ r. length r ≤ n) q.square
IsPurpose n own (flow fs) = (length fs ≡ length own) × All (λ f. length f.cells ≤ n) fs

-- of a game of n coordinates: the own ones are among them and differ, there is one function for each, and nothing names a
-- coordinate from n on
pub record IsPlayer (n : ℕ) (pl : Player) : Type 0 where
  pub below : (k : ℕ) → owns pl k ≡ true → k < n
  pub apart : AreApart pl.own
  pub purpose : IsPurpose n pl.own pl.purpose
  pub rules : All (λ r. length r.row.cells ≤ n) pl.rules
