-- How a file and its game are tied, fact by fact. This serves proofs; no meaning cites it.
use Rattle.std.specs.Prelude.{◌≡◌, ◌↔◌, ℕ, ◌<◌, ℤ, pos, ◌*ℤ◌, ◌<ℤ◌, true, false, List, length, slice_get, slice_index_or, Some}
use Rattle.emp_algebra.specs.Vector.{scale}
use Rattle.emp_num.specs.Ratio.{Ratio, ratio, negated, SameRatio}
use Rattle.emp_num.specs.Point.{Point, coordinate}
use Rattle.emp_systems.specs.Steps.{Quadratic, value_squared}
use Rattle.emp_ast.specs.declared.model.Equation.{Equation}
use Rattle.emp_ast.specs.declared.model.Sense.{Sense}
use Rattle.emp_ast.specs.declared.model.Sense.TheVariants.{Min, Max}
use Rattle.emp_ast.specs.declared.model.Model.{Model}
use Rattle.emp_ast.specs.declared.annot.Annot.{Annot}
use Rattle.emp_ast.specs.Meets.{MeetsEquation}
use Rattle.emp_ast.specs.Parties.{Party, leader, block, objective, owns, is_defined, is_defined_of, EachDefinition}
use Rattle.emp_ast.specs.Rivals.{Fits, IsDeviation}
use Rattle.emp_ast.specs.Solved.{sides_gap}
use Rattle.emp_form.specs.Expansion.{form}
use Rattle.emp_game.specs.Game.{Row, Player, Ranges}
use Rattle.emp_game.specs.Game as TheGame
use Rattle.emp_game.specs.Solved.{value_at, IsObeyed}
use Rattle.emp_game.specs.Solved as Play
use Rattle.emp_agents.specs.Given.{difference}
use Rattle.emp_problem.specs.Left.{left, place, goal_form}
use Rattle.emp_problem.specs.GameOf.{IsRowOf, IsQuadraticOf}
use Rattle.emp_problem.specs.Class.{is_affine}
use Rattle.emp_meaning.specs.Laws.{left_nums}

-- ---- the variables that are left, and their places
abbrev pub left_at : Model → Annot → ℕ → ℕ
left_at m a i = slice_index_or (left m a) i 0

-- block k is there, or the party is the leader of a bilevel file
abbrev pub IsParty : Annot → Party → Type 0
IsParty a leader = a.bilevel ≡ true
IsParty a (block k) = k < length a.blocks

pub record Places (m : Model) (a : Annot) : Type 0 where
  pub placed : (v : ℕ) → v < length m.variables → is_defined m a v ≡ false → (place m a v < length (left m a)) × (left_at m a (place m a v) ≡ v)
  pub at : (i : ℕ) → i < length (left m a) → (left_at m a i < length m.variables) × (is_defined m a (left_at m a i) ≡ false) × (place m a (left_at m a i) ≡ i)
  -- a defined objective that a party owns is its own objective
  pub own : (k : Party) (v : ℕ) → IsParty a k → v < length m.variables → owns m a k v ≡ true → is_defined m a v ≡ true → is_defined_of m a k v ≡ true

-- player k of the game owns what block k owns and no equation defines
pub record Owners (m : Model) (a : Annot) (k : ℕ) (pl : Player) : Type 0 where
  pub owns : (i : ℕ) → i < length (left m a) → TheGame.owns pl i ≡ owns m a (block k) (left_at m a i)
  pub below : (i : ℕ) → TheGame.owns pl i ≡ true → i < length (left m a)

-- ---- values
-- left minus right has a value, which is that of the row over n
pub record GapIs (p : Point) (q : Equation) (top bottom : ℤ) : Type 0 where
  pub value : Ratio
  pub is : sides_gap p q ≡ Some value
  pub positive : pos 0 <ℤ value.bottom
  pub same : SameRatio value (ratio top bottom)

abbrev pub signed_ratio : Sense → Ratio → Ratio
signed_ratio Min x = x
signed_ratio Max x = negated x

pub record Values (n : ℤ) (m : Model) (a : Annot) : Type 0 where
  pub gap : (e : ℕ) (q : Equation) (row : Row) (p : Point) → slice_get m.equations e ≡ Some q → is_affine m a e ≡ true → IsRowOf n (left m a) (form (difference q)) row → Fits m p → GapIs p q (value_at row p.den (left_nums m a p)) (n *ℤ p.den)
  pub meets : (e : ℕ) (q : Equation) (row : Row) (p : Point) → slice_get m.equations e ≡ Some q → is_affine m a e ≡ true → IsRowOf n (left m a) (form (difference q)) row → Fits m p → MeetsEquation p q ↔ IsObeyed q.relation (value_at row p.den (left_nums m a p))
  -- a point meets the definition of the party's objective exactly where the coordinate is the polynomial's value
  pub given : (k : Party) (s : Sense) (w : ℕ) (g : Quadratic) (p : Point) → IsParty a k → objective m a k ≡ Some (s, w) → IsQuadraticOf n (left m a) (goal_form m a k) g → Fits m p → EachDefinition m a k (λ e q. MeetsEquation p q) ↔ SameRatio (signed_ratio s (coordinate p w)) (ratio (value_squared g p.den (left_nums m a p)) (n *ℤ (p.den *ℤ p.den)))

-- ---- deviations, both ways
-- the game's deviation, over a larger denominator, is that of a deviation of the file
pub record Deviates (m : Model) (a : Annot) (k : ℕ) (p : Point) (e : ℤ) (ys : List ℤ) : Type 0 where
  pub point : Point
  pub deviation : IsDeviation m a (block k) p point
  pub times : ℤ
  pub positive : pos 0 <ℤ times
  pub den : point.den ≡ times *ℤ e
  pub nums : left_nums m a point ≡ scale times ys

pub record Deviations (m : Model) (a : Annot) (ranges : Ranges) (k : ℕ) (pl : Player) : Type 0 where
  pub down : (p r : Point) → Fits m p → IsDeviation m a (block k) p r → Play.IsDeviation ranges pl p.den (left_nums m a p) r.den (left_nums m a r)
  pub up : (p : Point) (e : ℤ) (ys : List ℤ) → Fits m p → pos 0 <ℤ e → Play.IsDeviation ranges pl p.den (left_nums m a p) e ys → Deviates m a k p e ys
