-- The laws of a file and its game, as statements. The game's point is that of the variables that are left.
use Rattle.std.specs.Prelude.{◌≡◌, ◌↔◌, ℤ, pos, ◌*ℤ◌, ◌<ℤ◌, true, List, length}
use Rattle.emp_algebra.specs.Vector.{scale}
use Rattle.emp_num.specs.Point.{Point}
use Rattle.emp_ast.specs.declared.model.Model.{Model}
use Rattle.emp_ast.specs.declared.annot.Annot.{Annot}
use Rattle.emp_ast.specs.Rivals.{Fits, MeetsDefinitions}
use Rattle.emp_ast.specs.Bilevel.{IsBetterForLeader}
use Rattle.emp_left.specs.Left.{selected}
use Rattle.emp_split.specs.Games.{Game, coordinates, IsGame}
use Rattle.emp_split.specs.Meaning.{IsAdmissible, IsBetter}
use Rattle.emp_conditions.specs.Laws.{HasOneRule, IsLeader}
use Rattle.emp_quantities.specs.Laws.{GoalIsShort}
use Rattle.emp_problem.specs.Left.{left}
use Rattle.emp_problem.specs.GameOf.{IsGameOf}
use Rattle.emp_problem.specs.Class.{IsClassFile, SolvesFile}

-- the coordinates of the variables that are left
abbrev pub left_nums : Model → Annot → Point → List ℤ
left_nums m a p = selected (left m a) p.nums

-- a point that meets the definitions and whose coordinates solve the game solves the file
abbrev pub GameSolvesFile : Type 0
GameSolvesFile = (n : ℤ) (m : Model) (a : Annot) (g : Game) (p : Point) → IsClassFile m a → IsGameOf n m a g → Fits m p → MeetsDefinitions m a p → IsAdmissible g p.den (left_nums m a p) → SolvesFile m a p

-- a point that solves the file meets the definitions, and its coordinates solve the game
abbrev pub FileSolvesGame : Type 0
FileSolvesGame = (n : ℤ) (m : Model) (a : Annot) (g : Game) (p : Point) → IsClassFile m a → IsGameOf n m a g → SolvesFile m a p → MeetsDefinitions m a p × IsAdmissible g p.den (left_nums m a p)

-- in a bilevel file a point is better for the leader exactly where its coordinates are
abbrev pub OrdersAgree : Type 0
OrdersAgree = (n : ℤ) (m : Model) (a : Annot) (g : Game) (p q : Point) → IsClassFile m a → IsGameOf n m a g → a.bilevel ≡ true → Fits m p → Fits m q → MeetsDefinitions m a p → MeetsDefinitions m a q → IsBetter g.leader p.den (left_nums m a p) q.den (left_nums m a q) ↔ IsBetterForLeader m a p q

-- a point of the file with these coordinates, over a larger denominator, that meets the definitions
pub record Filled (m : Model) (a : Annot) (d : ℤ) (xs : List ℤ) : Type 0 where
  pub point : Point
  pub fits : Fits m point
  pub definitions : MeetsDefinitions m a point
  pub times : ℤ
  pub positive : pos 0 <ℤ times
  pub den : point.den ≡ times *ℤ d
  pub nums : left_nums m a point ≡ scale times xs

abbrev pub CoordinatesFill : Type 0
CoordinatesFill = (m : Model) (a : Annot) (d : ℤ) (xs : List ℤ) → IsClassFile m a → pos 0 <ℤ d → length xs ≡ length (left m a) → Filled m a d xs

-- the game is one, an equation has one rule, and the leader names its coordinates alone
pub record IsWellMade (g : Game) : Type 0 where
  pub game : IsGame g
  pub rules : HasOneRule g
  pub leader : IsLeader (coordinates g) g.leader
  pub goal : GoalIsShort (coordinates g) g.leader

abbrev pub GamesAreWellMade : Type 0
GamesAreWellMade = (n : ℤ) (m : Model) (a : Annot) (g : Game) → IsClassFile m a → IsGameOf n m a g → IsWellMade g
