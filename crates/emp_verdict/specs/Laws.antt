-- What a verdict on the row system of a file says of the file, as statements.
use Rattle.std.specs.Prelude.{◌≡◌, ℕ, ◌<◌, ℤ, true, length, slice_index_or}
use Rattle.emp_num.specs.Ratio.{SameRatio}
use Rattle.emp_num.specs.Point.{Point, coordinate}
use Rattle.emp_ast.specs.declared.model.Model.{Model}
use Rattle.emp_ast.specs.declared.annot.Annot.{Annot}
use Rattle.emp_ast.specs.Rivals.{Fits, MeetsDefinitions}
use Rattle.emp_ast.specs.Bilevel.{IsBest, IsRay}
use Rattle.emp_rows.specs.declared.system.RowSystem.{RowSystem}
use Rattle.emp_rows.specs.RowPoints.{Solves}
use Rattle.emp_cert.specs.Verdicts.{NoneBetter, IsRowRay}
use Rattle.emp_split.specs.Games.{Game, IsConvexGame}
use Rattle.emp_quantities.specs.Over.{IsSystemOver}
use Rattle.emp_problem.specs.Left.{left}
use Rattle.emp_problem.specs.GameOf.{IsGameOf}
use Rattle.emp_problem.specs.Class.{IsClassFile, SolvesFile}

-- the row system of a file of the class whose agents are convex: that of its game, whose numbers are those of the file times `times`
pub record HasRows (m : Model) (a : Annot) (s : RowSystem) : Type 0 where
  pub class : IsClassFile m a
  pub times : ℤ
  pub game : Game
  pub is : IsGameOf times m a game
  pub convex : IsConvexGame game
  pub system : IsSystemOver times game s

-- the coordinates of the variables that are left are the first ones of the row point
abbrev pub HasCoordinates : Model → Annot → Point → Point → Type 0
HasCoordinates m a p q = (i : ℕ) → i < length (left m a) → SameRatio (coordinate p (slice_index_or (left m a) i 0)) (coordinate q i)

-- the file's point of a row point: with its coordinates, and what the definitions give
pub record IsFileOf (m : Model) (a : Annot) (q p : Point) : Type 0 where
  pub fits : Fits m p
  pub definitions : MeetsDefinitions m a p
  pub same : HasCoordinates m a p q

-- ---- the laws
abbrev pub PointsSolve : Type 0
PointsSolve = (m : Model) (a : Annot) (s : RowSystem) (p q : Point) → HasRows m a s → Solves s q → IsFileOf m a q p → SolvesFile m a p

abbrev pub MissingHaveNone : Type 0
MissingHaveNone = (m : Model) (a : Annot) (s : RowSystem) (p : Point) → HasRows m a s → ((q : Point) → Solves s q → ⊥) → SolvesFile m a p → ⊥

abbrev pub BestAreBest : Type 0
BestAreBest = (m : Model) (a : Annot) (s : RowSystem) (p q : Point) → HasRows m a s → a.bilevel ≡ true → Solves s q → NoneBetter s q → IsFileOf m a q p → IsBest m a p

-- v is a step whose coordinates of the variables that are left are those of the row ray's step
abbrev pub RaysAreRays : Type 0
RaysAreRays = (m : Model) (a : Annot) (s : RowSystem) (p v q d : Point) → HasRows m a s → a.bilevel ≡ true → IsRowRay s q d → IsFileOf m a q p → Fits m v → HasCoordinates m a v d → IsRay m a p v
