-- What the walk to its end gives.
use Rattle.std.specs.Prelude.{◌≡◌, ℕ, ◌-◌, List, map, Result, Ok, Err}
use Rattle.std.specs.List.{All, AllZip}
use Rattle.emp_num.specs.Point.{Point, StandsFor}
use Rattle.emp_rows.specs.declared.system.RowSystem.{RowSystem}
use Rattle.emp_decide.specs.Reads.{IsPointOf}
use Rattle.emp_walk.specs.declared.fault.WalkFault.{WalkFault}
use Rattle.emp_walk.specs.declared.fault.WalkFault.TheVariants.{Wide, Spent, NoMemory}
use Rattle.emp_faces.specs.Pieces.{listed, stopped_wide, stopped, pieces_of}
use Rattle.emp_faces.specs.Pieces.{Piece as Face}
use Rattle.emp_faces.specs.Shown.{OnFace, AreFaces}
use Rattle.emp_pieces.specs.declared.walk.Piece.{Piece}
use Rattle.emp_pieces.specs.declared.list.PieceList.{PieceList}

-- the path of a piece of the walk, and the point of its dictionary
pub record IsReadOf (f : Face) (p : Piece) : Type 0 where
  pub path : p.path ≡ f.path
  pub point : IsPointOf f.dictionary p.point

-- the pieces are those of the walk with so many units
pub record IsList (s : RowSystem) (limit : ℕ) (l : PieceList) : Type 0 where
  pub faces : List Face
  pub walk : pieces_of s limit ≡ listed faces (limit - l.work) l.nodes
  pub read : AllZip IsReadOf faces l.items

-- each outcome comes exactly where the walk of all pieces with so many units ends so
abbrev pub ListGives : RowSystem → ℕ → Result PieceList WalkFault → Type 0
ListGives s limit (Ok l) = IsList s limit l
ListGives s limit (Err (Wide n p)) = pieces_of s limit ≡ stopped_wide n p
ListGives s limit (Err (Spent k)) = (pieces_of s limit ≡ stopped) × (k ≡ limit)
ListGives s limit (Err NoMemory) = Unit {0}

-- its point is on the face of its path
abbrev pub StandsOn : RowSystem → Piece → Type 0
StandsOn s p = (x : Point) → StandsFor p.point x → OnFace s p.path x

abbrev pub path_of : Piece → List ℕ
path_of p = p.path

-- the row points are those of the faces, and each piece's point is on its own
pub record ListShows (s : RowSystem) (l : PieceList) : Type 0 where
  pub all : AreFaces s (map path_of l.items)
  pub own : All (StandsOn s) l.items
