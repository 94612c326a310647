-- What the walk of all pieces shows.
use Rattle.std.specs.Prelude.{◌≡◌, ◌↔◌, ◌⊎◌, ℕ, pos, List, [], ◌∷◌, length}
use Rattle.emp_num.specs.Point.{Point, StandsFor}
use Rattle.emp_num.specs.declared.frac.Frac.{Frac}
use Rattle.emp_rows.specs.declared.system.RowSystem.{RowSystem}
use Rattle.emp_rows.specs.RowPoints.{quantity, value_at, AreOfKind, Solves}
use Rattle.emp_decide.specs.Reads.{IsPointOf}
use Rattle.emp_faces.specs.Pieces.{Piece, Listed, listed, stopped_wide, stopped, pieces_of}

-- the quantities of these numbers are 0 at the point
abbrev pub AllVanish : RowSystem → List ℕ → Point → Type 0
AllVanish s [] x = Unit {0}
AllVanish s (k ∷ ks) x = (value_at (quantity s k) x ≡ pos 0) × AllVanish s ks x

-- the face of a path: a number for each base variable, each quantity of its kind, and those of the path 0
pub record OnFace (s : RowSystem) (ks : List ℕ) (x : Point) : Type 0 where
  pub count : length x.nums ≡ s.base
  pub kinds : AreOfKind s.quantities s.kinds x
  pub path : AllVanish s ks x

-- the face of one of the paths
abbrev pub OnSome : RowSystem → List (List ℕ) → Point → Type 0
OnSome s [] x = ⊥
OnSome s (ks ∷ paths) x = OnFace s ks x ⊎ OnSome s paths x

-- the row points are those of the faces of these paths
abbrev pub AreFaces : RowSystem → List (List ℕ) → Type 0
AreFaces s paths = (x : Point) → Solves s x ↔ OnSome s paths x

abbrev pub paths_of : List Piece → List (List ℕ)
paths_of [] = []
paths_of (f ∷ fs) = f.path ∷ paths_of fs

-- the dictionary's point is on the face of the path
abbrev pub StandsOn : RowSystem → Piece → Type 0
StandsOn s f = (gs : List Frac) (x : Point) → IsPointOf f.dictionary gs → StandsFor gs x → OnFace s f.path x

abbrev pub AllStand : RowSystem → List Piece → Type 0
AllStand s [] = Unit {0}
AllStand s (f ∷ fs) = StandsOn s f × AllStand s fs

-- the row points are those of the faces, and each piece's point is on its own
pub record AreAll (s : RowSystem) (fs : List Piece) : Type 0 where
  pub all : AreFaces s (paths_of fs)
  pub own : AllStand s fs

abbrev pub PiecesShow : RowSystem → Listed → Type 0
PiecesShow s (listed fs left nodes) = AreAll s fs
PiecesShow s (stopped_wide n p) = Unit {0}
PiecesShow s stopped = Unit {0}

abbrev pub AllPiecesShow : Type 0
AllPiecesShow = (s : RowSystem) (limit : ℕ) → PiecesShow s (pieces_of s limit)
