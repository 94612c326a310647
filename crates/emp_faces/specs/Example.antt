-- Worked examples: all points of small systems, as faces.
use Rattle.std.specs.Prelude.{◌≡◌, ◌≢◌, ℕ, ℤ, pos, negsuc, false, List, [], ◌∷◌, Option, Some, None}
use Rattle.emp_rows.specs.declared.affine.Affine.{Affine}
use Rattle.emp_rows.specs.declared.system.Kind.{Kind}
use Rattle.emp_rows.specs.declared.system.Kind.TheVariants.{Nonneg}
use Rattle.emp_rows.specs.declared.system.RowSystem.{RowSystem}
use Rattle.emp_rows.specs.Systems.{IsSystem}
use Rattle.emp_dict.specs.Dictionary.{started}
use Rattle.emp_faces.specs.Pieces.{Listed, listed, stopped_wide, stopped, is_settled, pieces_of}
use Rattle.emp_faces.specs.Shown.{AreFaces, paths_of}

abbrev pub affine : ℤ → List ℤ → Affine
affine c cells = record { constant = c; cells = cells }

-- the paths, the units left and the nodes
abbrev pub told : Listed → Option (List (List ℕ) × (ℕ × ℕ))
told (listed fs left nodes) = Some (paths_of fs, (left, nodes))
told (stopped_wide n p) = None
told stopped = None

-- `x` and `y`, one of which is 0
abbrev pub axes_quantities : List Affine
axes_quantities = affine (pos 0) (pos 1 ∷ pos 0 ∷ []) ∷ affine (pos 0) (pos 0 ∷ pos 1 ∷ []) ∷ []

abbrev pub both : List Kind
both = Nonneg ∷ Nonneg ∷ []

abbrev pub IsAxes : Type 0
IsAxes = IsSystem 2 axes_quantities both ((1, 2) ∷ []) None

abbrev pub axes : IsAxes → RowSystem
axes h = record { base = 2; quantities = axes_quantities; kinds = both; pairs = (1, 2) ∷ []; objective = None; sound = h }

-- of `x` and `3 - x - y` one is 0, and of `y` and `2 - y`
abbrev pub corners_quantities : List Affine
corners_quantities = affine (pos 0) (pos 1 ∷ pos 0 ∷ []) ∷ affine (pos 0) (pos 0 ∷ pos 1 ∷ []) ∷ affine (pos 3) (negsuc 0 ∷ negsuc 0 ∷ []) ∷ affine (pos 2) (pos 0 ∷ negsuc 0 ∷ []) ∷ []

abbrev pub four : List Kind
four = Nonneg ∷ Nonneg ∷ Nonneg ∷ Nonneg ∷ []

abbrev pub IsCorners : Type 0
IsCorners = IsSystem 2 corners_quantities four ((1, 3) ∷ (2, 4) ∷ []) None

abbrev pub corners : IsCorners → RowSystem
corners h = record { base = 2; quantities = corners_quantities; kinds = four; pairs = (1, 3) ∷ (2, 4) ∷ []; objective = None; sound = h }

pub record ExampleAxes (h : IsAxes) : Type 0 where
  -- at the root `x` is 0 at the point, and moves: it is not settled
  pub moves : is_settled (started 2 axes_quantities None) 1 ≡ false
  -- the first member's piece comes first. The root takes a unit, and each child one and one for a pivot
  pub lists : told (pieces_of (axes h) 5) ≡ Some ((1 ∷ []) ∷ (2 ∷ []) ∷ [], (0, 3))
  pub not_second_first : told (pieces_of (axes h) 5) ≢ Some ((2 ∷ []) ∷ (1 ∷ []) ∷ [], (0, 3))
  -- with one unit less it stops
  pub asks : pieces_of (axes h) 4 ≡ stopped
  pub faces : AreFaces (axes h) ((1 ∷ []) ∷ (2 ∷ []) ∷ [])
  -- the first piece alone lacks (1, 0)
  pub not_first_alone : AreFaces (axes h) ((1 ∷ []) ∷ []) → ⊥
  -- with the pair settled at the root, because both are 0 there, (1, 1) would be a row point
  pub not_root : AreFaces (axes h) ([] ∷ []) → ⊥

pub record ExampleCorners (h : IsCorners) : Type 0 where
  -- four points, by paths from the root down
  pub lists : told (pieces_of (corners h) 13) ≡ Some ((1 ∷ 2 ∷ []) ∷ (1 ∷ 4 ∷ []) ∷ (3 ∷ 2 ∷ []) ∷ (3 ∷ 4 ∷ []) ∷ [], (0, 7))
  pub not_leaf_up : told (pieces_of (corners h) 13) ≢ Some ((2 ∷ 1 ∷ []) ∷ (4 ∷ 1 ∷ []) ∷ (2 ∷ 3 ∷ []) ∷ (4 ∷ 3 ∷ []) ∷ [], (0, 7))
  -- (3, 0) is on the third face alone
  pub not_without_third : AreFaces (corners h) ((1 ∷ 2 ∷ []) ∷ (1 ∷ 4 ∷ []) ∷ (3 ∷ 4 ∷ []) ∷ []) → ⊥

pub record ExamplePieces : Type 0 where
  pub is_axes : IsAxes
  pub axes : (h : IsAxes) → ExampleAxes h
  pub is_corners : IsCorners
  pub corners : (h : IsCorners) → ExampleCorners h
