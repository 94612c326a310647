-- Rows that decide for a path, and what a tree of them shows, in numbers without bound.
use Rattle.std.specs.Prelude.{◌≡◌, ℕ, ◌+◌, Bool, true, false, ℤ, List, [], ◌∷◌, ◌++◌, length}
use Rattle.emp_algebra.specs.Deciding.{Weighted, IsRefutation, IsBound}
use Rattle.emp_algebra.specs.Deciding.{Zero as to_be_zero, Kind as Sort}
use Rattle.emp_num.specs.Point.{Point}
use Rattle.emp_rows.specs.declared.affine.Affine.{Affine}
use Rattle.emp_rows.specs.declared.system.Kind.{Kind}
use Rattle.emp_rows.specs.declared.system.RowSystem.{RowSystem}
use Rattle.emp_rows.specs.Points.{IsNumber}
use Rattle.emp_rows.specs.RowPoints.{sort_of, value_at}
use Rattle.emp_cert.specs.declared.tree.Node.{Node}
use Rattle.emp_cert.specs.declared.tree.Node.TheVariants.{Branch, Farkas, Bound}
use Rattle.emp_cert.specs.declared.tree.Turn.{Turn}
use Rattle.emp_cert.specs.Paths.{turn, is_on, is_split}

-- ---- rows
-- a quantity on the path is to be 0
abbrev pub sort_on : Bool → Kind → Sort
sort_on true t = to_be_zero
sort_on false t = sort_of t

abbrev pub weighed : RowSystem → List Turn → ℕ → Affine → Kind → ℤ → Weighted
weighed s p k q t f = record { factor = f; kind = sort_on (is_on s p k) t; constant = q.constant; cells = q.cells }

-- the quantities from number k on, each with its factor, those of the path to be 0
abbrev pub weighted : RowSystem → List Turn → ℕ → List Affine → List Kind → List ℤ → List Weighted
weighted s p k [] ts fs = []
weighted s p k (q ∷ qs) [] fs = []
weighted s p k (q ∷ qs) (t ∷ ts) [] = []
weighted s p k (q ∷ qs) (t ∷ ts) (f ∷ fs) = weighed s p k q t f ∷ weighted s p (k + 1) qs ts fs

-- factors, at least 0 on each quantity that is to be at least 0 off the path, of a sum that is a negative constant
abbrev pub IsFarkasRow : RowSystem → List Turn → List ℤ → Type 0
IsFarkasRow s p fs = IsRefutation (weighted s p 1 s.quantities s.kinds fs)

-- a weight above 0 and such factors: the weight times the objective minus the sum is a constant, at least the weight
-- times the objective at the point x
abbrev pub IsBoundRow : RowSystem → Affine → Point → List Turn → ℤ → List ℤ → Type 0
IsBoundRow s r x p w fs = IsBound (weighted s p 1 s.quantities s.kinds fs) w r.constant r.cells (value_at r x) x.den

-- ---- trees
-- a leaf, or a branch with a tree for each of its children
pub data NodeTree : Type 0 where
  split : ℕ → NodeTree → NodeTree → NodeTree
  refutes : List ℤ → NodeTree
  bounds : ℤ → List ℤ → NodeTree

abbrev pub preorder : NodeTree → List Node
preorder (split k a b) = Branch k ∷ preorder a ++ preorder b
preorder (refutes fs) = Farkas fs ∷ []
preorder (bounds w fs) = Bound w fs ∷ []

-- a branch names a pair that is not split above it, and each leaf is a Farkas row for its path
abbrev pub ShowsNone : RowSystem → List Turn → NodeTree → Type 0
ShowsNone s p (split k a b) = IsNumber (length s.pairs) k × (is_split p k ≡ false) × ShowsNone s (turn k false ∷ p) a × ShowsNone s (turn k true ∷ p) b
ShowsNone s p (refutes fs) = IsFarkasRow s p fs
ShowsNone s p (bounds w fs) = ⊥

-- the same, where a leaf may be a Bound row for the point x
abbrev pub ShowsBest : RowSystem → Affine → Point → List Turn → NodeTree → Type 0
ShowsBest s r x p (split k a b) = IsNumber (length s.pairs) k × (is_split p k ≡ false) × ShowsBest s r x (turn k false ∷ p) a × ShowsBest s r x (turn k true ∷ p) b
ShowsBest s r x p (refutes fs) = IsFarkasRow s p fs
ShowsBest s r x p (bounds w fs) = IsBoundRow s r x p w fs
