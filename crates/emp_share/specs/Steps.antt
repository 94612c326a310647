-- The numbers on the way to the matrix of a block; this serves proofs.
use Rattle.std.specs.Prelude.{◌≡◌, ℕ, ◌+◌, ◌*◌, ◌/◌, ◌%◌, ◌<◌, ◌≤◌, pos, ◌*ℤ◌, List, length, slice_index_or}
use Rattle.emp_num.specs.FracSpec.{IsQuotient}
use Rattle.emp_num.specs.Whole.{whole}
use Rattle.emp_num.specs.declared.frac.Frac.{Frac}
use Rattle.emp_ldl.specs.declared.squares.Curve.{Curve}
use Rattle.emp_ldl.specs.declared.squares.Curve.TheVariants as Curved
use Rattle.emp_ast.specs.declared.tree.VarId.{VarId}
use Rattle.emp_poly.specs.Quads.{square_at}
use Rattle.emp_poly.specs.Gradient.{DoubleIsWide}
use Rattle.emp_poly.specs.declared.quad.Quad.{Quad}
use Rattle.emp_share.specs.Share.{variable_at, IsSecond}
use Rattle.emp_share.specs.declared.share.ShareFault.{ShareFault}
use Rattle.emp_share.specs.declared.share.ShareFault.TheVariants.{NotConvex, WideCurve, NoMemory}

-- twice the coefficient of the square, which is not wide
pub record IsDoubleOf (q : Quad) (v : ℕ) (d : Frac) : Type 0 where
  pub twice : IsQuotient d (pos 2 *ℤ (square_at q.square v v).num) (square_at q.square v v).den
  pub narrow : DoubleIsWide q v → ⊥

-- those of the first variables, up to the first one whose double is wide
pub record AreDoubles (q : Quad) (vs : List VarId) (ds : List Frac) : Type 0 where
  pub within : length ds ≤ length vs
  pub each : (i : ℕ) → i < length ds → IsDoubleOf q (variable_at vs i) (slice_index_or ds i (whole 0))
  pub last : length ds < length vs → DoubleIsWide q (variable_at vs (length ds))

-- all cells, row by row
pub record AreCells (q : Quad) (vs : List VarId) (side : ℕ) (cells : List Frac) : Type 0 where
  pub count : length cells ≡ side * side
  pub each : (k : ℕ) → k < side * side → IsSecond q (variable_at vs (k / side)) (variable_at vs (k % side)) (slice_index_or cells k (whole 0))

abbrev pub FaultIs : ℕ → Curve → ShareFault → Type 0
FaultIs at (Curved.Not k) (NotConvex b h) = (b ≡ at + 1) × (h ≡ k)
FaultIs at (Curved.Not k) (WideCurve b h) = ⊥
FaultIs at (Curved.Wide k) (WideCurve b h) = (b ≡ at + 1) × (h ≡ k)
FaultIs at (Curved.Wide k) (NotConvex b h) = ⊥
FaultIs at Curved.NoMemory (NotConvex b h) = ⊥
FaultIs at Curved.NoMemory (WideCurve b h) = ⊥
FaultIs at c NoMemory = Unit {0}
