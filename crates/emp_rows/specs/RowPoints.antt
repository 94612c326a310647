-- Row points: the points of a row system.
use Rattle.std.specs.Prelude.{◌≡◌, ◌⊎◌, ℕ, ◌<◌, ◌-◌, ℤ, pos, List, [], ◌∷◌, length, slice_index_or}
use Rattle.emp_algebra.specs.Deciding.{IsOfKind, value_times}
use Rattle.emp_algebra.specs.Vector.{dot}
use Rattle.emp_algebra.specs.Deciding.{Zero as to_be_zero, Nonneg as to_be_nonneg, Kind as Sort}
use Rattle.emp_num.specs.Point.{Point}
use Rattle.emp_rows.specs.declared.affine.Affine.{Affine}
use Rattle.emp_rows.specs.declared.system.Kind.{Kind}
use Rattle.emp_rows.specs.declared.system.Kind.TheVariants.{Zero, Nonneg}
use Rattle.emp_rows.specs.declared.system.RowSystem.{RowSystem}

abbrev pub sort_of : Kind → Sort
sort_of Zero = to_be_zero
sort_of Nonneg = to_be_nonneg

abbrev pub no_row : Affine
no_row = record { cells = []; constant = pos 0 }

-- quantities and pairs are numbered from 1; no member of a pair has number 0 (`IsMember`)
abbrev pub quantity : RowSystem → ℕ → Affine
quantity s k = slice_index_or s.quantities (k - 1) no_row

abbrev pub pair : RowSystem → ℕ → ℕ × ℕ
pair s k = slice_index_or s.pairs (k - 1) (0, 0)

-- the point's denominator times the quantity's value at the point
abbrev pub value_at : Affine → Point → ℤ
value_at r p = value_times r.constant r.cells p.den p.nums

-- a step's denominator times the quantity's rate along the step
abbrev pub rate_along : Affine → Point → ℤ
rate_along r d = dot r.cells d.nums

abbrev pub AreOfKind : List Affine → List Kind → Point → Type 0
AreOfKind [] ks p = Unit {0}
AreOfKind (q ∷ qs) [] p = Unit {0}
AreOfKind (q ∷ qs) (k ∷ ks) p = IsOfKind (sort_of k) (value_at q p) × AreOfKind qs ks p

abbrev pub OneVanishes : RowSystem → Point → ℕ × ℕ → Type 0
OneVanishes s p (a, b) = (value_at (quantity s a) p ≡ pos 0) ⊎ (value_at (quantity s b) p ≡ pos 0)

-- a row point: a number for each base variable, each quantity of its kind, and one member of each pair 0
pub record Solves (s : RowSystem) (p : Point) : Type 0 where
  pub count : length p.nums ≡ s.base
  pub kinds : AreOfKind s.quantities s.kinds p
  pub pairs : (k : ℕ) → k < length s.pairs → OneVanishes s p (slice_index_or s.pairs k (0, 0))
