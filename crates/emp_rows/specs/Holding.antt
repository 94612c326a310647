-- What the test of a row point answers.
use Rattle.std.specs.Prelude.{◌≡◌, ℕ, ◌<◌, Bool, true, false, List, length, slice_index_or, Some, None, Result, Ok, Err}
use Rattle.emp_algebra.specs.Deciding.{IsOfKind}
use Rattle.emp_num.specs.declared.exact.Wide.{Wide as WideNumber}
use Rattle.emp_num.specs.declared.frac.Frac.{Frac}
use Rattle.emp_num.specs.Point.{Point, StandsFor}
use Rattle.emp_num.specs.Ratio.{Ratio}
use Rattle.emp_rows.specs.declared.affine.Affine.{Affine}
use Rattle.emp_rows.specs.declared.system.Kind.{Kind}
use Rattle.emp_rows.specs.declared.system.Kind.TheVariants.{Zero}
use Rattle.emp_rows.specs.declared.system.RowSystem.{RowSystem}
use Rattle.emp_rows.specs.RowPoints.{sort_of, no_row, Solves}
use Rattle.emp_rows.specs.Values.{measured}

-- the fold of the quantity at place k, counted from 0, ends well, with a value of the quantity's kind
pub record FitsAt (qs : List Affine) (ts : List Kind) (fs : List Frac) (k : ℕ) : Type 0 where
  pub value : Ratio
  pub ends : measured false (slice_index_or qs k no_row) fs ≡ Some value
  pub kind : IsOfKind (sort_of (slice_index_or ts k Zero)) value.top

-- the fold of the quantity at place k is wide, and no earlier quantity broke its kind
pub record IsFirstWide (qs : List Affine) (ts : List Kind) (fs : List Frac) (k : ℕ) : Type 0 where
  pub within : k < length qs
  pub wide : measured false (slice_index_or qs k no_row) fs ≡ None
  pub before : (j : ℕ) → j < k → FitsAt qs ts fs j

abbrev pub NoneWide : RowSystem → List Frac → Type 0
NoneWide s fs = (k : ℕ) → IsFirstWide s.quantities s.kinds fs k → ⊥

-- whether each point that the fractions stand for is a row point: each outcome with what is so exactly there
abbrev pub HoldsGives : RowSystem → List Frac → Result Bool WideNumber → Type 0
HoldsGives s fs (Ok true) = ((p : Point) → StandsFor fs p → Solves s p) × NoneWide s fs
HoldsGives s fs (Ok false) = ((p : Point) → StandsFor fs p → Solves s p → ⊥) × NoneWide s fs
HoldsGives s fs (Err e) = (k : ℕ) × IsFirstWide s.quantities s.kinds fs k
