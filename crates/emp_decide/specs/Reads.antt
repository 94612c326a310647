-- What is read off a dictionary: its point, the step of a column, and the factors of a row that decides.
use Rattle.std.specs.Prelude.{◌≡◌, ℕ, zero, suc, ◌+◌, ◌-◌, ◌<◌, ℤ, pos, negsuc, neg_ℤ, ◌*ℤ◌, Bool, true, false, cond, List, length, replicate, slice_set, slice_index_or, Option, Some, None}
use Rattle.emp_num.specs.Ratio.{Ratio, ratio}
use Rattle.emp_num.specs.FracSpec.{IsQuotient}
use Rattle.emp_num.specs.declared.frac.Frac.{Frac}
use Rattle.emp_dict.specs.declared.label.Label.{Label}
use Rattle.emp_dict.specs.declared.label.Label.TheVariants.{Base, Quantity, Objective}
use Rattle.emp_dict.specs.Dictionary.{Dictionary, line_at, cell_at, row_label, column_label, row_of, label_eq}

-- ---- the point, where all columns are 0
abbrev pub value_by : Dictionary → Option ℕ → Ratio
value_by d None = ratio (pos 0) (pos 1)
value_by d (Some r) = ratio (line_at d r).constant (line_at d r).denom

-- the value of a label there
abbrev pub value_of : Dictionary → Label → Ratio
value_of d w = value_by d (row_of d w)

-- one fraction per base variable, its value
pub record IsPointOf (d : Dictionary) (fracs : List Frac) : Type 0 where
  pub count : length fracs ≡ length d.columns
  pub values : (b : ℕ) (f : Frac) → b < length d.columns → IsQuotient (slice_index_or fracs b f) (value_of d (Base (b + 1))).top (value_of d (Base (b + 1))).bottom

-- ---- the step of column j: it has rate 1 or -1, and the other columns stay
abbrev pub way : Bool → ℤ
way true = pos 1
way false = negsuc 0

abbrev pub rate_by : Dictionary → ℕ → Bool → Bool → Option ℕ → Ratio
rate_by d j up own None = ratio (cond own (way up) (pos 0)) (pos 1)
rate_by d j up own (Some r) = ratio (way up *ℤ cell_at d r j) (line_at d r).denom

-- the rate of a label along it
abbrev pub rate_of : Dictionary → ℕ → Bool → Label → Ratio
rate_of d j up w = rate_by d j up (label_eq w (column_label d j)) (row_of d w)

pub record IsStepOf (d : Dictionary) (j : ℕ) (up : Bool) (fracs : List Frac) : Type 0 where
  pub count : length fracs ≡ length d.columns
  pub rates : (b : ℕ) (f : Frac) → b < length d.columns → IsQuotient (slice_index_or fracs b f) (rate_of d j up (Base (b + 1))).top (rate_of d j up (Base (b + 1))).bottom

-- ---- factors, one per quantity
-- the factor z for the label, where it is a quantity's
abbrev pub put : Label → ℤ → List ℤ → List ℤ
put (Base b) z fs = fs
put (Quantity k) z fs = slice_set fs (k - 1) z
put Objective z fs = fs

-- for each of the first m columns `across` times the cell of row r
abbrev pub spread : Dictionary → ℕ → ℤ → ℕ → List ℤ → List ℤ
spread d r across zero fs = fs
spread d r across (suc m) fs = put (column_label d m) (across *ℤ cell_at d r m) (spread d r across m fs)

-- `own` for the row's quantity, `across` times the cell for each column's, and 0 for all others
abbrev pub factors : Dictionary → ℕ → ℤ → ℤ → List ℤ
factors d r own across = spread d r across (length d.columns) (put (row_label d r) own (replicate (length d.marks) (pos 0)))

-- a row with a negative constant gives its denominator and the opposite of each cell, one with a positive constant the reverse
abbrev pub farkas_by : Dictionary → ℕ → ℤ → List ℤ
farkas_by d r (pos c) = factors d r (neg_ℤ (line_at d r).denom) (pos 1)
farkas_by d r (negsuc c) = factors d r (line_at d r).denom (negsuc 0)

abbrev pub farkas_factors : Dictionary → ℕ → List ℤ
farkas_factors d r = farkas_by d r (line_at d r).constant

-- the objective's row gives its denominator as the weight, and each cell
abbrev pub bound_weight : Dictionary → ℕ → ℤ
bound_weight d r = (line_at d r).denom

abbrev pub bound_factors : Dictionary → ℕ → List ℤ
bound_factors d r = factors d r (pos 0) (pos 1)
