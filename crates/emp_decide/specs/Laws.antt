-- What is read off a dictionary of a row system decides, as statements.
use Rattle.std.specs.Prelude.{◌≡◌, ◌↔◌, ◌⊎◌, ℕ, ◌-◌, ◌<◌, ℤ, pos, ◌*ℤ◌, ◌≤ℤ◌, ◌<ℤ◌, Bool, List, length, slice_index_or, Some}
use Rattle.emp_algebra.specs.Deciding.{Zero as to_be_zero}
use Rattle.emp_num.specs.Point.{Point, StandsFor}
use Rattle.emp_num.specs.declared.frac.Frac.{Frac}
use Rattle.emp_rows.specs.declared.affine.Affine.{Affine}
use Rattle.emp_rows.specs.declared.system.Kind.TheVariants.{Zero}
use Rattle.emp_rows.specs.declared.system.RowSystem.{RowSystem}
use Rattle.emp_rows.specs.RowPoints.{value_at}
use Rattle.emp_cert.specs.declared.tree.Turn.{Turn}
use Rattle.emp_cert.specs.Paths.{is_on}
use Rattle.emp_cert.specs.Deciders.{sort_on, IsFarkasRow, IsBoundRow}
use Rattle.emp_dict.specs.declared.label.Label.{Label}
use Rattle.emp_dict.specs.declared.label.Label.TheVariants.{Quantity}
use Rattle.emp_dict.specs.declared.label.Mark.TheVariants.{Fixed}
use Rattle.emp_dict.specs.declared.label.Aim.TheVariants.{Up, Down, Least}
use Rattle.emp_dict.specs.declared.label.Choice.TheVariants.{Stop}
use Rattle.emp_dict.specs.Dictionary.{Dictionary, IsSound, IsLabel, RowsTrue, line_at, row_label, mark_at, started, label_value}
use Rattle.emp_dict.specs.Chosen.{chosen}
use Rattle.emp_step.specs.Levels.{IsLevel}
use Rattle.emp_decide.specs.Reads.{farkas_factors, bound_weight, bound_factors, IsPointOf, IsStepOf, value_of, rate_of}

abbrev pub started_of : RowSystem → Dictionary
started_of s = started s.base s.quantities s.objective

-- a dictionary of the system: it has the solutions of the one that the system starts with
pub record IsDictionaryOf (s : RowSystem) (d : Dictionary) : Type 0 where
  pub sound : IsSound d
  pub rows : length d.rows ≡ length (started_of s).rows
  pub columns : length d.columns ≡ s.base
  pub marks : length d.marks ≡ length s.quantities
  pub solutions : (c : ℤ) (f : Label → ℤ) → RowsTrue (started_of s) c f ↔ RowsTrue d c f

-- quantity k is to be 0, by its kind or by the path
abbrev pub IsToBeZero : RowSystem → List Turn → ℕ → Type 0
IsToBeZero s p k = sort_on (is_on s p k) (slice_index_or s.kinds (k - 1) Zero) ≡ to_be_zero

-- the Fixed quantities are to be 0
abbrev pub FixedOn : RowSystem → List Turn → Dictionary → Type 0
FixedOn s p d = (k : ℕ) → 0 < k → mark_at d k ≡ Fixed → IsToBeZero s p k

-- row r has quantity k, which cannot be moved to 0: raised, or lowered where it is to be 0
pub record IsRefused (s : RowSystem) (p : List Turn) (d : Dictionary) (r k : ℕ) : Type 0 where
  pub below : r < length d.rows
  pub label : row_label d r ≡ Quantity k
  pub stops : (((line_at d r).constant <ℤ pos 0) × (chosen d (Up r) ≡ Stop)) ⊎ ((pos 0 <ℤ (line_at d r).constant) × (chosen d (Down r) ≡ Stop) × IsToBeZero s p k)

-- such a row refutes the path
abbrev pub RefusedRefutes : Type 0
RefusedRefutes = (s : RowSystem) (p : List Turn) (d : Dictionary) (r k : ℕ) → IsDictionaryOf s d → IsLevel d → FixedOn s p d → IsRefused s p d r k → IsFarkasRow s p (farkas_factors d r)

-- where the objective cannot be made less, its row bounds it for the path, by the row's value
abbrev pub LeastBounds : Type 0
LeastBounds = (s : RowSystem) (o : Affine) (x : Point) (p : List Turn) (d : Dictionary) → IsDictionaryOf s d → s.objective ≡ Some o → IsLevel d → FixedOn s p d → chosen d Least ≡ Stop → (value_at o x *ℤ bound_weight d (length d.marks)) ≤ℤ ((line_at d (length d.marks)).constant *ℤ x.den) → IsBoundRow s o x p (bound_weight d (length d.marks)) (bound_factors d (length d.marks))

-- ---- points and steps
-- what a label is worth at a base vector xs over c, with c = 0 its rate along the step xs
abbrev pub worth : RowSystem → ℤ → List ℤ → Label → ℤ
worth s c xs = label_value s.quantities s.objective c xs

-- a label of the dictionary
abbrev pub IsLabelOf : Dictionary → Label → Type 0
IsLabelOf d w = IsLabel (length d.columns) (length d.marks) (length d.rows) w

-- each label is worth at the dictionary's point what the dictionary tells
abbrev pub PointsTell : Type 0
PointsTell = (s : RowSystem) (d : Dictionary) (fs : List Frac) (x : Point) → IsDictionaryOf s d → IsPointOf d fs → StandsFor fs x → (w : Label) → IsLabelOf d w → worth s x.den x.nums w *ℤ (value_of d w).bottom ≡ (value_of d w).top *ℤ x.den

-- and so are the rates along the step of a column
abbrev pub StepsTell : Type 0
StepsTell = (s : RowSystem) (d : Dictionary) (j : ℕ) (up : Bool) (fs : List Frac) (x : Point) → IsDictionaryOf s d → j < length d.columns → IsStepOf d j up fs → StandsFor fs x → (w : Label) → IsLabelOf d w → worth s (pos 0) x.nums w *ℤ (rate_of d j up w).bottom ≡ (rate_of d j up w).top *ℤ x.den
