-- The tests of a leaf, in order, and what is summed in them.
use Rattle.std.specs.Prelude.{ℕ, zero, suc, ◌+◌, Bool, true, false, cond, ◌&&◌, not, ℤ, pos, ◌+ℤ◌, ◌-ℤ◌, ◌*ℤ◌, List, [], ◌∷◌, Option, Some, None, option_and_then}
use Rattle.emp_algebra.specs.Vector.{cell, is_zero}
use Rattle.emp_rows.specs.declared.affine.Affine.{Affine}
use Rattle.emp_rows.specs.declared.system.Kind.{Kind}
use Rattle.emp_rows.specs.declared.system.Kind.TheVariants.{Zero, Nonneg}
use Rattle.emp_rows.specs.declared.system.RowSystem.{RowSystem}
use Rattle.emp_num.specs.Ratio.{Ratio}
use Rattle.emp_check.specs.Levels.{Level, nothing, value, too_wide}
use Rattle.emp_cert.specs.declared.tree.Turn.{Turn}
use Rattle.emp_check.specs.declared.outcome.Tested.{Tested}
use Rattle.emp_check.specs.declared.outcome.Tested.TheVariants.{Fine, Wrong, Wide}
use Rattle.emp_check.specs.declared.outcome.Why.TheVariants.{Factor, NotConstant, Constant, Kind as WrongKind}
use Rattle.emp_rows.specs.RowPoints.{no_row}
use Rattle.emp_rows.specs.Values.{is_narrow, is_negative}
use Rattle.emp_cert.specs.Paths.{is_on}

-- the second test counts where the first is passed
abbrev pub and_then : Tested → Tested → Tested
and_then Fine t = t
and_then (Wrong w) t = Wrong w
and_then Wide t = Wide

-- ---- factors
-- at least 0 on a quantity that is to be at least 0, off the path
abbrev pub factor_test : Bool → Kind → ℤ → Tested
factor_test on Zero f = Fine
factor_test on Nonneg f = cond (is_negative f && not on) (Wrong Factor) Fine

-- of the quantities from number k on
abbrev pub factors_test : RowSystem → List Turn → ℕ → List Kind → List ℤ → Tested
factors_test s p k [] fs = Fine
factors_test s p k (t ∷ ts) [] = Fine
factors_test s p k (t ∷ ts) (f ∷ fs) = and_then (factor_test (is_on s p k) t f) (factors_test s p (k + 1) ts fs)

-- ---- sums
-- a row's number for a base variable counted from 0, or its constant
abbrev pub number : Option ℕ → Affine → ℤ
number (Some j) r = cell r.cells j
number None r = r.constant

abbrev pub moved : Bool → ℤ → ℤ → ℤ
moved true t p = t -ℤ p
moved false t p = t +ℤ p

-- the total with a product more, or less, where both are narrow; nothing is formed for a factor 0
abbrev pub stepped : Bool → ℤ → ℤ → ℤ → Option ℤ
stepped minus t f v = cond (is_zero f) (Some t) (cond (is_narrow (f *ℤ v) && is_narrow (moved minus t (f *ℤ v))) (Some (moved minus t (f *ℤ v))) None)

abbrev pub summed : Bool → Option ℕ → ℤ → List ℤ → List Affine → Option ℤ
summed minus at t [] qs = Some t
summed minus at t (f ∷ fs) [] = Some t
summed minus at t (f ∷ fs) (q ∷ qs) = option_and_then (λ u. summed minus at u fs qs) (stepped minus t f (number at q))

-- what a sum begins with: the weight times the objective's number, and 0 where there is no weight
abbrev pub objective_of : Option Affine → Affine
objective_of None = no_row
objective_of (Some r) = r

abbrev pub lead : RowSystem → Option ℤ → Option ℕ → Option ℤ
lead s None at = Some (pos 0)
lead s (Some w) at = cond (is_narrow (w *ℤ number at (objective_of s.objective))) (Some (w *ℤ number at (objective_of s.objective))) None

abbrev pub is_weighted : Option ℤ → Bool
is_weighted None = false
is_weighted (Some w) = true

-- a leaf's sum at a base variable, or its constant
abbrev pub leaf_sum : RowSystem → Option ℤ → List ℤ → Option ℕ → Option ℤ
leaf_sum s w fs at = option_and_then (λ t. summed (is_weighted w) at t fs s.quantities) (lead s w at)

abbrev pub zero_test : Option ℤ → Tested
zero_test None = Wide
zero_test (Some z) = cond (is_zero z) Fine (Wrong NotConstant)

-- n base variables from number j on, counted from 0
abbrev pub columns_test : RowSystem → Option ℤ → List ℤ → ℕ → ℕ → Tested
columns_test s w fs j zero = Fine
columns_test s w fs j (suc n) = and_then (zero_test (leaf_sum s w fs (Some j))) (columns_test s w fs (j + 1) n)

-- ---- constants
abbrev pub negative_test : Option ℤ → Tested
negative_test None = Wide
negative_test (Some z) = cond (is_negative z) Fine (Wrong Constant)

-- at least w times the value v
abbrev pub least_test : ℤ → Ratio → Option ℤ → Tested
least_test w v None = Wide
least_test w v (Some z) = cond (is_narrow (w *ℤ v.top)) (cond (is_negative (z *ℤ v.bottom -ℤ w *ℤ v.top)) (Wrong Constant) Fine) Wide

-- ---- leaves
abbrev pub farkas_test : RowSystem → List Turn → List ℤ → Tested
farkas_test s p fs =
    and_then (factors_test s p 1 s.kinds fs) (and_then (columns_test s None fs 0 s.base) (negative_test (leaf_sum s None fs None)))

-- `best` is the objective's value at the point named, where there is one
abbrev pub bound_test : RowSystem → Level → List Turn → ℤ → List ℤ → Tested
bound_test s nothing p w fs = and_then (factors_test s p 1 s.kinds fs) (Wrong WrongKind)
bound_test s (value v) p w fs =
    and_then (factors_test s p 1 s.kinds fs) (and_then (columns_test s (Some w) fs 0 s.base) (least_test w v (leaf_sum s (Some w) fs None)))
bound_test s too_wide p w fs = and_then (factors_test s p 1 s.kinds fs) (and_then (columns_test s (Some w) fs 0 s.base) Wide)
