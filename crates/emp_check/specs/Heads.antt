-- The tests of a certificate's point and ray.
use Rattle.std.specs.Prelude.{ℕ, Bool, true, false, cond, List, [], ◌∷◌, Option, Some, None}
use Rattle.emp_num.specs.declared.frac.Frac.{Frac}
use Rattle.emp_num.specs.Ratio.{Ratio}
use Rattle.emp_rows.specs.declared.affine.Affine.{Affine}
use Rattle.emp_rows.specs.declared.system.RowSystem.{RowSystem}
use Rattle.emp_rows.specs.RowPoints.{quantity}
use Rattle.emp_algebra.specs.Vector.{is_zero}
use Rattle.emp_rows.specs.Values.{is_negative, measured, both, kinds_hold, zero_or, pairs_hold}
use Rattle.emp_check.specs.declared.outcome.Tested.{Tested}
use Rattle.emp_check.specs.declared.outcome.Tested.TheVariants.{Fine, Wrong, Wide}
use Rattle.emp_check.specs.declared.outcome.Why.{Why}
use Rattle.emp_check.specs.declared.outcome.Why.TheVariants.{Quantity, Pair, Ray}
use Rattle.emp_check.specs.Tests.{and_then}

-- what a test comes to that fails for this reason
abbrev pub tested : Why → Option Bool → Tested
tested w None = Wide
tested w (Some true) = Fine
tested w (Some false) = Wrong w

-- each quantity, and then each pair
abbrev pub point_test : RowSystem → List Frac → Tested
point_test s fs = and_then (tested Quantity (kinds_hold false s.quantities s.kinds fs)) (tested Pair (pairs_hold s fs s.pairs))

-- value and rate are 0, or else the other test
abbrev pub still_or : Option Ratio → Option Ratio → Option Bool → Option Bool
still_or None r rest = None
still_or (Some v) r rest = cond (is_zero v.top) (zero_or r rest) rest

-- a member of the pair has value and rate 0
abbrev pub still_holds : RowSystem → List Frac → List Frac → ℕ × ℕ → Option Bool
still_holds s fs gs (a, b) =
    still_or (measured false (quantity s a) fs) (measured true (quantity s a) gs) (still_or (measured false (quantity s b) fs) (measured true (quantity s b) gs) (Some false))

abbrev pub stills_hold : RowSystem → List Frac → List Frac → List (ℕ × ℕ) → Option Bool
stills_hold s fs gs [] = Some true
stills_hold s fs gs (p ∷ ps) = both (still_holds s fs gs p) (stills_hold s fs gs ps)

abbrev pub falls : Option Ratio → Option Bool
falls None = None
falls (Some v) = Some (is_negative v.top)

-- the rate of each quantity, each pair, and the objective's rate
abbrev pub ray_test : RowSystem → Affine → List Frac → List Frac → Tested
ray_test s r fs gs = and_then (tested Ray (kinds_hold true s.quantities s.kinds gs)) (and_then (tested Ray (stills_hold s fs gs s.pairs)) (tested Ray (falls (measured true r gs))))
