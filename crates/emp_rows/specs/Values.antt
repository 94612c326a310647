-- Values of quantities at points that are lists of fractions, where each number that is formed is tested.
-- A value is none where one of its numbers is wide.
use Rattle.std.specs.Prelude.{ℕ, zero, suc, ◌^◌, Bool, true, false, cond, ◌&&◌, nat_lt, ℤ, pos, negsuc, ◌+ℤ◌, ◌*ℤ◌, unsigned_abs, List, [], ◌∷◌, Option, Some, None, option_and_then, Result, Ok, Err}
use Rattle.emp_algebra.specs.Vector.{is_zero}
use Rattle.emp_num.specs.declared.exact.Wide.{Wide as WideNumber}
use Rattle.emp_num.specs.declared.frac.Frac.{Frac}
use Rattle.emp_num.specs.Ratio.{Ratio, ratio}
use Rattle.emp_num.specs.SamePoint.{lowest}
use Rattle.emp_rows.specs.declared.affine.Affine.{Affine}
use Rattle.emp_rows.specs.declared.system.Kind.{Kind}
use Rattle.emp_rows.specs.declared.system.Kind.TheVariants.{Zero, Nonneg}
use Rattle.emp_rows.specs.declared.system.RowSystem.{RowSystem}
use Rattle.emp_rows.specs.RowPoints.{quantity}

abbrev pub is_narrow : ℤ → Bool
is_narrow z = nat_lt (unsigned_abs z) (2 ^ 126)

abbrev pub is_negative : ℤ → Bool
is_negative (pos n) = false
is_negative (negsuc n) = true

abbrev pub ratio_of : Frac → Ratio
ratio_of f = ratio f.num f.den

abbrev pub ratio_ok : Result Frac WideNumber → Option Ratio
ratio_ok (Ok f) = Some (ratio_of f)
ratio_ok (Err e) = None

-- ---- a value's fold: from the constant, by adding coefficient times coordinate, each fraction in lowest terms
abbrev pub checked_term : ℤ → Ratio → Option Ratio
checked_term a x = cond (is_narrow (a *ℤ x.top)) (Some (lowest (a *ℤ x.top) x.bottom)) None

abbrev pub adds_narrow : Ratio → Ratio → Bool
adds_narrow p q = is_narrow (p.top *ℤ q.bottom) && (is_narrow (q.top *ℤ p.bottom) && (is_narrow (p.top *ℤ q.bottom +ℤ q.top *ℤ p.bottom) && is_narrow (p.bottom *ℤ q.bottom)))

abbrev pub checked_plus : Ratio → Ratio → Option Ratio
checked_plus p q = cond (adds_narrow p q) (Some (lowest (p.top *ℤ q.bottom +ℤ q.top *ℤ p.bottom) (p.bottom *ℤ q.bottom))) None

-- the total with coefficient times coordinate added
abbrev pub valued_step : Ratio → ℤ → Ratio → Option Ratio
valued_step t a x = option_and_then (λ m. checked_plus t m) (checked_term a x)

abbrev pub valued : Ratio → List ℤ → List Frac → Option Ratio
valued t [] fs = Some t
valued t (a ∷ r) [] = Some t
valued t (a ∷ r) (f ∷ fs) = option_and_then (λ u. valued u r fs) (valued_step t a (ratio_of f))

-- the value at a point, or the rate along a step
abbrev pub measured : Bool → Affine → List Frac → Option Ratio
measured false r fs = valued (lowest r.constant (pos 1)) r.cells fs
measured true r fs = valued (lowest (pos 0) (pos 1)) r.cells fs

-- ---- tests, none where a value is wide
-- the second test counts where the first is passed
abbrev pub both : Option Bool → Option Bool → Option Bool
both None b = None
both (Some true) b = b
both (Some false) b = Some false

-- the value is as the kind asks
abbrev pub kind_holds : Kind → Option Ratio → Option Bool
kind_holds t None = None
kind_holds Zero (Some v) = Some (is_zero v.top)
kind_holds Nonneg (Some v) = cond (is_negative v.top) (Some false) (Some true)

abbrev pub kinds_hold : Bool → List Affine → List Kind → List Frac → Option Bool
kinds_hold rate [] ts fs = Some true
kinds_hold rate (q ∷ qs) [] fs = Some true
kinds_hold rate (q ∷ qs) (t ∷ ts) fs = both (kind_holds t (measured rate q fs)) (kinds_hold rate qs ts fs)

-- it is 0, or else the other test
abbrev pub zero_or : Option Ratio → Option Bool → Option Bool
zero_or None rest = None
zero_or (Some v) rest = cond (is_zero v.top) (Some true) rest

-- a member of the pair is 0
abbrev pub pair_holds : RowSystem → List Frac → ℕ × ℕ → Option Bool
pair_holds s fs (a, b) = zero_or (measured false (quantity s a) fs) (zero_or (measured false (quantity s b) fs) (Some false))

abbrev pub pairs_hold : RowSystem → List Frac → List (ℕ × ℕ) → Option Bool
pairs_hold s fs [] = Some true
pairs_hold s fs (p ∷ ps) = both (pair_holds s fs p) (pairs_hold s fs ps)

-- each quantity, and then each pair
abbrev pub holds : RowSystem → List Frac → Option Bool
holds s fs = both (kinds_hold false s.quantities s.kinds fs) (pairs_hold s fs s.pairs)
