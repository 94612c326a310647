-- Bounds, and the values that they are held against.
use Rattle.std.proofs.Common.{◌≡◌, ℤ, pos, ◌*ℤ◌, ◌<ℤ◌, ◌≤ℤ◌, List, [], ◌∷◌, Some, arith, refl, sym, ap, ◌∙◌}
use Rattle.emp_algebra.proofs.Order.{linear, mul_le_right, le_cancel_right}
use Rattle.emp_algebra.proofs.Ring.{var, ◌⊗◌, by_ring}
use Rattle.emp_num.specs.Ratio.{Ratio}
use Rattle.emp_rows.specs.declared.system.RowSystem.{RowSystem}
use Rattle.emp_rows.proofs.Points.{IsOver}
use Rattle.emp_cert.specs.declared.tree.Turn.{Turn}
use Rattle.emp_check.specs.declared.outcome.Tested.TheVariants.{Fine, Wide}
use Rattle.emp_check.specs.Levels.{too_wide}
use Rattle.emp_check.specs.Tests.{and_then, factors_test, columns_test, bound_test}
use Rattle.emp_check.proofs.Sums.{both}

-- where the value is too wide no bound is accepted, so nothing is left
pub no_bound : (s : RowSystem) (p : List Turn) (w : ℤ) (fs : List ℤ) → bound_test s too_wide p w fs ≡ Fine → ⊥
no_bound s p w fs e =
    let h = both (factors_test s p 1 s.kinds fs) (and_then (columns_test s (Some w) fs 0 s.base) Wide) e in
    let k = both (columns_test s (Some w) fs 0 s.base) Wide h.1 in
    cc

-- a value v of P and a bound v for Q
pub compare : (v : Ratio) (X d Y e : ℤ) → IsOver v X d → pos 0 <ℤ d → (v.top *ℤ e) ≤ℤ (Y *ℤ v.bottom) → (X *ℤ e) ≤ℤ (Y *ℤ d)
compare v X d Y e h p k =
    let m = mul_le_right (v.top *ℤ e) (Y *ℤ v.bottom) d k (omega (arith, linear)) in
    let a : X *ℤ e *ℤ v.bottom ≡ v.top *ℤ e *ℤ d =
    by_ring (X ∷ e ∷ v.bottom ∷ []) (var 0 ⊗ var 1 ⊗ var 2) (var 0 ⊗ var 2 ⊗ var 1) refl ∙ (ap (λ z. z *ℤ e) (sym h.same) ∙ by_ring (v.top ∷ d ∷ e ∷ []) (var 0 ⊗ var 1 ⊗ var 2) (var 0 ⊗ var 2 ⊗ var 1) refl) in
    let b : Y *ℤ d *ℤ v.bottom ≡ Y *ℤ v.bottom *ℤ d = by_ring (Y ∷ d ∷ v.bottom ∷ []) (var 0 ⊗ var 1 ⊗ var 2) (var 0 ⊗ var 2 ⊗ var 1) refl in
    le_cancel_right (X *ℤ e) (Y *ℤ d) v.bottom (omega (arith, linear, m, a, b)) h.positive
