-- A combination of rows is at least 0 at each point that they meet, so it refutes or bounds.
use Rattle.std.proofs.Common.{◌≡◌, ℤ, pos, negsuc, ◌+ℤ◌, ◌-ℤ◌, ◌*ℤ◌, ◌≤ℤ◌, ◌<ℤ◌, List, [], ◌∷◌, All, arith, refl, sym, ap, ap₂, ◌∙◌}
use Rattle.std.proofs.lemmas.List.Elements.{All-head, All-tail}
use lib.IntN.{zero-*ℤ, *ℤ-zero}
use Rattle.std.proofs.lemmas.Int.{ints}
use Rattle.emp_algebra.proofs.Ring.{var, lit, neg, ◌⊕◌, ◌⊖◌, ◌⊗◌, by_ring}
use Rattle.emp_algebra.proofs.Order.{linear, mul_lt_right, mul_le_right, le_cancel_right}
use Rattle.emp_algebra.proofs.Laws.{mul_nonneg}
use Rattle.emp_algebra.proofs.Vectors.{dot-scale, dot-add_rows, dot-zeros}
use Rattle.emp_algebra.specs.Vector.{dot, scale, add_rows}
use Rattle.emp_algebra.specs.Deciding.{Kind, Zero, Nonneg, Weighted, value_times, IsOfKind, FactorFits, total_cells, total_constant, Meets, IsRefutation, IsBound}

-- a factor that fits its row's kind keeps the product at least 0
term_nonneg : (k : Kind) (f v : ℤ) → FactorFits k f → IsOfKind k v → pos 0 ≤ℤ (f *ℤ v)
term_nonneg Zero f v h e = rw e (rw *ℤ-zero (omega (arith, ints)))
term_nonneg Nonneg f v h e = mul_nonneg f v h e

-- the combined row at a point is at least 0
total_nonneg : (ws : List Weighted) (d : ℤ) (xs : List ℤ) → All (λ w. FactorFits w.kind w.factor) ws → Meets ws d xs → pos 0 ≤ℤ (total_constant ws *ℤ d +ℤ dot (total_cells ws) xs)
total_nonneg [] d xs h m = omega (arith, ints)
total_nonneg (w ∷ ws) d xs h m =
    let here = term_nonneg w.kind w.factor (value_times w.constant w.cells d xs) (All-head (λ w. FactorFits w.kind w.factor) w ws h) (All-head (λ w. IsOfKind w.kind (value_times w.constant w.cells d xs)) w ws m) in
    let rest = total_nonneg ws d xs (All-tail (λ w. FactorFits w.kind w.factor) w ws h) (All-tail (λ w. IsOfKind w.kind (value_times w.constant w.cells d xs)) w ws m) in
    let split : dot (add_rows (scale w.factor w.cells) (total_cells ws)) xs ≡ w.factor *ℤ dot w.cells xs +ℤ dot (total_cells ws) xs = dot-add_rows (scale w.factor w.cells) (total_cells ws) xs ∙ ap (λ z. z +ℤ dot (total_cells ws) xs) (dot-scale w.factor w.cells xs) in
    let regroup : (w.factor *ℤ w.constant +ℤ total_constant ws) *ℤ d +ℤ (w.factor *ℤ dot w.cells xs +ℤ dot (total_cells ws) xs) ≡ w.factor *ℤ (w.constant *ℤ d +ℤ dot w.cells xs) +ℤ (total_constant ws *ℤ d +ℤ dot (total_cells ws) xs) =
    by_ring (w.factor ∷ w.constant ∷ total_constant ws ∷ d ∷ dot w.cells xs ∷ dot (total_cells ws) xs ∷ [])
    ((var 0 ⊗ var 1 ⊕ var 2) ⊗ var 3 ⊕ (var 0 ⊗ var 4 ⊕ var 5))
    (var 0 ⊗ (var 1 ⊗ var 3 ⊕ var 4) ⊕ (var 2 ⊗ var 3 ⊕ var 5))
    refl in
    rw (split, regroup) (omega (arith, linear))

pub refutation_leaves_none : (ws : List Weighted) → IsRefutation ws → (d : ℤ) (xs : List ℤ) → pos 0 <ℤ d → Meets ws d xs → ⊥
refutation_leaves_none ws f d xs p m =
    let sum = total_nonneg ws d xs f.factors m in
    let none : dot (total_cells ws) xs ≡ pos 0 = dot-zeros (total_cells ws) xs f.cells in
    let below : (total_constant ws *ℤ d) <ℤ (pos 0 *ℤ d) = mul_lt_right (total_constant ws) (pos 0) d f.constant p in
    omega (arith, linear, zero-*ℤ d)

-- a bound holds at every point that meets the rows
pub bound_holds : (ws : List Weighted) (weight constant : ℤ) (cells : List ℤ) (top bottom : ℤ) → IsBound ws weight constant cells top bottom → (d : ℤ) (xs : List ℤ) → pos 0 <ℤ d → Meets ws d xs → (top *ℤ d) ≤ℤ (value_times constant cells d xs *ℤ bottom)
bound_holds ws weight constant cells top bottom b d xs p m =
    let sum = total_nonneg ws d xs b.factors m in
    let none : dot (add_rows (scale weight cells) (scale (negsuc 0) (total_cells ws))) xs ≡ pos 0 = dot-zeros (add_rows (scale weight cells) (scale (negsuc 0) (total_cells ws))) xs b.rest in
    let split : dot (add_rows (scale weight cells) (scale (negsuc 0) (total_cells ws))) xs ≡ weight *ℤ dot cells xs +ℤ negsuc 0 *ℤ dot (total_cells ws) xs = dot-add_rows (scale weight cells) (scale (negsuc 0) (total_cells ws)) xs ∙ ap₂ (λ y z. y +ℤ z) (dot-scale weight cells xs) (dot-scale (negsuc 0) (total_cells ws) xs) in
    let same : weight *ℤ dot cells xs +ℤ negsuc 0 *ℤ dot (total_cells ws) xs ≡ pos 0 = sym split ∙ none in
    let above : pos 0 ≤ℤ ((total_constant ws *ℤ d +ℤ dot (total_cells ws) xs) *ℤ bottom) = mul_nonneg (total_constant ws *ℤ d +ℤ dot (total_cells ws) xs) bottom sum (omega (arith, ints, b.named)) in
    let floor : (weight *ℤ top *ℤ d) ≤ℤ ((weight *ℤ constant -ℤ total_constant ws) *ℤ bottom *ℤ d) = mul_le_right (weight *ℤ top) ((weight *ℤ constant -ℤ total_constant ws) *ℤ bottom) d b.least (omega (arith, ints)) in
    let e : value_times constant cells d xs *ℤ bottom *ℤ weight ≡ (weight *ℤ constant -ℤ total_constant ws) *ℤ bottom *ℤ d +ℤ (total_constant ws *ℤ d +ℤ dot (total_cells ws) xs) *ℤ bottom +ℤ (weight *ℤ dot cells xs +ℤ negsuc 0 *ℤ dot (total_cells ws) xs) *ℤ bottom =
    by_ring (weight ∷ constant ∷ d ∷ dot cells xs ∷ total_constant ws ∷ dot (total_cells ws) xs ∷ bottom ∷ [])
    ((var 1 ⊗ var 2 ⊕ var 3) ⊗ var 6 ⊗ var 0)
    ((var 0 ⊗ var 1 ⊖ var 4) ⊗ var 6 ⊗ var 2 ⊕ (var 4 ⊗ var 2 ⊕ var 5) ⊗ var 6 ⊕ (var 0 ⊗ var 3 ⊕ lit (negsuc 0) ⊗ var 5) ⊗ var 6)
    refl in
    let z : (weight *ℤ dot cells xs +ℤ negsuc 0 *ℤ dot (total_cells ws) xs) *ℤ bottom ≡ pos 0 = ap (λ y. y *ℤ bottom) same ∙ zero-*ℤ bottom in
    let left : top *ℤ d *ℤ weight ≡ weight *ℤ top *ℤ d = by_ring (top ∷ d ∷ weight ∷ []) (var 0 ⊗ var 1 ⊗ var 2) (var 2 ⊗ var 0 ⊗ var 1) refl in
    le_cancel_right (top *ℤ d) (value_times constant cells d xs *ℤ bottom) weight (omega (arith, linear)) b.weighs
