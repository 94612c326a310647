-- Where a convex square is 0 at a step, each of its derivatives is.
use Rattle.std.proofs.Common.{◌≡◌, zero, suc, ℤ, pos, negsuc, neg_ℤ, ◌+ℤ◌, ◌*ℤ◌, ◌≤ℤ◌, List, [], ◌∷◌, arith, refl, sym, ap, ap₂, subst, ◌∙◌}
use Rattle.std.proofs.lemmas.Int.{ints}
use Rattle.emp_algebra.proofs.Ring.{var, lit, neg, ◌⊕◌, ◌⊗◌, by_ring}
use Rattle.emp_algebra.proofs.Order.{linear, mul_le_right}
use Rattle.emp_algebra.proofs.Vectors.{dot-add_rows, dot_comm}
use Rattle.emp_algebra.specs.Vector.{cell, dot, scale, add_rows}
use Rattle.emp_systems.specs.Steps.{Quadratic, form, value_squared, gradient, products, combined}
use Rattle.emp_systems.specs.Own.{unit}
use Rattle.emp_systems.proofs.Eliminate.{cell-add_rows}
use Rattle.emp_systems.proofs.Forms.{value-line, gradient-form, form-products, form-combined, dot-cells}
use Rattle.emp_systems.proofs.Own.{dot_unit}
use Rattle.emp_least.specs.Least.{IsConvex, IsFlat}
use Rattle.emp_least.proofs.Levels.{only_square}

-- a number B with t B + F at least 0 for every t is 0
no_slope : (B F : ℤ) → pos 0 ≤ℤ F → ((t : ℤ) → pos 0 ≤ℤ (t *ℤ B +ℤ F)) → B ≡ pos 0
no_slope (pos zero) F p h = refl
no_slope (pos (suc n)) F p h =
    let up = mul_le_right (pos 1) (pos (suc n)) (F +ℤ pos 1) (omega (arith, ints)) (omega (arith, linear, p)) in
    let e1 : pos 1 *ℤ (F +ℤ pos 1) ≡ F +ℤ pos 1 = by_ring (F ∷ []) (lit (pos 1) ⊗ (var 0 ⊕ lit (pos 1))) (var 0 ⊕ lit (pos 1)) refl in
    let e2 : neg_ℤ (F +ℤ pos 1) *ℤ pos (suc n) ≡ neg_ℤ (pos (suc n) *ℤ (F +ℤ pos 1)) = by_ring (F ∷ pos (suc n) ∷ []) (neg (var 0 ⊕ lit (pos 1)) ⊗ var 1) (neg (var 1 ⊗ (var 0 ⊕ lit (pos 1)))) refl in
    absurd (omega (arith, linear, up, e1, e2, h (neg_ℤ (F +ℤ pos 1))))
no_slope (negsuc n) F p h =
    let up = mul_le_right (negsuc n) (negsuc 0) (F +ℤ pos 1) (omega (arith, ints)) (omega (arith, linear, p)) in
    let e1 : negsuc 0 *ℤ (F +ℤ pos 1) ≡ neg_ℤ (F +ℤ pos 1) = by_ring (F ∷ []) (lit (negsuc 0) ⊗ (var 0 ⊕ lit (pos 1))) (neg (var 0 ⊕ lit (pos 1))) refl in
    let e2 : (F +ℤ pos 1) *ℤ negsuc n ≡ negsuc n *ℤ (F +ℤ pos 1) = by_ring (F ∷ negsuc n ∷ []) ((var 0 ⊕ lit (pos 1)) ⊗ var 1) (var 1 ⊗ (var 0 ⊕ lit (pos 1))) refl in
    absurd (omega (arith, linear, up, e1, e2, h (F +ℤ pos 1)))

square_value : (m : List (List ℤ)) (d : ℤ) (xs : List ℤ) → value_squared (only_square m) d xs ≡ form m xs xs
square_value m d xs = by_ring (d ∷ form m xs xs ∷ []) (lit (pos 0) ⊗ (var 0 ⊗ var 0) ⊕ var 0 ⊗ lit (pos 0) ⊕ var 1) (var 1) refl

-- both products of a step and a list
pub turned : (m : List (List ℤ)) (vs ys : List ℤ) → IsConvex m → form m vs vs ≡ pos 0 → form m vs ys +ℤ form m ys vs ≡ pos 0
turned m vs ys convex none =
    no_slope (form m vs ys +ℤ form m ys vs) (form m ys ys) (convex ys)
    (λ t.
    let up : pos 0 ≤ℤ form m (add_rows (scale t vs) (scale (pos 1) ys)) (add_rows (scale t vs) (scale (pos 1) ys)) = convex (add_rows (scale t vs) (scale (pos 1) ys)) in
    let along = value-line (only_square m) (pos 1) vs ys t (pos 1) in
    let here = square_value m (t *ℤ pos 1) (add_rows (scale t vs) (scale (pos 1) ys)) in
    let start = square_value m (pos 1) vs in
    let slope = gradient-form (only_square m) (pos 1) vs ys in
    let e : t *ℤ t *ℤ pos 0 +ℤ t *ℤ pos 1 *ℤ (pos 1 *ℤ pos 0 +ℤ (form m ys vs +ℤ form m vs ys)) +ℤ pos 1 *ℤ pos 1 *ℤ form m ys ys ≡ t *ℤ (form m vs ys +ℤ form m ys vs) +ℤ form m ys ys =
    by_ring (t ∷ form m ys vs ∷ form m vs ys ∷ form m ys ys ∷ []) (var 0 ⊗ var 0 ⊗ lit (pos 0) ⊕ var 0 ⊗ lit (pos 1) ⊗ (lit (pos 1) ⊗ lit (pos 0) ⊕ (var 1 ⊕ var 2)) ⊕ lit (pos 1) ⊗ lit (pos 1) ⊗ var 3) (var 0 ⊗ (var 2 ⊕ var 1) ⊕ var 3) refl in
    let all = sym here ∙ (along ∙ (ap₂ (λ x y. t *ℤ t *ℤ x +ℤ t *ℤ pos 1 *ℤ y +ℤ pos 1 *ℤ pos 1 *ℤ form m ys ys) (start ∙ none) slope ∙ e)) in
    subst (λ z. pos 0 ≤ℤ z) all up)

dot_none : (r : List ℤ) → dot r [] ≡ pos 0
dot_none [] = refl
dot_none (a ∷ r) = refl

pub flat_products : (m : List (List ℤ)) (vs ys : List ℤ) → IsFlat m vs → form m ys vs +ℤ form m vs ys ≡ pos 0
flat_products m vs ys flat =
    sym (ap₂ (λ s t. s +ℤ t) (form-products m vs ys) (form-combined m vs ys))
    ∙ (sym (dot-add_rows (products m vs) (combined m vs) ys)
    ∙ (dot_comm (add_rows (products m vs) (combined m vs)) ys
    ∙ (dot-cells ys (add_rows (products m vs) (combined m vs)) [] (λ k. cell-add_rows (products m vs) (combined m vs) k ∙ flat k) ∙ dot_none ys)))

pub no_square_is_flat : (m : List (List ℤ)) (vs : List ℤ) → IsConvex m → form m vs vs ≡ pos 0 → IsFlat m vs
no_square_is_flat m vs convex none k =
    let r = add_rows (products m vs) (combined m vs) in
    sym (cell-add_rows (products m vs) (combined m vs) k)
    ∙ (by_ring (cell r k ∷ []) (var 0) (lit (pos 1) ⊗ var 0) refl
    ∙ (sym (dot_unit k (pos 1) r)
    ∙ (dot_comm (unit k (pos 1)) r
    ∙ (dot-add_rows (products m vs) (combined m vs) (unit k (pos 1))
    ∙ (ap₂ (λ s t. s +ℤ t) (form-products m vs (unit k (pos 1))) (form-combined m vs (unit k (pos 1)))
    ∙ (by_ring (form m (unit k (pos 1)) vs ∷ form m vs (unit k (pos 1)) ∷ []) (var 0 ⊕ var 1) (var 1 ⊕ var 0) refl
    ∙ turned m vs (unit k (pos 1)) convex none))))))

pub flat_square : (m : List (List ℤ)) (vs : List ℤ) → IsFlat m vs → form m vs vs ≡ pos 0
flat_square m vs flat = let h = flat_products m vs vs flat in omega (arith, linear, h)

-- along a flat step the gradient is the linear part's, whatever the point
pub flat_gradient : (q : Quadratic) (e : ℤ) (ys vs : List ℤ) → IsFlat q.square vs → dot (gradient q e ys) vs ≡ e *ℤ dot q.linear vs
flat_gradient q e ys vs flat =
    gradient-form q e ys vs ∙ (ap (λ z. e *ℤ dot q.linear vs +ℤ z) (by_ring (form q.square vs ys ∷ form q.square ys vs ∷ []) (var 0 ⊕ var 1) (var 1 ⊕ var 0) refl ∙ flat_products q.square vs ys flat) ∙ by_ring ((e *ℤ dot q.linear vs) ∷ []) (var 0 ⊕ lit (pos 0)) (var 0) refl)
