-- Points on a line: what they meet, and how the value goes along it.
use Rattle.std.proofs.Common.{◌≡◌, ℕ, zero, suc, ℤ, pos, neg_ℤ, ◌+ℤ◌, ◌-ℤ◌, ◌*ℤ◌, ◌≤ℤ◌, ◌<ℤ◌, List, [], ◌∷◌, All, length, slice_index_or, arith, refl, sym, ap, ap₂, subst, ◌∙◌}
use Rattle.emp_algebra.proofs.Ring.{var, lit, neg, ◌⊕◌, ◌⊖◌, ◌⊗◌, by_ring}
use Rattle.emp_algebra.proofs.Laws.{mul_nonneg, mul_pos}
use Rattle.emp_algebra.proofs.Order.{linear, le_cancel_right, mul_le_right, square_nonneg}
use Rattle.emp_algebra.proofs.Vectors.{length-scale}
use Rattle.emp_algebra.specs.Vector.{dot, scale, add_rows}
use Rattle.emp_algebra.specs.Deciding.{Kind, Zero, Nonneg, Weighted, value_times, IsOfKind, Meets}
use Rattle.emp_systems.specs.Steps.{Quadratic, form, value_squared, gradient, way, IsAtMost}
use Rattle.emp_systems.proofs.Forms.{dot-combination, value-line, value-way}
use Rattle.emp_least.specs.Least.{Keeps, IsConvex}

pub all_with : (P Q R : Weighted → Type 0) → ((w : Weighted) → P w → Q w → R w) → (ws : List Weighted) → All P ws → All Q ws → All R ws
all_with P Q R f ws p q = λ k d h. f (slice_index_or ws k d) (p k d h) (q k d h)

pub all_so : (P R : Weighted → Type 0) → ((w : Weighted) → P w → R w) → (ws : List Weighted) → All P ws → All R ws
all_so P R f ws p = λ k d h. f (slice_index_or ws k d) (p k d h)

pub length_added : (n : ℕ) (r s : List ℤ) → length r ≡ n → length s ≡ n → length (add_rows r s) ≡ n
length_added n [] [] h k = h
length_added n [] (b ∷ s) h k = absurd (omega arith)
length_added n (a ∷ r) [] h k = absurd (omega arith)
length_added zero (a ∷ r) (b ∷ s) h k = absurd (omega arith)
length_added (suc n) (a ∷ r) (b ∷ s) h k = ap suc (length_added n r s (omega arith) (omega arith))

pub length_line : (n : ℕ) (b : ℤ) (xs : List ℤ) (c : ℤ) (vs : List ℤ) → length xs ≡ n → length vs ≡ n → length (add_rows (scale b xs) (scale c vs)) ≡ n
length_line n b xs c vs h k = length_added n (scale b xs) (scale c vs) (length-scale b xs ∙ h) (length-scale c vs ∙ k)

-- an affine quantity along a line
pub value_line : (constant : ℤ) (cells : List ℤ) (d : ℤ) (xs vs : List ℤ) (b c : ℤ) → value_times constant cells (b *ℤ d) (add_rows (scale b xs) (scale c vs)) ≡ b *ℤ value_times constant cells d xs +ℤ c *ℤ dot cells vs
value_line constant cells d xs vs b c =
    ap (λ z. constant *ℤ (b *ℤ d) +ℤ z) (dot-combination cells b xs c vs)
    ∙ by_ring (constant ∷ b ∷ d ∷ dot cells xs ∷ c ∷ dot cells vs ∷ []) (var 0 ⊗ (var 1 ⊗ var 2) ⊕ (var 1 ⊗ var 3 ⊕ var 4 ⊗ var 5)) (var 1 ⊗ (var 0 ⊗ var 2 ⊕ var 3) ⊕ var 4 ⊗ var 5) refl

-- and from one point towards another, with a at the first and b at the second
pub value_between : (constant : ℤ) (cells : List ℤ) (d : ℤ) (xs : List ℤ) (e : ℤ) (ys : List ℤ) (a b : ℤ)
    → value_times constant cells ((a *ℤ d +ℤ b *ℤ e) *ℤ d) (add_rows (scale (a *ℤ d +ℤ b *ℤ e) xs) (scale b (way d xs e ys))) ≡ d *ℤ (a *ℤ value_times constant cells d xs +ℤ b *ℤ value_times constant cells e ys)
value_between constant cells d xs e ys a b =
    value_line constant cells d xs (way d xs e ys) (a *ℤ d +ℤ b *ℤ e) b
    ∙ (ap (λ z. (a *ℤ d +ℤ b *ℤ e) *ℤ value_times constant cells d xs +ℤ b *ℤ z) (dot-combination cells d ys (neg_ℤ e) xs)
    ∙ by_ring (a ∷ d ∷ b ∷ e ∷ constant ∷ dot cells xs ∷ dot cells ys ∷ [])
    ((var 0 ⊗ var 1 ⊕ var 2 ⊗ var 3) ⊗ (var 4 ⊗ var 1 ⊕ var 5) ⊕ var 2 ⊗ (var 1 ⊗ var 6 ⊕ neg (var 3) ⊗ var 5))
    (var 1 ⊗ (var 0 ⊗ (var 4 ⊗ var 1 ⊕ var 5) ⊕ var 2 ⊗ (var 4 ⊗ var 3 ⊕ var 6)))
    refl)

kind_sum : (k : Kind) (a x b y : ℤ) → pos 0 ≤ℤ a → pos 0 ≤ℤ b → IsOfKind k x → IsOfKind k y → IsOfKind k (a *ℤ x +ℤ b *ℤ y)
kind_sum Zero a x b y p r h k = ap₂ (λ s t. a *ℤ s +ℤ b *ℤ t) h k ∙ by_ring (a ∷ b ∷ []) (var 0 ⊗ lit (pos 0) ⊕ var 1 ⊗ lit (pos 0)) (lit (pos 0)) refl
kind_sum Nonneg a x b y p r h k = let left = mul_nonneg a x p h in let right = mul_nonneg b y r k in omega (arith, linear, left, right)

pub kind_times : (k : Kind) (a x : ℤ) → pos 0 ≤ℤ a → IsOfKind k x → IsOfKind k (a *ℤ x)
kind_times Zero a x p h = ap (λ s. a *ℤ s) h ∙ by_ring (a ∷ []) (var 0 ⊗ lit (pos 0)) (lit (pos 0)) refl
kind_times Nonneg a x p h = mul_nonneg a x p h

pub meets_line : (ws : List Weighted) (d : ℤ) (xs vs : List ℤ) (b c : ℤ) → pos 0 ≤ℤ b → pos 0 ≤ℤ c → Meets ws d xs → Keeps ws vs → Meets ws (b *ℤ d) (add_rows (scale b xs) (scale c vs))
meets_line ws d xs vs b c p r m k =
    all_with (λ w. IsOfKind w.kind (value_times w.constant w.cells d xs)) (λ w. IsOfKind w.kind (dot w.cells vs)) (λ w. IsOfKind w.kind (value_times w.constant w.cells (b *ℤ d) (add_rows (scale b xs) (scale c vs))))
    (λ w h l. subst (λ z. IsOfKind w.kind z) (sym (value_line w.constant w.cells d xs vs b c)) (kind_sum w.kind b (value_times w.constant w.cells d xs) c (dot w.cells vs) p r h l))
    ws m k

pub meets_between : (ws : List Weighted) (d : ℤ) (xs : List ℤ) (e : ℤ) (ys : List ℤ) (a b : ℤ) → pos 0 ≤ℤ d → pos 0 ≤ℤ a → pos 0 ≤ℤ b → Meets ws d xs → Meets ws e ys
    → Meets ws ((a *ℤ d +ℤ b *ℤ e) *ℤ d) (add_rows (scale (a *ℤ d +ℤ b *ℤ e) xs) (scale b (way d xs e ys)))
meets_between ws d xs e ys a b o p r m k =
    all_with (λ w. IsOfKind w.kind (value_times w.constant w.cells d xs)) (λ w. IsOfKind w.kind (value_times w.constant w.cells e ys)) (λ w. IsOfKind w.kind (value_times w.constant w.cells ((a *ℤ d +ℤ b *ℤ e) *ℤ d) (add_rows (scale (a *ℤ d +ℤ b *ℤ e) xs) (scale b (way d xs e ys)))))
    (λ w h l. subst (λ z. IsOfKind w.kind z) (sym (value_between w.constant w.cells d xs e ys a b)) (kind_times w.kind d (a *ℤ value_times w.constant w.cells d xs +ℤ b *ℤ value_times w.constant w.cells e ys) o (kind_sum w.kind a (value_times w.constant w.cells d xs) b (value_times w.constant w.cells e ys) p r h l)))
    ws m k

-- between two points of a convex quadratic the value is at most that at the dearer one
pub between_at_most : (q : Quadratic) (d : ℤ) (xs : List ℤ) (e : ℤ) (ys : List ℤ) (a b : ℤ) → IsConvex q.square → pos 0 <ℤ d → pos 0 <ℤ e → pos 0 ≤ℤ a → pos 0 <ℤ b → IsAtMost q d xs e ys
    → IsAtMost q ((a *ℤ d +ℤ b *ℤ e) *ℤ d) (add_rows (scale (a *ℤ d +ℤ b *ℤ e) xs) (scale b (way d xs e ys))) e ys
between_at_most q d xs e ys a b convex p r l o most =
    let D = a *ℤ d +ℤ b *ℤ e in
    let g = dot (gradient q d xs) (way d xs e ys) in
    let h = form q.square (way d xs e ys) (way d xs e ys) in
    let V = value_squared q d xs in
    let W = value_squared q e ys in
    let h_nonneg : pos 0 ≤ℤ h = convex (way d xs e ys) in
    let along = value-way q d xs e ys in
    let D_pos : pos 0 <ℤ D = (let s = mul_nonneg a d l (omega (arith, linear, p)) in let t = mul_pos b e o r in omega (arith, linear, s, t)) in
    let up : pos 0 ≤ℤ (e *ℤ g +ℤ h) = omega (arith, linear, most, along) in
    let ad = mul_nonneg a d l (omega (arith, linear, p)) in
    let be = mul_nonneg b e (omega (arith, linear, o)) (omega (arith, linear, r)) in
    let first = mul_nonneg D (e *ℤ g +ℤ h) (omega (arith, linear, D_pos)) up in
    let second = mul_nonneg (b *ℤ e) h be h_nonneg in
    let gap = mul_nonneg (a *ℤ d) (D *ℤ (e *ℤ g +ℤ h) +ℤ b *ℤ e *ℤ h) ad (omega (arith, linear, first, second)) in
    let here : value_squared q (D *ℤ d) (add_rows (scale D xs) (scale b (way d xs e ys))) ≡ D *ℤ D *ℤ V +ℤ D *ℤ b *ℤ g +ℤ b *ℤ b *ℤ h = value-line q d xs (way d xs e ys) D b in
    let wide : W *ℤ (D *ℤ d *ℤ (D *ℤ d)) ≡ D *ℤ D *ℤ (V *ℤ (e *ℤ e) +ℤ e *ℤ g +ℤ h) = by_ring (W ∷ D ∷ d ∷ []) (var 0 ⊗ (var 1 ⊗ var 2 ⊗ (var 1 ⊗ var 2))) (var 1 ⊗ var 1 ⊗ (var 0 ⊗ (var 2 ⊗ var 2))) refl ∙ ap (λ z. D *ℤ D *ℤ z) along in
    let e2 : D *ℤ D *ℤ (V *ℤ (e *ℤ e) +ℤ e *ℤ g +ℤ h) -ℤ (D *ℤ D *ℤ V +ℤ D *ℤ b *ℤ g +ℤ b *ℤ b *ℤ h) *ℤ (e *ℤ e) ≡ a *ℤ d *ℤ (D *ℤ (e *ℤ g +ℤ h) +ℤ b *ℤ e *ℤ h) =
    by_ring (a ∷ d ∷ b ∷ e ∷ V ∷ g ∷ h ∷ [])
    ((var 0 ⊗ var 1 ⊕ var 2 ⊗ var 3) ⊗ (var 0 ⊗ var 1 ⊕ var 2 ⊗ var 3) ⊗ (var 4 ⊗ (var 3 ⊗ var 3) ⊕ var 3 ⊗ var 5 ⊕ var 6) ⊖ ((var 0 ⊗ var 1 ⊕ var 2 ⊗ var 3) ⊗ (var 0 ⊗ var 1 ⊕ var 2 ⊗ var 3) ⊗ var 4 ⊕ (var 0 ⊗ var 1 ⊕ var 2 ⊗ var 3) ⊗ var 2 ⊗ var 5 ⊕ var 2 ⊗ var 2 ⊗ var 6) ⊗ (var 3 ⊗ var 3))
    (var 0 ⊗ var 1 ⊗ ((var 0 ⊗ var 1 ⊕ var 2 ⊗ var 3) ⊗ (var 3 ⊗ var 5 ⊕ var 6) ⊕ var 2 ⊗ var 3 ⊗ var 6))
    refl in
    let turn = ap (λ z. z *ℤ (e *ℤ e)) here in
    omega (arith, linear, gap, wide, e2, turn)

-- along a step that the gradient does not rise along, with no square, the value does not rise
pub along_at_most : (q : Quadratic) (e : ℤ) (ys vs : List ℤ) (b c : ℤ) → pos 0 ≤ℤ b → pos 0 ≤ℤ c → form q.square vs vs ≡ pos 0 → dot (gradient q e ys) vs ≤ℤ pos 0
    → IsAtMost q (b *ℤ e) (add_rows (scale b ys) (scale c vs)) e ys
along_at_most q e ys vs b c p r flat falls =
    let g = dot (gradient q e ys) vs in
    let h = form q.square vs vs in
    let V = value_squared q e ys in
    let here : value_squared q (b *ℤ e) (add_rows (scale b ys) (scale c vs)) ≡ b *ℤ b *ℤ V +ℤ b *ℤ c *ℤ g +ℤ c *ℤ c *ℤ h = value-line q e ys vs b c in
    let none : c *ℤ c *ℤ h ≡ pos 0 = ap (λ z. c *ℤ c *ℤ z) flat ∙ by_ring (c ∷ []) (var 0 ⊗ var 0 ⊗ lit (pos 0)) (lit (pos 0)) refl in
    let down = mul_nonneg (b *ℤ c) (neg_ℤ g) (mul_nonneg b c p r) (omega (arith, linear, falls)) in
    let lower = mul_nonneg (e *ℤ e) (b *ℤ c *ℤ neg_ℤ g) (square_nonneg e) down in
    let e2 : (b *ℤ b *ℤ V +ℤ b *ℤ c *ℤ g +ℤ pos 0) *ℤ (e *ℤ e) ≡ V *ℤ (b *ℤ e *ℤ (b *ℤ e)) -ℤ e *ℤ e *ℤ (b *ℤ c *ℤ neg_ℤ g) =
    by_ring (b ∷ c ∷ e ∷ V ∷ g ∷ []) ((var 0 ⊗ var 0 ⊗ var 3 ⊕ var 0 ⊗ var 1 ⊗ var 4 ⊕ lit (pos 0)) ⊗ (var 2 ⊗ var 2)) (var 3 ⊗ (var 0 ⊗ var 2 ⊗ (var 0 ⊗ var 2)) ⊖ var 2 ⊗ var 2 ⊗ (var 0 ⊗ var 1 ⊗ neg (var 4))) refl in
    let turn : value_squared q (b *ℤ e) (add_rows (scale b ys) (scale c vs)) *ℤ (e *ℤ e) ≡ (b *ℤ b *ℤ V +ℤ b *ℤ c *ℤ g +ℤ pos 0) *ℤ (e *ℤ e) = ap (λ z. z *ℤ (e *ℤ e)) (here ∙ ap (λ z. b *ℤ b *ℤ V +ℤ b *ℤ c *ℤ g +ℤ z) none) in
    omega (arith, linear, lower, e2, turn)

pub at_most_trans : (q : Quadratic) (d : ℤ) (xs : List ℤ) (e : ℤ) (ys : List ℤ) (f : ℤ) (zs : List ℤ) → pos 0 <ℤ d → pos 0 <ℤ e → pos 0 <ℤ f → IsAtMost q d xs e ys → IsAtMost q e ys f zs → IsAtMost q d xs f zs
at_most_trans q d xs e ys f zs p r o h k =
    let V = value_squared q d xs in
    let W = value_squared q e ys in
    let Z = value_squared q f zs in
    let left = mul_le_right (V *ℤ (e *ℤ e)) (W *ℤ (d *ℤ d)) (f *ℤ f) h (square_nonneg f) in
    let right = mul_le_right (W *ℤ (f *ℤ f)) (Z *ℤ (e *ℤ e)) (d *ℤ d) k (square_nonneg d) in
    let e1 : V *ℤ (e *ℤ e) *ℤ (f *ℤ f) ≡ V *ℤ (f *ℤ f) *ℤ (e *ℤ e) = by_ring (V ∷ e ∷ f ∷ []) (var 0 ⊗ (var 1 ⊗ var 1) ⊗ (var 2 ⊗ var 2)) (var 0 ⊗ (var 2 ⊗ var 2) ⊗ (var 1 ⊗ var 1)) refl in
    let e2 : W *ℤ (d *ℤ d) *ℤ (f *ℤ f) ≡ W *ℤ (f *ℤ f) *ℤ (d *ℤ d) = by_ring (W ∷ d ∷ f ∷ []) (var 0 ⊗ (var 1 ⊗ var 1) ⊗ (var 2 ⊗ var 2)) (var 0 ⊗ (var 2 ⊗ var 2) ⊗ (var 1 ⊗ var 1)) refl in
    let e3 : Z *ℤ (e *ℤ e) *ℤ (d *ℤ d) ≡ Z *ℤ (d *ℤ d) *ℤ (e *ℤ e) = by_ring (Z ∷ e ∷ d ∷ []) (var 0 ⊗ (var 1 ⊗ var 1) ⊗ (var 2 ⊗ var 2)) (var 0 ⊗ (var 2 ⊗ var 2) ⊗ (var 1 ⊗ var 1)) refl in
    le_cancel_right (V *ℤ (f *ℤ f)) (Z *ℤ (d *ℤ d)) (e *ℤ e) (omega (arith, linear, left, right, e1, e2, e3)) (mul_pos e e r r)
