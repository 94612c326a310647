-- Points along a row ray.
use Rattle.std.proofs.Common.{◌≡◌, inl, inr, ℕ, suc, ◌<◌, ℤ, pos, ◌+ℤ◌, ◌-ℤ◌, ◌*ℤ◌, ◌<ℤ◌, ◌≤ℤ◌, List, [], ◌∷◌, length, get_or, Some, arith, refl, sym, ap, ap₂, ◌∙◌, subst}
use Rattle.std.proofs.lemmas.Int.{ints}
use Rattle.emp_algebra.specs.Deciding.{IsOfKind}
use Rattle.emp_algebra.specs.Vector.{dot, scale, add_rows}
use Rattle.emp_algebra.proofs.Laws.{mul_pos, mul_nonneg}
use Rattle.emp_algebra.proofs.Order.{linear, mul_lt_right}
use Rattle.emp_algebra.proofs.Ring.{var, lit, ◌⊕◌, ◌⊖◌, ◌⊗◌, by_ring}
use Rattle.emp_algebra.proofs.Vectors.{dot-scale, dot-add_rows, dot_comm, length-scale}
use Rattle.emp_num.specs.Point.{Point}
use Rattle.emp_rows.specs.declared.affine.Affine.{Affine}
use Rattle.emp_rows.specs.declared.system.Kind.{Kind}
use Rattle.emp_rows.specs.declared.system.Kind.TheVariants.{Zero, Nonneg}
use Rattle.emp_rows.specs.declared.system.RowSystem.{RowSystem}
use Rattle.emp_cert.specs.Verdicts.{RatesOfKind, StaysZero, OneStays, IsRowRay}
use Rattle.emp_rows.specs.RowPoints.{sort_of, quantity, value_at, rate_along, AreOfKind, OneVanishes, Solves}
use Rattle.emp_cert.specs.Laws.{along, IsAlong}

pub some_along : (p d : Point) (n : ℕ) → (q : Point) × IsAlong p d n q
some_along p d n = (record { den = d.den *ℤ p.den; nums = along p d n; positive = mul_pos d.den p.den d.positive p.positive }, record { den = refl; nums = refl })

-- the value there
pub value_along : (r : Affine) (p d q : Point) (n : ℕ) → IsAlong p d n q → value_at r q ≡ d.den *ℤ value_at r p +ℤ pos n *ℤ p.den *ℤ rate_along r d
value_along r p d q n h =
    ap₂ (λ (e : ℤ) (xs : List ℤ). r.constant *ℤ e +ℤ dot r.cells xs) h.den h.nums
    ∙ (ap (λ z. r.constant *ℤ (d.den *ℤ p.den) +ℤ z)
    (dot_comm r.cells (along p d n) ∙ (dot-add_rows (scale d.den p.nums) (scale (pos n *ℤ p.den) d.nums) r.cells
    ∙ ap₂ (λ y z. y +ℤ z) (dot-scale d.den p.nums r.cells ∙ ap (λ z. d.den *ℤ z) (dot_comm p.nums r.cells)) (dot-scale (pos n *ℤ p.den) d.nums r.cells ∙ ap (λ z. pos n *ℤ p.den *ℤ z) (dot_comm d.nums r.cells))))
    ∙ by_ring (r.constant ∷ d.den ∷ p.den ∷ dot r.cells p.nums ∷ pos n ∷ dot r.cells d.nums ∷ [])
    (var 0 ⊗ (var 1 ⊗ var 2) ⊕ (var 1 ⊗ var 3 ⊕ var 4 ⊗ var 2 ⊗ var 5))
    (var 1 ⊗ (var 0 ⊗ var 2 ⊕ var 3) ⊕ var 4 ⊗ var 2 ⊗ var 5)
    refl)

both_zero : (a b V R : ℤ) → V ≡ pos 0 → R ≡ pos 0 → a *ℤ V +ℤ b *ℤ R ≡ pos 0
both_zero a b V R e f = ap₂ (λ x y. a *ℤ x +ℤ b *ℤ y) e f ∙ by_ring (a ∷ b ∷ []) (var 0 ⊗ lit (pos 0) ⊕ var 1 ⊗ lit (pos 0)) (lit (pos 0)) refl

stays : (t : Kind) (a b V R : ℤ) → pos 0 ≤ℤ a → pos 0 ≤ℤ b → IsOfKind (sort_of t) V → IsOfKind (sort_of t) R → IsOfKind (sort_of t) (a *ℤ V +ℤ b *ℤ R)
stays Zero a b V R p q h k = both_zero a b V R h k
stays Nonneg a b V R p q h k = let m = mul_nonneg a V p h in let n = mul_nonneg b R q k in omega (arith, linear, m, n)

weight : (p : Point) (n : ℕ) → pos 0 ≤ℤ (pos n *ℤ p.den)
weight p n = mul_nonneg (pos n) p.den (omega (arith, ints)) (omega (arith, linear, p.positive))

kinds_along : (qs : List Affine) (ts : List Kind) (p d q : Point) (n : ℕ) → IsAlong p d n q → AreOfKind qs ts p → RatesOfKind qs ts d → AreOfKind qs ts q
kinds_along [] ts p d q n h a b = tt
kinds_along (r ∷ qs) [] p d q n h a b = tt
kinds_along (r ∷ qs) (t ∷ ts) p d q n h a b =
    (subst (λ (z : ℤ). IsOfKind (sort_of t) z) (sym (value_along r p d q n h)) (stays t d.den (pos n *ℤ p.den) (value_at r p) (rate_along r d) (omega (arith, linear, d.positive)) (weight p n) a.0 b.0), kinds_along qs ts p d q n h a.1 b.1)

still_along : (r : Affine) (p d q : Point) (n : ℕ) → IsAlong p d n q → StaysZero r p d → value_at r q ≡ pos 0
still_along r p d q n h z = value_along r p d q n h ∙ both_zero d.den (pos n *ℤ p.den) (value_at r p) (rate_along r d) z.0 z.1

length-sum : (xs ys : List ℤ) → length xs ≡ length ys → length (add_rows xs ys) ≡ length xs
length-sum [] [] e = refl
length-sum [] (y ∷ ys) e = absurd (omega arith)
length-sum (x ∷ xs) [] e = refl
length-sum (x ∷ xs) (y ∷ ys) e = ap suc (length-sum xs ys (omega arith))

pub ray_solves : (s : RowSystem) (p d : Point) → IsRowRay s p d → (n : ℕ) (q : Point) → IsAlong p d n q → Solves s q
ray_solves s p d ray n q h = record {
  count = ap length h.nums ∙ (length-sum (scale d.den p.nums) (scale (pos n *ℤ p.den) d.nums) (length-scale d.den p.nums ∙ (ray.point.count ∙ (sym ray.count ∙ sym (length-scale (pos n *ℤ p.den) d.nums)))) ∙ (length-scale d.den p.nums ∙ ray.point.count));
  kinds = kinds_along s.quantities s.kinds p d q n h ray.point.kinds ray.kinds;
  pairs = λ k l. one (get_or s.pairs k (0, 0)).0 (get_or s.pairs k (0, 0)).1 (ray.pairs k l);
}
  where
    one : (a b : ℕ) → OneStays s p d (a, b) → OneVanishes s q (a, b)
    one a b (inl z) = inl (still_along (quantity s a) p d q n h z)
    one a b (inr z) = inr (still_along (quantity s b) p d q n h z)

pub ray_falls : (s : RowSystem) (r : Affine) (p d : Point) → IsRowRay s p d → s.objective ≡ Some r → (m n : ℕ) (q t : Point) → m < n → IsAlong p d m q → IsAlong p d n t → (value_at r t *ℤ q.den) <ℤ (value_at r q *ℤ t.den)
ray_falls s r p d ray o m n q t l h k =
    let R = rate_along r d in
    let f : R <ℤ pos 0 = ray.falls r o in
    let g : pos 0 <ℤ ((pos n -ℤ pos m) *ℤ p.den) = mul_pos (pos n -ℤ pos m) p.den (omega (arith, ints)) p.positive in
    let w : pos 0 <ℤ ((pos n -ℤ pos m) *ℤ p.den *ℤ (pos 0 -ℤ R)) = mul_pos ((pos n -ℤ pos m) *ℤ p.den) (pos 0 -ℤ R) g (omega (arith, linear, f)) in
    let e : (pos n -ℤ pos m) *ℤ p.den *ℤ (pos 0 -ℤ R) ≡ (d.den *ℤ value_at r p +ℤ pos m *ℤ p.den *ℤ R) -ℤ (d.den *ℤ value_at r p +ℤ pos n *ℤ p.den *ℤ R) =
    by_ring (pos n ∷ pos m ∷ p.den ∷ R ∷ d.den ∷ value_at r p ∷ []) ((var 0 ⊖ var 1) ⊗ var 2 ⊗ (lit (pos 0) ⊖ var 3)) ((var 4 ⊗ var 5 ⊕ var 1 ⊗ var 2 ⊗ var 3) ⊖ (var 4 ⊗ var 5 ⊕ var 0 ⊗ var 2 ⊗ var 3)) refl in
    let below : value_at r t <ℤ value_at r q = omega (arith, linear, w, e, value_along r p d q m h, value_along r p d t n k) in
    let same : q.den ≡ t.den = h.den ∙ sym k.den in
    subst (λ (z : ℤ). (value_at r t *ℤ q.den) <ℤ (value_at r q *ℤ z)) same (mul_lt_right (value_at r t) (value_at r q) q.den below q.positive)
