-- The same point by larger numbers, in a file and in a row system.
use Rattle.std.proofs.Common.{◌≡◌, ◌⊎◌, inl, inr, ◌↔◌, ℕ, ℤ, pos, ◌*ℤ◌, ◌≤ℤ◌, ◌<ℤ◌, List, [], ◌∷◌, get_or, Option, Some, None, arith, refl, sym, ap, subst, subst₂, ◌∙◌}
use lib.IntN.{*ℤ-zero, *ℤ_comm}
use Rattle.emp_algebra.specs.Deciding.{IsOfKind}
use Rattle.emp_algebra.specs.Vector.{cell, scale}
use Rattle.emp_algebra.proofs.Laws.{mul_nonneg, mul_pos}
use Rattle.emp_algebra.proofs.Order.{linear, mul_lt_right, mul_le_right, le_or_lt}
use Rattle.emp_algebra.proofs.Ring.{var, ◌⊗◌, by_ring}
use Rattle.emp_algebra.proofs.Vectors.{cell-scale, length-scale}
use Rattle.emp_num.specs.Point.{Point}
use Rattle.emp_num.specs.SamePoint.{SamePoint}
use Rattle.emp_systems.proofs.Scaled.{value_scaled}
use Rattle.emp_rows.specs.declared.affine.Affine.{Affine}
use Rattle.emp_rows.specs.declared.system.Kind.{Kind}
use Rattle.emp_rows.specs.declared.system.Kind.TheVariants.{Zero, Nonneg}
use Rattle.emp_rows.specs.declared.system.RowSystem.{RowSystem}
use Rattle.emp_rows.specs.RowPoints.{sort_of, quantity, value_at, AreOfKind, OneVanishes, Solves}
use Rattle.emp_quantities.specs.System.{IsBelowBy}

-- p with its numbers and den times the den of k
abbrev pub over : Point → Point → Point
over k p = record { den = k.den *ℤ p.den; nums = scale k.den p.nums; positive = mul_pos k.den p.den k.positive p.positive }

pub over_same : (k p : Point) → SamePoint p (over k p)
over_same k p = record {
  count = sym (length-scale k.den p.nums);
  same = λ i. by_ring (k.den ∷ cell p.nums i ∷ p.den ∷ []) (var 1 ⊗ (var 0 ⊗ var 2)) (var 0 ⊗ var 1 ⊗ var 2) refl ∙ ap (λ z. z *ℤ p.den) (sym (cell-scale k.den p.nums i));
}

-- ---- row points
value_over : (r : Affine) (k p : Point) → value_at r (over k p) ≡ k.den *ℤ value_at r p
value_over r k p = value_scaled r.constant r.cells k.den p.den p.nums

kind_over : (t : Kind) (k z : ℤ) → pos 0 <ℤ k → IsOfKind (sort_of t) z → IsOfKind (sort_of t) (k *ℤ z)
kind_over Zero k z h e = ap (λ y. k *ℤ y) e ∙ *ℤ-zero k
kind_over Nonneg k z h e = mul_nonneg k z (omega (arith, linear, h)) e

kinds_over : (qs : List Affine) (ts : List Kind) (k p : Point) → AreOfKind qs ts p → AreOfKind qs ts (over k p)
kinds_over [] ts k p h = tt
kinds_over (q ∷ qs) [] k p h = tt
kinds_over (q ∷ qs) (t ∷ ts) k p h = (subst (λ (z : ℤ). IsOfKind (sort_of t) z) (sym (value_over q k p)) (kind_over t k.den (value_at q p) k.positive h.0), kinds_over qs ts k p h.1)

none_over : (q : Affine) (k p : Point) → value_at q p ≡ pos 0 → value_at q (over k p) ≡ pos 0
none_over q k p e = value_over q k p ∙ (ap (λ z. k.den *ℤ z) e ∙ *ℤ-zero k.den)

pub solves_over : (s : RowSystem) (k p : Point) → Solves s p → Solves s (over k p)
solves_over s k p h = record {
  count = length-scale k.den p.nums ∙ h.count;
  kinds = kinds_over s.quantities s.kinds k p h.kinds;
  pairs = λ i l. one (get_or s.pairs i (0, 0)).0 (get_or s.pairs i (0, 0)).1 (h.pairs i l);
}
  where
    one : (a b : ℕ) → OneVanishes s p (a, b) → OneVanishes s (over k p) (a, b)
    one a b (inl z) = inl (none_over (quantity s a) k p z)
    one a b (inr z) = inr (none_over (quantity s b) k p z)

-- ---- order
lt_cancel_right : (a b c : ℤ) → (a *ℤ c) <ℤ (b *ℤ c) → pos 0 <ℤ c → a <ℤ b
lt_cancel_right a b c h p = go (le_or_lt b a)
  where
    go : (b ≤ℤ a) ⊎ (a <ℤ b) → a <ℤ b
    go (inr l) = l
    go (inl l) = let m = mul_le_right b a c l (omega (arith, linear, p)) in omega (arith, linear, h, m)

value_turned : (r : Affine) (j k p q : Point) → value_at r (over j p) *ℤ (over k q).den ≡ value_at r p *ℤ q.den *ℤ (j.den *ℤ k.den)
value_turned r j k p q =
    ap (λ z. z *ℤ (k.den *ℤ q.den)) (value_over r j p) ∙ by_ring (j.den ∷ value_at r p ∷ k.den ∷ q.den ∷ []) (var 0 ⊗ var 1 ⊗ (var 2 ⊗ var 3)) (var 1 ⊗ var 3 ⊗ (var 0 ⊗ var 2)) refl

pub below_over : (o : Option Affine) (j k p q : Point) → IsBelowBy o p q ↔ IsBelowBy o (over j p) (over k q)
below_over None j k p q = (λ h. h, λ h. h)
below_over (Some r) j k p q =
    let first = value_turned r j k p q in
    let second : value_at r (over k q) *ℤ (over j p).den ≡ value_at r q *ℤ p.den *ℤ (j.den *ℤ k.den) = value_turned r k j q p ∙ ap (λ z. value_at r q *ℤ p.den *ℤ z) (*ℤ_comm k.den j.den) in
    let above = mul_pos j.den k.den j.positive k.positive in (
      λ h. subst₂ (λ (x y : ℤ). x <ℤ y) (sym first) (sym second) (mul_lt_right (value_at r p *ℤ q.den) (value_at r q *ℤ p.den) (j.den *ℤ k.den) h above),
      λ h. lt_cancel_right (value_at r p *ℤ q.den) (value_at r q *ℤ p.den) (j.den *ℤ k.den) (subst₂ (λ (x y : ℤ). x <ℤ y) first second h) above,
    )
