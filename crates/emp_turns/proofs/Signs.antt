-- Signs of products, over plain numbers.
use Rattle.std.proofs.Common.{◌≡◌, ℤ, pos, neg_ℤ, ◌+ℤ◌, ◌-ℤ◌, ◌*ℤ◌, ◌≤ℤ◌, ◌<ℤ◌, ◌⊎◌, inl, inr, [], ◌∷◌, arith, refl, ap₂, ◌∙◌, subst}
use lib.IntN.{zero-*ℤ}
use Rattle.emp_algebra.proofs.Laws.{mul_nonneg, mul_pos}
use Rattle.emp_algebra.proofs.Ring.{var, lit, neg, ◌⊕◌, ◌⊖◌, ◌⊗◌, by_ring, ring2, ring3}
use Rattle.emp_algebra.proofs.Order.{linear, mul_le_right, mul_lt_right, le_cancel_right, le_or_lt}
use Rattle.emp_turns.specs.Choice.{Mark, Free, Unasked, Required, Fixed, Way, Up, Down, toward, MayMove}

pub toward_square : (g : Way) → toward g *ℤ toward g ≡ pos 1
toward_square Up = refl
toward_square Down = refl

-- a Required quantity moves up alone
pub only_up : (k : Mark) (g : Way) → k ≡ Required → MayMove k g → g ≡ Up
only_up Required Up e h = refl
only_up Required Down e h = absurd h
only_up Free g e h = cc
only_up Unasked g e h = absurd h
only_up Fixed g e h = absurd h

pub lt_cancel_right : (a b c : ℤ) → (a *ℤ c) <ℤ (b *ℤ c) → pos 0 ≤ℤ c → a <ℤ b
lt_cancel_right a b c h k = go (le_or_lt b a)
  where
    go : (b ≤ℤ a) ⊎ (a <ℤ b) → a <ℤ b
    go (inl r) = absurd (omega (arith, linear, mul_le_right b a c r k))
    go (inr r) = r

-- how far the column moves, where the row with the cell a and the constant c falls to 0
pub slide : (g a y c p : ℤ) → g *ℤ g ≡ pos 1 → c *ℤ p +ℤ a *ℤ y ≡ pos 0 → (g *ℤ y) *ℤ neg_ℤ (g *ℤ a) ≡ c *ℤ p
slide g a y c p square e =
    by_ring (g ∷ a ∷ y ∷ c ∷ p ∷ []) ((var 0 ⊗ var 2) ⊗ neg (var 0 ⊗ var 1)) (var 0 ⊗ var 0 ⊗ (var 3 ⊗ var 4 ⊖ (var 3 ⊗ var 4 ⊕ var 1 ⊗ var 2))) refl ∙ (ap₂ (λ u v. u *ℤ (c *ℤ p -ℤ v)) square e ∙ ring2 (λ c p. lit (pos 1) ⊗ (c ⊗ p ⊖ lit (pos 0))) (λ c p. c ⊗ p) refl c p)

pub slide_nonneg : (g a y c p : ℤ) → g *ℤ g ≡ pos 1 → (g *ℤ a) <ℤ pos 0 → pos 0 ≤ℤ c → pos 0 <ℤ p → c *ℤ p +ℤ a *ℤ y ≡ pos 0 → pos 0 ≤ℤ (g *ℤ y)
slide_nonneg g a y c p square falls nonneg positive e =
    let far : pos 0 ≤ℤ (c *ℤ p) = mul_nonneg c p nonneg (omega (arith, linear)) in
    le_cancel_right (pos 0) (g *ℤ y) (neg_ℤ (g *ℤ a)) (rw (zero-*ℤ (neg_ℤ (g *ℤ a)), slide g a y c p square e) far) (omega (arith, linear))

pub slide_pos : (g a y c p : ℤ) → g *ℤ g ≡ pos 1 → (g *ℤ a) <ℤ pos 0 → pos 0 <ℤ c → pos 0 <ℤ p → c *ℤ p +ℤ a *ℤ y ≡ pos 0 → pos 0 <ℤ (g *ℤ y)
slide_pos g a y c p square falls above positive e =
    lt_cancel_right (pos 0) (g *ℤ y) (neg_ℤ (g *ℤ a)) (rw (zero-*ℤ (neg_ℤ (g *ℤ a)), slide g a y c p square e) (mul_pos c p above positive)) (omega (arith, linear))

-- the aimed row before and after, crosswise
rise : (r g a y c p d x d' c' : ℤ) → g *ℤ g ≡ pos 1 → d *ℤ x ≡ c *ℤ p +ℤ a *ℤ y → d' *ℤ x ≡ c' *ℤ p → (r *ℤ c' *ℤ d -ℤ r *ℤ c *ℤ d') *ℤ p ≡ d' *ℤ ((r *ℤ (g *ℤ a)) *ℤ (g *ℤ y))
rise r g a y c p d x d' c' square e f =
    by_ring (r ∷ a ∷ y ∷ c ∷ p ∷ d ∷ x ∷ d' ∷ c' ∷ []) ((var 0 ⊗ var 8 ⊗ var 5 ⊖ var 0 ⊗ var 3 ⊗ var 7) ⊗ var 4) (var 0 ⊗ var 5 ⊗ (var 8 ⊗ var 4 ⊖ var 7 ⊗ var 6) ⊖ var 0 ⊗ var 7 ⊗ (var 3 ⊗ var 4 ⊕ var 1 ⊗ var 2 ⊖ var 5 ⊗ var 6) ⊕ lit (pos 1) ⊗ (var 0 ⊗ var 7 ⊗ var 1 ⊗ var 2)) refl ∙ (subst (λ z. r *ℤ d *ℤ (c' *ℤ p -ℤ d' *ℤ x) -ℤ r *ℤ d' *ℤ (c *ℤ p +ℤ a *ℤ y -ℤ d *ℤ x) +ℤ z *ℤ (r *ℤ d' *ℤ a *ℤ y) ≡ d' *ℤ ((r *ℤ (g *ℤ a)) *ℤ (g *ℤ y))) square (subst (λ z. r *ℤ d *ℤ (z -ℤ d' *ℤ x) -ℤ r *ℤ d' *ℤ (c *ℤ p +ℤ a *ℤ y -ℤ d *ℤ x) +ℤ g *ℤ g *ℤ (r *ℤ d' *ℤ a *ℤ y) ≡ d' *ℤ ((r *ℤ (g *ℤ a)) *ℤ (g *ℤ y))) f (subst (λ z. r *ℤ d *ℤ (d' *ℤ x -ℤ d' *ℤ x) -ℤ r *ℤ d' *ℤ (z -ℤ d *ℤ x) +ℤ g *ℤ g *ℤ (r *ℤ d' *ℤ a *ℤ y) ≡ d' *ℤ ((r *ℤ (g *ℤ a)) *ℤ (g *ℤ y))) e (by_ring (r ∷ g ∷ a ∷ y ∷ d ∷ x ∷ d' ∷ []) (var 0 ⊗ var 4 ⊗ (var 6 ⊗ var 5 ⊖ var 6 ⊗ var 5) ⊖ var 0 ⊗ var 6 ⊗ (var 4 ⊗ var 5 ⊖ var 4 ⊗ var 5) ⊕ var 1 ⊗ var 1 ⊗ (var 0 ⊗ var 6 ⊗ var 2 ⊗ var 3)) (var 6 ⊗ ((var 0 ⊗ (var 1 ⊗ var 2)) ⊗ (var 1 ⊗ var 3))) refl))))

pub rise_nonneg : (r g a y c p d x d' c' : ℤ) → g *ℤ g ≡ pos 1 → d *ℤ x ≡ c *ℤ p +ℤ a *ℤ y → d' *ℤ x ≡ c' *ℤ p → pos 0 <ℤ p → pos 0 <ℤ d' → pos 0 <ℤ (r *ℤ (g *ℤ a)) → pos 0 ≤ℤ (g *ℤ y) → (r *ℤ c *ℤ d') ≤ℤ (r *ℤ c' *ℤ d)
rise_nonneg r g a y c p d x d' c' square e f positive below helps moved =
    let k : pos 0 ≤ℤ (d' *ℤ ((r *ℤ (g *ℤ a)) *ℤ (g *ℤ y))) = mul_nonneg d' ((r *ℤ (g *ℤ a)) *ℤ (g *ℤ y)) (omega (arith, linear)) (mul_nonneg (r *ℤ (g *ℤ a)) (g *ℤ y) (omega (arith, linear)) moved) in
    let q : pos 0 ≤ℤ (r *ℤ c' *ℤ d -ℤ r *ℤ c *ℤ d') = le_cancel_right (pos 0) (r *ℤ c' *ℤ d -ℤ r *ℤ c *ℤ d') p (rw (zero-*ℤ p, rise r g a y c p d x d' c' square e f) k) positive in
    omega (arith, linear)

pub rise_pos : (r g a y c p d x d' c' : ℤ) → g *ℤ g ≡ pos 1 → d *ℤ x ≡ c *ℤ p +ℤ a *ℤ y → d' *ℤ x ≡ c' *ℤ p → pos 0 <ℤ p → pos 0 <ℤ d' → pos 0 <ℤ (r *ℤ (g *ℤ a)) → pos 0 <ℤ (g *ℤ y) → (r *ℤ c *ℤ d') <ℤ (r *ℤ c' *ℤ d)
rise_pos r g a y c p d x d' c' square e f positive below helps moved =
    let k : pos 0 <ℤ (d' *ℤ ((r *ℤ (g *ℤ a)) *ℤ (g *ℤ y))) = mul_pos d' ((r *ℤ (g *ℤ a)) *ℤ (g *ℤ y)) below (mul_pos (r *ℤ (g *ℤ a)) (g *ℤ y) helps moved) in
    let q : pos 0 <ℤ (r *ℤ c' *ℤ d -ℤ r *ℤ c *ℤ d') = lt_cancel_right (pos 0) (r *ℤ c' *ℤ d -ℤ r *ℤ c *ℤ d') p (rw (zero-*ℤ p, rise r g a y c p d x d' c' square e f) k) (omega (arith, linear)) in
    omega (arith, linear)

-- ---- fractions with denominators above 0, compared crosswise
pub fraction_le_trans : (a b c d e f : ℤ) → pos 0 <ℤ b → pos 0 <ℤ d → pos 0 <ℤ f → (a *ℤ d) ≤ℤ (c *ℤ b) → (c *ℤ f) ≤ℤ (e *ℤ d) → (a *ℤ f) ≤ℤ (e *ℤ b)
fraction_le_trans a b c d e f pb pd pf h k =
    let p : (a *ℤ d *ℤ f) ≤ℤ (c *ℤ b *ℤ f) = mul_le_right (a *ℤ d) (c *ℤ b) f h (omega (arith, linear)) in
    let q : (c *ℤ f *ℤ b) ≤ℤ (e *ℤ d *ℤ b) = mul_le_right (c *ℤ f) (e *ℤ d) b k (omega (arith, linear)) in
    let x : a *ℤ f *ℤ d ≡ a *ℤ d *ℤ f = ring3 (λ a d f. a ⊗ f ⊗ d) (λ a d f. a ⊗ d ⊗ f) refl a d f in
    let y : c *ℤ b *ℤ f ≡ c *ℤ f *ℤ b = ring3 (λ c b f. c ⊗ b ⊗ f) (λ c b f. c ⊗ f ⊗ b) refl c b f in
    let z : e *ℤ b *ℤ d ≡ e *ℤ d *ℤ b = ring3 (λ e b d. e ⊗ b ⊗ d) (λ e b d. e ⊗ d ⊗ b) refl e b d in
    le_cancel_right (a *ℤ f) (e *ℤ b) d (omega (arith, linear)) pd

pub fraction_lt_le : (a b c d e f : ℤ) → pos 0 <ℤ b → pos 0 <ℤ d → pos 0 <ℤ f → (a *ℤ d) <ℤ (c *ℤ b) → (c *ℤ f) ≤ℤ (e *ℤ d) → (a *ℤ f) <ℤ (e *ℤ b)
fraction_lt_le a b c d e f pb pd pf h k =
    let p : (a *ℤ d *ℤ f) <ℤ (c *ℤ b *ℤ f) = mul_lt_right (a *ℤ d) (c *ℤ b) f h pf in
    let q : (c *ℤ f *ℤ b) ≤ℤ (e *ℤ d *ℤ b) = mul_le_right (c *ℤ f) (e *ℤ d) b k (omega (arith, linear)) in
    let x : a *ℤ f *ℤ d ≡ a *ℤ d *ℤ f = ring3 (λ a d f. a ⊗ f ⊗ d) (λ a d f. a ⊗ d ⊗ f) refl a d f in
    let y : c *ℤ b *ℤ f ≡ c *ℤ f *ℤ b = ring3 (λ c b f. c ⊗ b ⊗ f) (λ c b f. c ⊗ f ⊗ b) refl c b f in
    let z : e *ℤ b *ℤ d ≡ e *ℤ d *ℤ b = ring3 (λ e b d. e ⊗ b ⊗ d) (λ e b d. e ⊗ d ⊗ b) refl e b d in
    lt_cancel_right (a *ℤ f) (e *ℤ b) d (omega (arith, linear)) (omega (arith, linear))
