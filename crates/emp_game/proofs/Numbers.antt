-- One coordinate, its range, its derivative and its number.
use Rattle.std.proofs.Common.{◌≡◌, ◌⊎◌, inl, inr, zero, suc, ℤ, pos, negsuc, neg_ℤ, ◌+ℤ◌, ◌-ℤ◌, ◌*ℤ◌, ◌≤ℤ◌, ◌<ℤ◌, Bool, true, false, [], ◌∷◌, arith, refl, ap, ◌∙◌}
use Rattle.std.proofs.lemmas.Int.{ints}
use lib.IntN.{zero-*ℤ, *ℤ-zero}
use Rattle.emp_algebra.proofs.Ring.{var, neg, ◌⊕◌, ◌⊖◌, ◌⊗◌, by_ring}
use Rattle.emp_algebra.proofs.Laws.{mul_nonneg}
use Rattle.emp_algebra.proofs.Order.{linear, le_or_lt, le_cancel_right, cancel_right}
use Rattle.emp_num.specs.Ratio.{ratio}
use Rattle.emp_num.specs.declared.frac.Frac.{Frac}
use Rattle.emp_ast.specs.declared.model.End.{End}
use Rattle.emp_ast.specs.declared.model.End.TheVariants.{Open, At}
use Rattle.emp_ast.specs.Meets.{IsAbove, IsBelow}
use Rattle.emp_algebra.specs.Vector.{is_zero}
use Rattle.emp_game.specs.Conditions.{AreComplementary, ends_meet, over_low, under_high, BetweenHolds, CoordinateHolds}

-- ---- zero
pub is_zero-true : (z : ℤ) → is_zero z ≡ true → z ≡ pos 0
is_zero-true (pos zero) h = refl
is_zero-true (pos (suc n)) h = cc
is_zero-true (negsuc n) h = cc

pub ends_same : (a b : Frac) → ends_meet a b ≡ true → a.num *ℤ b.den ≡ b.num *ℤ a.den
ends_same a b h = let e = is_zero-true (a.num *ℤ b.den -ℤ b.num *ℤ a.den) h in omega (arith, linear, e)

-- at the lower end x over d of ends that are one, the upper end is there too
pub at_both : (a b : Frac) (d x : ℤ) → ends_meet a b ≡ true → over_low a d x ≡ pos 0 → under_high b d x ≡ pos 0
at_both a b d x m h =
    let same = ends_same a b m in
    let e = by_ring (a.num ∷ a.den ∷ b.num ∷ b.den ∷ d ∷ x ∷ []) ((var 2 ⊗ var 4 ⊖ var 5 ⊗ var 3) ⊗ var 1) (var 4 ⊗ (var 2 ⊗ var 1) ⊖ var 4 ⊗ (var 0 ⊗ var 3) ⊖ var 3 ⊗ (var 5 ⊗ var 1 ⊖ var 0 ⊗ var 4)) refl in
    let left : d *ℤ (a.num *ℤ b.den) ≡ d *ℤ (b.num *ℤ a.den) = ap (λ z. d *ℤ z) same in
    let none : b.den *ℤ over_low a d x ≡ pos 0 = ap (λ z. b.den *ℤ z) h ∙ *ℤ-zero b.den in
    cancel_right (under_high b d x) (pos 0) a.den (omega (arith, linear, e, left, none, zero-*ℤ a.den)) a.positive

-- ---- the way to a coordinate in range
pub lower_way : (a : Frac) (d x e y : ℤ) → pos 0 ≤ℤ d → over_low a d x ≡ pos 0 → (a.num *ℤ e) ≤ℤ (y *ℤ a.den) → pos 0 ≤ℤ (d *ℤ y -ℤ e *ℤ x)
lower_way a d x e y p h k =
    let same = by_ring (d ∷ y ∷ e ∷ x ∷ a.den ∷ a.num ∷ []) ((var 0 ⊗ var 1 ⊖ var 2 ⊗ var 3) ⊗ var 4) (var 0 ⊗ (var 1 ⊗ var 4 ⊖ var 5 ⊗ var 2) ⊖ var 2 ⊗ (var 3 ⊗ var 4 ⊖ var 5 ⊗ var 0)) refl in
    let up = mul_nonneg d (y *ℤ a.den -ℤ a.num *ℤ e) p (omega (arith, linear, k)) in
    let none : e *ℤ over_low a d x ≡ pos 0 = ap (λ z. e *ℤ z) h ∙ *ℤ-zero e in
    le_cancel_right (pos 0) (d *ℤ y -ℤ e *ℤ x) a.den (omega (arith, linear, same, up, none, zero-*ℤ a.den)) a.positive

pub upper_way : (b : Frac) (d x e y : ℤ) → pos 0 ≤ℤ d → under_high b d x ≡ pos 0 → (y *ℤ b.den) ≤ℤ (b.num *ℤ e) → pos 0 ≤ℤ neg_ℤ (d *ℤ y -ℤ e *ℤ x)
upper_way b d x e y p h k =
    let same = by_ring (d ∷ y ∷ e ∷ x ∷ b.den ∷ b.num ∷ []) (neg (var 0 ⊗ var 1 ⊖ var 2 ⊗ var 3) ⊗ var 4) (var 0 ⊗ (var 5 ⊗ var 2 ⊖ var 1 ⊗ var 4) ⊖ var 2 ⊗ (var 5 ⊗ var 0 ⊖ var 3 ⊗ var 4)) refl in
    let up = mul_nonneg d (b.num *ℤ e -ℤ y *ℤ b.den) p (omega (arith, linear, k)) in
    let none : e *ℤ under_high b d x ≡ pos 0 = ap (λ z. e *ℤ z) h ∙ *ℤ-zero e in
    le_cancel_right (pos 0) (neg_ℤ (d *ℤ y -ℤ e *ℤ x)) b.den (omega (arith, linear, same, up, none, zero-*ℤ b.den)) b.positive

lower_term : (g : ℤ) (a : Frac) (d x e y : ℤ) → pos 0 ≤ℤ d → AreComplementary g (over_low a d x) → (a.num *ℤ e) ≤ℤ (y *ℤ a.den) → pos 0 ≤ℤ (g *ℤ (d *ℤ y -ℤ e *ℤ x))
lower_term g a d x e y p h k = go h.2
  where
    go : (g ≡ pos 0) ⊎ (over_low a d x ≡ pos 0) → pos 0 ≤ℤ (g *ℤ (d *ℤ y -ℤ e *ℤ x))
    go (inl o) = let none : g *ℤ (d *ℤ y -ℤ e *ℤ x) ≡ pos 0 = ap (λ z. z *ℤ (d *ℤ y -ℤ e *ℤ x)) o ∙ zero-*ℤ (d *ℤ y -ℤ e *ℤ x) in omega (arith, linear, none)
    go (inr o) = mul_nonneg g (d *ℤ y -ℤ e *ℤ x) h.0 (lower_way a d x e y p o k)

upper_term : (g : ℤ) (b : Frac) (d x e y : ℤ) → pos 0 ≤ℤ d → AreComplementary g (under_high b d x) → (y *ℤ b.den) ≤ℤ (b.num *ℤ e) → pos 0 ≤ℤ (g *ℤ neg_ℤ (d *ℤ y -ℤ e *ℤ x))
upper_term g b d x e y p h k = go h.2
  where
    go : (g ≡ pos 0) ⊎ (under_high b d x ≡ pos 0) → pos 0 ≤ℤ (g *ℤ neg_ℤ (d *ℤ y -ℤ e *ℤ x))
    go (inl o) = let none : g *ℤ neg_ℤ (d *ℤ y -ℤ e *ℤ x) ≡ pos 0 = ap (λ z. z *ℤ neg_ℤ (d *ℤ y -ℤ e *ℤ x)) o ∙ zero-*ℤ (neg_ℤ (d *ℤ y -ℤ e *ℤ x)) in omega (arith, linear, none)
    go (inr o) = mul_nonneg g (neg_ℤ (d *ℤ y -ℤ e *ℤ x)) h.0 (upper_way b d x e y p o k)

between_term : (m : Bool) (a b : Frac) (d x g z e y : ℤ) → pos 0 ≤ℤ d → ends_meet a b ≡ m → BetweenHolds m a b d x g z → (a.num *ℤ e) ≤ℤ (y *ℤ a.den) → (y *ℤ b.den) ≤ℤ (b.num *ℤ e) → pos 0 ≤ℤ (g *ℤ (d *ℤ y -ℤ e *ℤ x))
between_term true a b d x g z e y p m h low high =
    let up = lower_way a d x e y p h low in
    let down = upper_way b d x e y p (at_both a b d x m h) high in
    let none : d *ℤ y -ℤ e *ℤ x ≡ pos 0 = omega (arith, linear, up, down) in
    let all : g *ℤ (d *ℤ y -ℤ e *ℤ x) ≡ pos 0 = ap (λ w. g *ℤ w) none ∙ *ℤ-zero g in
    omega (arith, linear, all)
between_term false a b d x g z e y p m h low high =
    let up = lower_term (g +ℤ z) a d x e y p h.0 low in
    let down = upper_term z b d x e y p h.1 high in
    let same = by_ring (g ∷ z ∷ (d *ℤ y -ℤ e *ℤ x) ∷ []) (var 0 ⊗ var 2) ((var 0 ⊕ var 1) ⊗ var 2 ⊕ var 1 ⊗ neg (var 2)) refl in
    omega (arith, linear, up, down, same)

-- the derivative does not fall along the way to another coordinate of the range
pub coordinate_term : (lo hi : End) (d x g z e y : ℤ) → pos 0 ≤ℤ d → CoordinateHolds lo hi d x g z → IsAbove (ratio y e) lo → IsBelow (ratio y e) hi → pos 0 ≤ℤ (g *ℤ (d *ℤ y -ℤ e *ℤ x))
coordinate_term Open Open d x g z e y p h low high =
    let none : g *ℤ (d *ℤ y -ℤ e *ℤ x) ≡ pos 0 = ap (λ w. w *ℤ (d *ℤ y -ℤ e *ℤ x)) h ∙ zero-*ℤ (d *ℤ y -ℤ e *ℤ x) in
    omega (arith, linear, none)
coordinate_term (At a) Open d x g z e y p h low high = lower_term g a d x e y p h low
coordinate_term Open (At b) d x g z e y p h low high =
    let down = upper_term (neg_ℤ g) b d x e y p h high in
    let same = by_ring (g ∷ (d *ℤ y -ℤ e *ℤ x) ∷ []) (var 0 ⊗ var 1) (neg (var 0) ⊗ neg (var 1)) refl in
    omega (arith, linear, down, same)
coordinate_term (At a) (At b) d x g z e y p h low high = between_term (ends_meet a b) a b d x g z e y p refl h low high

-- ---- and the coordinate itself is in range
between_low : (m : Bool) (a b : Frac) (d x g z : ℤ) → BetweenHolds m a b d x g z → (a.num *ℤ d) ≤ℤ (x *ℤ a.den)
between_low true a b d x g z h = omega (arith, linear, h)
between_low false a b d x g z h = let l = h.0.1 in omega (arith, linear, l)

between_high : (m : Bool) (a b : Frac) (d x g z : ℤ) → ends_meet a b ≡ m → BetweenHolds m a b d x g z → (x *ℤ b.den) ≤ℤ (b.num *ℤ d)
between_high true a b d x g z m h = let e = at_both a b d x m h in omega (arith, linear, e)
between_high false a b d x g z m h = let l = h.1.1 in omega (arith, linear, l)

pub coordinate_above : (lo hi : End) (d x g z : ℤ) → CoordinateHolds lo hi d x g z → IsAbove (ratio x d) lo
coordinate_above Open hi d x g z h = tt
coordinate_above (At a) Open d x g z h = let l = h.1 in omega (arith, linear, l)
coordinate_above (At a) (At b) d x g z h = between_low (ends_meet a b) a b d x g z h

pub coordinate_below : (lo hi : End) (d x g z : ℤ) → CoordinateHolds lo hi d x g z → IsBelow (ratio x d) hi
coordinate_below lo Open d x g z h = tt
coordinate_below Open (At b) d x g z h = let l = h.1 in omega (arith, linear, l)
coordinate_below (At a) (At b) d x g z h = between_high (ends_meet a b) a b d x g z refl h

-- ---- conditions from the sign of the derivative
abbrev pub negative_part : ℤ → ℤ
negative_part (pos n) = pos 0
negative_part (negsuc n) = pos (suc n)

-- the coordinate may still fall, or rise
abbrev pub MayFall : End → ℤ → ℤ → Type 0
MayFall Open d x = Unit {0}
MayFall (At a) d x = pos 0 <ℤ over_low a d x

abbrev pub MayRise : End → ℤ → ℤ → Type 0
MayRise Open d x = Unit {0}
MayRise (At b) d x = pos 0 <ℤ under_high b d x

positive_there : (g : ℤ) → pos 0 ≤ℤ (g +ℤ negative_part g)
positive_there (pos n) = omega (arith, ints)
positive_there (negsuc n) = omega (arith, ints)

positive_none : (g : ℤ) → g ≤ℤ pos 0 → g +ℤ negative_part g ≡ pos 0
positive_none (pos n) h = omega (arith, ints)
positive_none (negsuc n) h = omega (arith, ints)

negative_there : (g : ℤ) → pos 0 ≤ℤ negative_part g
negative_there (pos n) = omega (arith, ints)
negative_there (negsuc n) = omega (arith, ints)

negative_none : (g : ℤ) → pos 0 ≤ℤ g → negative_part g ≡ pos 0
negative_none (pos n) h = refl
negative_none (negsuc n) h = absurd h.le

none_or_above : (z : ℤ) → pos 0 ≤ℤ z → (z ≡ pos 0) ⊎ (pos 0 <ℤ z)
none_or_above z h = go (le_or_lt z (pos 0))
  where
    go : (z ≤ℤ pos 0) ⊎ (pos 0 <ℤ z) → (z ≡ pos 0) ⊎ (pos 0 <ℤ z)
    go (inl l) = inl (omega (arith, linear, l, h))
    go (inr l) = inr l

-- where the first is 0 as soon as the second is above 0
complementary : (x y : ℤ) → pos 0 ≤ℤ x → pos 0 ≤ℤ y → (pos 0 <ℤ y → x ≡ pos 0) → AreComplementary x y
complementary x y h k f = (h, k, go (none_or_above y k))
  where
    go : (y ≡ pos 0) ⊎ (pos 0 <ℤ y) → (x ≡ pos 0) ⊎ (y ≡ pos 0)
    go (inl e) = inr e
    go (inr l) = inl (f l)

-- from both signs: never above 0 where it may fall, never below 0 where it may rise
pub level_between : (m : Bool) (a b : Frac) (d x g : ℤ) → ends_meet a b ≡ m → pos 0 ≤ℤ over_low a d x → pos 0 ≤ℤ under_high b d x → (pos 0 <ℤ over_low a d x → g ≤ℤ pos 0) → (pos 0 <ℤ under_high b d x → pos 0 ≤ℤ g) → BetweenHolds m a b d x g (negative_part g)
level_between true a b d x g m low high falls rises =
    let same = ends_same a b m in
    let left : d *ℤ (a.num *ℤ b.den) ≡ d *ℤ (b.num *ℤ a.den) = ap (λ z. d *ℤ z) same in
    let e = by_ring (a.num ∷ a.den ∷ b.num ∷ b.den ∷ d ∷ x ∷ []) (neg (var 5 ⊗ var 1 ⊖ var 0 ⊗ var 4) ⊗ var 3) (var 4 ⊗ (var 0 ⊗ var 3) ⊖ var 4 ⊗ (var 2 ⊗ var 1) ⊕ var 1 ⊗ (var 2 ⊗ var 4 ⊖ var 5 ⊗ var 3)) refl in
    let up = mul_nonneg a.den (under_high b d x) (omega (arith, linear, a.positive)) high in
    let other = le_cancel_right (pos 0) (neg_ℤ (over_low a d x)) b.den (omega (arith, linear, e, left, up, zero-*ℤ b.den)) b.positive in
    omega (arith, linear, low, other)
level_between false a b d x g m low high falls rises = (
  complementary (g +ℤ negative_part g) (over_low a d x) (positive_there g) low (λ l. positive_none g (falls l)),
  complementary (negative_part g) (under_high b d x) (negative_there g) high (λ l. negative_none g (rises l)),
)

pub coordinate_level : (lo hi : End) (d x g : ℤ) → IsAbove (ratio x d) lo → IsBelow (ratio x d) hi → (MayFall lo d x → g ≤ℤ pos 0) → (MayRise hi d x → pos 0 ≤ℤ g) → CoordinateHolds lo hi d x g (negative_part g)
coordinate_level Open Open d x g low high falls rises = omega (arith, linear, falls tt, rises tt)
coordinate_level (At a) Open d x g low high falls rises =
    let up = rises tt in
    complementary g (over_low a d x) up (omega (arith, linear, low)) (λ l. omega (arith, linear, up, falls l))
coordinate_level Open (At b) d x g low high falls rises =
    let down = falls tt in
    complementary (neg_ℤ g) (under_high b d x) (omega (arith, linear, down)) (omega (arith, linear, high)) (λ l. omega (arith, linear, down, rises l))
coordinate_level (At a) (At b) d x g low high falls rises =
    level_between (ends_meet a b) a b d x g refl (omega (arith, linear, low)) (omega (arith, linear, high)) falls rises
