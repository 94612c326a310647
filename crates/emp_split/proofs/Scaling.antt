-- The same point by larger numbers.
use Rattle.std.proofs.Common.{◌≡◌, ℕ, ℤ, pos, neg_ℤ, ◌+ℤ◌, ◌-ℤ◌, ◌*ℤ◌, ◌<ℤ◌, List, [], ◌∷◌, Option, Some, None, arith, refl, sym, ap, ap₂, subst, ◌∙◌}
use lib.IntN.{*ℤ-zero}
use Rattle.emp_algebra.proofs.Ring.{var, lit, neg, ◌⊕◌, ◌⊖◌, ◌⊗◌, by_ring}
use Rattle.emp_algebra.proofs.Laws.{mul_nonneg, mul_pos, *ℤ_assoc, one-*ℤ}
use Rattle.emp_algebra.proofs.Order.{linear, mul_le_right}
use Rattle.emp_algebra.proofs.Vectors.{cell-scale, length-scale}
use Rattle.emp_algebra.specs.Vector.{cell, dot, scale}
use Rattle.emp_num.specs.Ratio.{ratio}
use Rattle.emp_systems.specs.Steps.{value_squared}
use Rattle.emp_systems.proofs.Forms.{value-scaled}
use Rattle.emp_systems.proofs.Lagrangian.{value_left}
use Rattle.emp_systems.proofs.Scaled.{value_scaled}
use Rattle.emp_ast.specs.declared.model.Relation.{Relation}
use Rattle.emp_ast.specs.declared.model.Relation.TheVariants.{Equal, AtLeast, AtMost, Nothing}
use Rattle.emp_game.specs.Game.{Rule, Purpose, goal, flow, Player, Ranges, range_at, owns}
use Rattle.emp_game.specs.Solved.{value_at, InRange, IsObeyed, Obeys, flow_row, purpose_at, charged, charged_purpose, AreMultipliers}
use Rattle.emp_game.proofs.Sound.{total_at}
use Rattle.emp_game.proofs.Level.{scaled_above, scaled_below}
use Rattle.emp_game.proofs.Multiplied.{scaled_total, flow_scaled, signed_scaled, unscaled}
use Rattle.emp_split.specs.Games.{Leader, Game}
use Rattle.emp_split.specs.Meaning.{LeaderObeys}

pub scale_scale : (a b : ℤ) (xs : List ℤ) → scale a (scale b xs) ≡ scale (a *ℤ b) xs
scale_scale a b [] = refl
scale_scale a b (x ∷ xs) = ap₂ (λ (y : ℤ) (ys : List ℤ). y ∷ ys) (sym (*ℤ_assoc a b x)) (scale_scale a b xs)

pub scale_one : (xs : List ℤ) → scale (pos 1) xs ≡ xs
scale_one [] = refl
scale_one (x ∷ xs) = ap₂ (λ (y : ℤ) (ys : List ℤ). y ∷ ys) (one-*ℤ x) (scale_one xs)

-- ---- rules and ranges
obeyed_scaled : (rel : Relation) (h z : ℤ) → pos 0 <ℤ h → IsObeyed rel z → IsObeyed rel (h *ℤ z)
obeyed_scaled Equal h z p o = ap (λ y. h *ℤ y) o ∙ *ℤ-zero h
obeyed_scaled AtLeast h z p o = mul_nonneg h z (omega (arith, linear, p)) o
obeyed_scaled AtMost h z p o =
    let some = mul_nonneg h (neg_ℤ z) (omega (arith, linear, p)) (omega (arith, linear, o)) in
    let same = by_ring (h ∷ z ∷ []) (var 0 ⊗ neg (var 1)) (neg (var 0 ⊗ var 1)) refl in
    omega (arith, linear, some, same)
obeyed_scaled Nothing h z p o = tt

pub obeys_scaled : (h : ℤ) (rs : List Rule) (d : ℤ) (xs : List ℤ) → pos 0 <ℤ h → Obeys rs d xs → Obeys rs (h *ℤ d) (scale h xs)
obeys_scaled h [] d xs p o = tt
obeys_scaled h (r ∷ rs) d xs p o = (subst (λ z. IsObeyed r.relation z) (sym (value_scaled r.row.constant r.row.cells h d xs)) (obeyed_scaled r.relation h (value_at r.row d xs) p o.0), obeys_scaled h rs d xs p o.1)

pub range_scaled : (ranges : Ranges) (k : ℕ) (h d : ℤ) (xs : List ℤ) → pos 0 <ℤ h → InRange (range_at ranges k) (ratio (cell xs k) d) → InRange (range_at ranges k) (ratio (cell (scale h xs) k) (h *ℤ d))
range_scaled ranges k h d xs p w =
    let r = range_at ranges k in
    subst (λ z. InRange r (ratio z (h *ℤ d))) (sym (cell-scale h xs k)) (scaled_above r.0 (cell xs k) d h p w.0, scaled_below r.1 (cell xs k) d h p w.1)

pub leader_scaled : (g : Game) (l : Option Leader) (h d : ℤ) (xs : List ℤ) → pos 0 <ℤ h → LeaderObeys g l d xs → LeaderObeys g l (h *ℤ d) (scale h xs)
leader_scaled g None h d xs p o = tt
leader_scaled g (Some l) h d xs p o = (obeys_scaled h l.rules d xs p o.0, λ k n. range_scaled g.ranges k h d xs p (o.1 k n))

-- ---- multipliers
value_grown : (h : ℤ) (p : Purpose) (own : List ℕ) (rs : List Rule) (d : ℤ) (xs us : List ℤ) (e : ℤ) (ys : List ℤ)
    → value_squared (charged_purpose (record { own = own; purpose = p; rules = rs }) (h *ℤ d) (scale h xs) (scale h us)) e ys ≡ h *ℤ value_squared (charged_purpose (record { own = own; purpose = p; rules = rs }) d xs us) e ys
value_grown h (goal q) own rs d xs us e ys =
    value_left (h *ℤ d) q (charged rs (scale h us)) e ys
    ∙ (ap (λ z. h *ℤ d *ℤ value_squared q e ys -ℤ e *ℤ z) (scaled_total h rs us e ys)
    ∙ (by_ring (h ∷ d ∷ value_squared q e ys ∷ e ∷ total_at (charged rs us) e ys ∷ []) (var 0 ⊗ var 1 ⊗ var 2 ⊖ var 3 ⊗ (var 0 ⊗ var 4)) (var 0 ⊗ (var 1 ⊗ var 2 ⊖ var 3 ⊗ var 4)) refl ∙ ap (λ z. h *ℤ z) (sym (value_left d q (charged rs us) e ys))))
value_grown h (flow fs) own rs d xs us e ys =
    value_left (pos 1) (purpose_at (flow fs) own (h *ℤ d) (scale h xs)) (charged rs (scale h us)) e ys
    ∙ (ap₂ (λ s t. pos 1 *ℤ (pos 0 *ℤ (e *ℤ e) +ℤ e *ℤ s +ℤ pos 0) -ℤ e *ℤ t) (flow_scaled h own fs d xs ys) (scaled_total h rs us e ys)
    ∙ (by_ring (h ∷ e ∷ dot (flow_row own fs d xs) ys ∷ total_at (charged rs us) e ys ∷ [])
    (lit (pos 1) ⊗ (lit (pos 0) ⊗ (var 1 ⊗ var 1) ⊕ var 1 ⊗ (var 0 ⊗ var 2) ⊕ lit (pos 0)) ⊖ var 1 ⊗ (var 0 ⊗ var 3))
    (var 0 ⊗ (lit (pos 1) ⊗ (lit (pos 0) ⊗ (var 1 ⊗ var 1) ⊕ var 1 ⊗ var 2 ⊕ lit (pos 0)) ⊖ var 1 ⊗ var 3))
    refl
    ∙ ap (λ z. h *ℤ z) (sym (value_left (pos 1) (purpose_at (flow fs) own d xs) (charged rs us) e ys))))

pub multipliers_scaled : (ranges : Ranges) (pl : Player) (h d : ℤ) (xs us : List ℤ) → pos 0 <ℤ h → AreMultipliers ranges pl d xs us → AreMultipliers ranges pl (h *ℤ d) (scale h xs) (scale h us)
multipliers_scaled ranges pl h d xs us p m = record {
  among = record {
    fits = length-scale h xs ∙ m.among.fits;
    others = λ k o. refl;
    within = λ k o. range_scaled ranges k h d xs p (m.among.within k o);
  };
  signed = signed_scaled h h pl.rules us d xs p m.signed;
  least = λ e ys r dev.
      let most = m.least e ys r (record { fits = dev.fits; others = unscaled (owns pl) h d xs e ys p dev.others; within = dev.within }) in
      let old = charged_purpose pl d xs us in
      let f = h *ℤ (h *ℤ h) in
      let f_pos = mul_pos h (h *ℤ h) p (mul_pos h h p p) in
      let grown = mul_le_right (value_squared old d xs *ℤ (e *ℤ e)) (value_squared old e ys *ℤ (d *ℤ d)) f most (omega (arith, linear, f_pos)) in
      let left : value_squared (charged_purpose pl (h *ℤ d) (scale h xs) (scale h us)) (h *ℤ d) (scale h xs) *ℤ (e *ℤ e) ≡ value_squared old d xs *ℤ (e *ℤ e) *ℤ f =
      ap (λ z. z *ℤ (e *ℤ e)) (value_grown h pl.purpose pl.own pl.rules d xs us (h *ℤ d) (scale h xs) ∙ ap (λ z. h *ℤ z) (value-scaled old d xs h)) ∙ by_ring (h ∷ value_squared old d xs ∷ e ∷ []) (var 0 ⊗ (var 0 ⊗ var 0 ⊗ var 1) ⊗ (var 2 ⊗ var 2)) (var 1 ⊗ (var 2 ⊗ var 2) ⊗ (var 0 ⊗ (var 0 ⊗ var 0))) refl in
      let right : value_squared (charged_purpose pl (h *ℤ d) (scale h xs) (scale h us)) e ys *ℤ (h *ℤ d *ℤ (h *ℤ d)) ≡ value_squared old e ys *ℤ (d *ℤ d) *ℤ f =
      ap (λ z. z *ℤ (h *ℤ d *ℤ (h *ℤ d))) (value_grown h pl.purpose pl.own pl.rules d xs us e ys) ∙ by_ring (h ∷ value_squared old e ys ∷ d ∷ []) (var 0 ⊗ var 1 ⊗ (var 0 ⊗ var 2 ⊗ (var 0 ⊗ var 2))) (var 1 ⊗ (var 2 ⊗ var 2) ⊗ (var 0 ⊗ (var 0 ⊗ var 0))) refl in
      omega (arith, linear, grown, left, right);
}

-- the same by other words for the numbers
pub respelled : (ranges : Ranges) (pl : Player) {d e : ℤ} {xs ys us vs : List ℤ} → d ≡ e → xs ≡ ys → us ≡ vs → AreMultipliers ranges pl d xs us → AreMultipliers ranges pl e ys vs
respelled ranges pl {d} {e} {xs} {ys} {us} {vs} p q r m = subst (λ z. AreMultipliers ranges pl z ys vs) p (subst (λ zs. AreMultipliers ranges pl d zs vs) q (subst (λ zs. AreMultipliers ranges pl d xs zs) r m))
