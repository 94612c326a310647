-- What solves a game solves it by larger numbers, and the leader's order stays.
use Rattle.std.proofs.Common.{◌≡◌, ◌⊎◌, inl, inr, ◌↔◌, ℕ, ℤ, pos, ◌+ℤ◌, ◌*ℤ◌, ◌≤ℤ◌, ◌<ℤ◌, true, List, [], ◌∷◌, map, Option, Some, None, arith, refl, sym, ap, subst₂, ◌∙◌}
use Rattle.emp_algebra.specs.Vector.{cell, dot, scale}
use Rattle.emp_algebra.proofs.Laws.{mul_pos}
use Rattle.emp_algebra.proofs.Order.{linear, mul_lt_right, mul_le_right, le_or_lt}
use Rattle.emp_algebra.proofs.Ring.{var, lit, ◌⊕◌, ◌⊗◌, by_ring}
use Rattle.emp_algebra.proofs.Vectors.{length-scale, cell-scale}
use Rattle.emp_systems.specs.Steps.{value_squared, IsAtMost}
use Rattle.emp_systems.proofs.Forms.{value-scaled}
use Rattle.emp_systems.proofs.Scaled.{value_scaled}
use Rattle.emp_game.specs.Game.{Row, Rule, Purpose, goal, flow, Player, Ranges, owns}
use Rattle.emp_game.specs.Solved.{value_at, flow_row, purpose_at, IsSolved, AreMultipliers}
use Rattle.emp_game.proofs.Multiplied.{flow_scaled, unscaled}
use Rattle.emp_split.specs.Games.{Leader, Game, has_rule, dual_of}
use Rattle.emp_split.specs.Numbers.{holder, is_priced}
use Rattle.emp_split.specs.Meaning.{ArePrices, IsAdmissible, IsBetter}
use Rattle.emp_split.proofs.Each.{each}
use Rattle.emp_split.proofs.Scaling.{scale_scale, obeys_scaled, range_scaled, leader_scaled, multipliers_scaled, respelled}

-- ---- one player
-- the purpose at larger numbers
purpose_grown : (h : ℤ) (p : Purpose) (own : List ℕ) (d : ℤ) (xs : List ℤ) → pos 0 <ℤ h → (c : ℤ) × (pos 0 <ℤ c) × ((e : ℤ) (ys : List ℤ) → value_squared (purpose_at p own (h *ℤ d) (scale h xs)) e ys ≡ c *ℤ value_squared (purpose_at p own d xs) e ys)
purpose_grown h (goal q) own d xs p = (pos 1, omega (arith, linear), λ e ys. by_ring (value_squared q e ys ∷ []) (var 0) (lit (pos 1) ⊗ var 0) refl)
purpose_grown h (flow fs) own d xs p = (
  h,
  p,
  λ e ys.
      ap (λ z. pos 0 *ℤ (e *ℤ e) +ℤ e *ℤ z +ℤ pos 0) (flow_scaled h own fs d xs ys)
      ∙ by_ring (h ∷ e ∷ dot (flow_row own fs d xs) ys ∷ []) (lit (pos 0) ⊗ (var 1 ⊗ var 1) ⊕ var 1 ⊗ (var 0 ⊗ var 2) ⊕ lit (pos 0)) (var 0 ⊗ (lit (pos 0) ⊗ (var 1 ⊗ var 1) ⊕ var 1 ⊗ var 2 ⊕ lit (pos 0))) refl,
)

most_scaled : (h : ℤ) (p : Purpose) (own : List ℕ) (d : ℤ) (xs : List ℤ) (e : ℤ) (ys : List ℤ) → pos 0 <ℤ h → IsAtMost (purpose_at p own d xs) d xs e ys → IsAtMost (purpose_at p own (h *ℤ d) (scale h xs)) (h *ℤ d) (scale h xs) e ys
most_scaled h p own d xs e ys above most =
    let g = purpose_grown h p own d xs above in
    let c = g.0 in
    let q = purpose_at p own d xs in
    let f = c *ℤ (h *ℤ h) in
    let f_pos = mul_pos c (h *ℤ h) g.1 (mul_pos h h above above) in
    let grown = mul_le_right (value_squared q d xs *ℤ (e *ℤ e)) (value_squared q e ys *ℤ (d *ℤ d)) f most (omega (arith, linear, f_pos)) in
    let left : value_squared (purpose_at p own (h *ℤ d) (scale h xs)) (h *ℤ d) (scale h xs) *ℤ (e *ℤ e) ≡ value_squared q d xs *ℤ (e *ℤ e) *ℤ f =
    ap (λ z. z *ℤ (e *ℤ e)) (g.2 (h *ℤ d) (scale h xs) ∙ ap (λ z. c *ℤ z) (value-scaled q d xs h)) ∙ by_ring (c ∷ h ∷ value_squared q d xs ∷ e ∷ []) (var 0 ⊗ (var 1 ⊗ var 1 ⊗ var 2) ⊗ (var 3 ⊗ var 3)) (var 2 ⊗ (var 3 ⊗ var 3) ⊗ (var 0 ⊗ (var 1 ⊗ var 1))) refl in
    let right : value_squared (purpose_at p own (h *ℤ d) (scale h xs)) e ys *ℤ (h *ℤ d *ℤ (h *ℤ d)) ≡ value_squared q e ys *ℤ (d *ℤ d) *ℤ f =
    ap (λ z. z *ℤ (h *ℤ d *ℤ (h *ℤ d))) (g.2 e ys) ∙ by_ring (c ∷ h ∷ value_squared q e ys ∷ d ∷ []) (var 0 ⊗ var 2 ⊗ (var 1 ⊗ var 3 ⊗ (var 1 ⊗ var 3))) (var 2 ⊗ (var 3 ⊗ var 3) ⊗ (var 0 ⊗ (var 1 ⊗ var 1))) refl in
    omega (arith, linear, grown, left, right)

solved_scaled : (ranges : Ranges) (pl : Player) (h d : ℤ) (xs : List ℤ) → pos 0 <ℤ h → IsSolved ranges pl d xs → IsSolved ranges pl (h *ℤ d) (scale h xs)
solved_scaled ranges pl h d xs p s = record {
  feasible = record {
    deviation = record {
      fits = length-scale h xs ∙ s.feasible.deviation.fits;
      others = λ k o. refl;
      within = λ k o. range_scaled ranges k h d xs p (s.feasible.deviation.within k o);
    };
    obeys = obeys_scaled h pl.rules d xs p s.feasible.obeys;
  };
  best = λ e ys r v.
      most_scaled h pl.purpose pl.own d xs e ys p
      (s.best e ys r (record { deviation = record { fits = v.deviation.fits; others = unscaled (owns pl) h d xs e ys p v.deviation.others; within = v.deviation.within }; obeys = v.obeys }));
}

-- ---- the game
scaled_rules : (c : ℤ) (rs : List Rule) (f : ℕ → ℤ) → scale c (map (λ r. f r.equation) rs) ≡ map (λ r. c *ℤ f r.equation) rs
scaled_rules c [] f = refl
scaled_rules c (r ∷ rs) f = ap (λ (ys : List ℤ). (c *ℤ f r.equation) ∷ ys) (scaled_rules c rs f)

swapped : (a b : ℤ) (xs : List ℤ) → scale a (scale b xs) ≡ scale b (scale a xs)
swapped a b xs = scale_scale a b xs ∙ (ap (λ z. scale z xs) (by_ring (a ∷ b ∷ []) (var 0 ⊗ var 1) (var 1 ⊗ var 0) refl) ∙ sym (scale_scale b a xs))

prices_scaled : (g : Game) (h d : ℤ) (xs : List ℤ) (times : ℤ) (number : ℕ → ℕ → ℤ) → pos 0 <ℤ h → ArePrices g d xs times number → ArePrices g (h *ℤ d) (scale h xs) times (λ j e. h *ℤ number j e)
prices_scaled g h d xs times number p a = record {
  positive = a.positive;
  multipliers =
      each (λ j pl. is_priced g pl.rules ≡ true → AreMultipliers g.ranges pl (times *ℤ d) (scale times xs) (map (λ r. number j r.equation) pl.rules))
      (λ j pl. is_priced g pl.rules ≡ true → AreMultipliers g.ranges pl (times *ℤ (h *ℤ d)) (scale times (scale h xs)) (map (λ r. h *ℤ number j r.equation) pl.rules))
      (λ j pl m priced.
      respelled g.ranges pl (by_ring (h ∷ times ∷ d ∷ []) (var 0 ⊗ (var 1 ⊗ var 2)) (var 1 ⊗ (var 0 ⊗ var 2)) refl) (swapped h times xs) (scaled_rules h pl.rules (number j))
      (multipliers_scaled g.ranges pl h (times *ℤ d) (scale times xs) (map (λ r. number j r.equation) pl.rules) p (m priced))) 0 g.players a.multipliers;
  duals =
      each (λ j pl. (e k : ℕ) → has_rule pl.rules e ≡ true → dual_of g.duals e ≡ Some k → number j e ≡ times *ℤ cell xs k)
      (λ j pl. (e k : ℕ) → has_rule pl.rules e ≡ true → dual_of g.duals e ≡ Some k → h *ℤ number j e ≡ times *ℤ cell (scale h xs) k)
      (λ j pl f e k has is.
      ap (λ z. h *ℤ z) (f e k has is) ∙ (by_ring (h ∷ times ∷ cell xs k ∷ []) (var 0 ⊗ (var 1 ⊗ var 2)) (var 1 ⊗ (var 0 ⊗ var 2)) refl ∙ ap (λ z. times *ℤ z) (sym (cell-scale h xs k)))) 0 g.players a.duals;
  shared =
      each (λ j pl. (e : ℕ) → has_rule pl.rules e ≡ true → number j e ≡ number (holder g j e) e)
      (λ j pl. (e : ℕ) → has_rule pl.rules e ≡ true → h *ℤ number j e ≡ h *ℤ number (holder g j e) e)
      (λ j pl f e has. ap (λ z. h *ℤ z) (f e has)) 0 g.players a.shared;
}

pub admissible_scaled : (g : Game) (h d : ℤ) (xs : List ℤ) → pos 0 <ℤ h → IsAdmissible g d xs → IsAdmissible g (h *ℤ d) (scale h xs)
admissible_scaled g h d xs p a = record {
  count = length-scale h xs ∙ a.count;
  leads = leader_scaled g g.leader h d xs p a.leads;
  solved = each (λ j pl. IsSolved g.ranges pl d xs) (λ j pl. IsSolved g.ranges pl (h *ℤ d) (scale h xs)) (λ j pl s. solved_scaled g.ranges pl h d xs p s) 0 g.players a.solved;
  times = a.times;
  number = λ j e. h *ℤ a.number j e;
  prices = prices_scaled g h d xs a.times a.number p a.prices;
}

-- ---- the leader's order
lower_by : (x y c : ℤ) → pos 0 <ℤ c → (x <ℤ y) ↔ ((x *ℤ c) <ℤ (y *ℤ c))
lower_by x y c p = (λ h. mul_lt_right x y c h p, λ h. go h (le_or_lt y x))
  where
    go : (x *ℤ c) <ℤ (y *ℤ c) → (y ≤ℤ x) ⊎ (x <ℤ y) → x <ℤ y
    go h (inr l) = l
    go h (inl l) = let m = mul_le_right y x c l (omega (arith, linear, p)) in absurd (omega (arith, linear, h, m))

turned : (r : Row) (h k d e : ℤ) (xs : List ℤ) → value_at r (h *ℤ d) (scale h xs) *ℤ (k *ℤ e) ≡ value_at r d xs *ℤ e *ℤ (h *ℤ k)
turned r h k d e xs =
    ap (λ z. z *ℤ (k *ℤ e)) (value_scaled r.constant r.cells h d xs) ∙ by_ring (h ∷ value_at r d xs ∷ k ∷ e ∷ []) (var 0 ⊗ var 1 ⊗ (var 2 ⊗ var 3)) (var 1 ⊗ var 3 ⊗ (var 0 ⊗ var 2)) refl

pub better_scaled : (l : Option Leader) (h d : ℤ) (xs : List ℤ) (k e : ℤ) (ys : List ℤ) → pos 0 <ℤ h → pos 0 <ℤ k → IsBetter l d xs e ys ↔ IsBetter l (h *ℤ d) (scale h xs) (k *ℤ e) (scale k ys)
better_scaled None h d xs k e ys p q = (λ b. b, λ b. b)
better_scaled (Some l) h d xs k e ys p q =
    let by = lower_by (value_at l.goal d xs *ℤ e) (value_at l.goal e ys *ℤ d) (h *ℤ k) (mul_pos h k p q) in
    let first = turned l.goal h k d e xs in
    let second = turned l.goal k h e d ys ∙ ap (λ z. value_at l.goal e ys *ℤ d *ℤ z) (by_ring (k ∷ h ∷ []) (var 0 ⊗ var 1) (var 1 ⊗ var 0) refl) in (
      λ b. subst₂ (λ (x y : ℤ). x <ℤ y) (sym first) (sym second) (by.0 b),
      λ b. by.1 (subst₂ (λ (x y : ℤ). x <ℤ y) first second b),
    )
