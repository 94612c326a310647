-- Each quantity is a multiple of its row, over every number that the fractions are over.
use Rattle.std.proofs.Common.{◌≡◌, ◌⊎◌, inl, inr, ℕ, suc, ◌+◌, ◌<◌, ◌≤◌, ℤ, pos, neg_ℤ, ◌+ℤ◌, ◌-ℤ◌, ◌*ℤ◌, ◌<ℤ◌, Bool, true, false, cond, List, [], ◌∷◌, length, get_or, map, Ok, Option, Some, None, refl, sym, ap, ap₂, subst, ◌∙◌, arith, nat_eq}
use lib.IntN.{zero-*ℤ, *ℤ-zero, *ℤ_comm}
use Rattle.std.specs.List.{All}
use Rattle.std.proofs.lemmas.Bool.{eqb-true, ne_eqb, eq-eqb}
use Rattle.std.proofs.lemmas.List.Elements.{All-get_or, All-head, All-tail}
use Rattle.emp_algebra.specs.Vector.{cell}
use Rattle.emp_algebra.proofs.Laws.{neg_ℤ-*ℤ, +ℤ-*ℤ}
use Rattle.emp_algebra.proofs.Order.{cancel_right}
use Rattle.emp_algebra.proofs.Ring.{var, lit, neg, ◌⊕◌, ◌⊖◌, ◌⊗◌, by_ring}
use Rattle.emp_num.specs.FracSpec.{IsQuotient}
use Rattle.emp_num.specs.Whole.{whole}
use Rattle.emp_num.specs.declared.frac.Frac.{Frac}
use Rattle.emp_rows.specs.declared.affine.Affine.{Affine}
use Rattle.emp_systems.specs.Own.{unit}
use Rattle.emp_ast.specs.declared.tree.VarId.{VarId}
use Rattle.emp_poly.specs.Quads.{linear_at}
use Rattle.emp_poly.specs.declared.quad.Lin.{Lin}
use Rattle.emp_game.specs.Game.{Row as GameRow}
use Rattle.emp_split.specs.Games.{coordinates}
use Rattle.emp_conditions.specs.Base.{base_slots, index_base, range, range_place, multiplier_place}
use Rattle.emp_conditions.specs.Rows.{variable, charges}
use Rattle.emp_problem.specs.declared.problem.Rule.{Rule}
use Rattle.emp_problem.specs.declared.problem.Purpose.{Purpose}
use Rattle.emp_problem.specs.declared.problem.Purpose.TheVariants.{Goal as Aim, Flow}
use Rattle.emp_problem.specs.declared.problem.LeaderPart.{LeaderPart}
use Rattle.emp_problem.specs.declared.problem.AgentProblem.{AgentProblem}
use Rattle.emp_problem.specs.Problem.{left_of, times_over, lin_row, game_rule, game, LinIsOver, BlockIsOver, LeaderIsOver, IsOver, place_of}
use Rattle.emp_kkt.specs.declared.asked.Item.{Item}
use Rattle.emp_kkt.specs.declared.asked.Item.TheVariants.{Low, High, Slope, Raised, Row, LeaderRow, Goal, Alone}
use Rattle.emp_kkt.specs.Items.{shape, no_lin, no_part, no_rule, part_at, own_at, rule_at, leader_rules, leader_goal}
use Rattle.emp_kkt.specs.Cells.{unit_frac, signed_frac, lin_cell, RuleBy, RuleGives, ChargesGive, SlopeGives, RaisedBy, CellGives, slope_constant, constant_of}
use Rattle.emp_kkt.specs.Gives.{IsFit, IsMadeOf, AreMadeOf}
use Rattle.emp_quantities.specs.Over.{IsMultipleOver, AreMultiplesOver}
use Rattle.emp_kkt.specs.Making.{PurposeFits}
use Rattle.emp_kkt.proofs.Shapes.{base_same, range_place_same, multiplier_place_same}
use Rattle.emp_kkt.proofs.Meeting.{function_of, signed_row, slope, own_place, item_row}
use Rattle.emp_kkt.proofs.Values.{firsts, AreOver, IsValue, made_over, firsts_dot}
use Rattle.emp_quantities.proofs.Weights.{weight_high}
use Rattle.emp_kkt.proofs.Weights.{weight_low, weight_above, range_weight, coordinates_are, multiplier_counts_once, multiplier_is_no_range, W}
use Rattle.emp_kkt.proofs.Columns.{zero_quotient, zero_over, signed_quotient, signed_cell, signed_constant, signed_times, cell-add_rows, unit_by, unit_turned, whole_quotient, lin_over, lin_past, lin_at_place, function_past, FlowFits, start_over, constant_over}
use Rattle.emp_kkt.proofs.Within.{SlopeIn, RaisedIn, ItemIn}

below_or_not : (i n : ℕ) → (i < n) ⊎ (n ≤ i)
below_or_not i n = grind arith

unit_neg : (k i : ℕ) (s : ℤ) → cell (unit k (neg_ℤ s)) i ≡ neg_ℤ (cell (unit k s) i)
unit_neg k i s = go (nat_eq k i) refl
  where
    go : (t : Bool) → nat_eq k i ≡ t → cell (unit k (neg_ℤ s)) i ≡ neg_ℤ (cell (unit k s) i)
    go true e = unit_by k i (neg_ℤ s) true e ∙ ap neg_ℤ (sym (unit_by k i s true e))
    go false e = unit_by k i (neg_ℤ s) false e ∙ ap neg_ℤ (sym (unit_by k i s false e))

-- one charge less, over n
less_over : (c x m : Frac) (X Y n : ℤ) → IsQuotient c X n → IsQuotient x Y n → IsQuotient m (c.num *ℤ x.den -ℤ x.num *ℤ c.den) (c.den *ℤ x.den) → IsQuotient m (X +ℤ neg_ℤ Y) n
less_over c x m X Y n h k q =
    cancel_right (m.num *ℤ n) ((X +ℤ neg_ℤ Y) *ℤ m.den) x.den
    (cancel_right (m.num *ℤ n *ℤ x.den) ((X +ℤ neg_ℤ Y) *ℤ m.den *ℤ x.den) c.den
    (by_ring (m.num ∷ n ∷ x.den ∷ c.den ∷ []) (var 0 ⊗ var 1 ⊗ var 2 ⊗ var 3) (var 0 ⊗ (var 3 ⊗ var 2) ⊗ var 1) refl
    ∙ (ap (λ z. z *ℤ n) q
    ∙ (by_ring (c.num ∷ x.den ∷ x.num ∷ c.den ∷ m.den ∷ n ∷ []) ((var 0 ⊗ var 1 ⊖ var 2 ⊗ var 3) ⊗ var 4 ⊗ var 5) ((var 0 ⊗ var 5 ⊗ var 1 ⊖ var 2 ⊗ var 5 ⊗ var 3) ⊗ var 4) refl
    ∙ (ap₂ (λ y z. (y *ℤ x.den -ℤ z *ℤ c.den) *ℤ m.den) h k
    ∙ by_ring (X ∷ Y ∷ x.den ∷ c.den ∷ m.den ∷ []) ((var 0 ⊗ var 3 ⊗ var 2 ⊖ var 1 ⊗ var 2 ⊗ var 3) ⊗ var 4) ((var 0 ⊕ neg (var 1)) ⊗ var 4 ⊗ var 2 ⊗ var 3) refl))))
    c.positive)
    x.positive

module _ (n : ℤ) (pr : AgentProblem) (isover : IsOver n pr) (fit : IsFit pr) where
  abbrev w : ℕ → ℤ
  w i = W n pr fit.duals i

  w_low : (i : ℕ) → i < length pr.variables → w i ≡ pos 1
  w_low i h = weight_low n (coordinates (game n pr)) (base_slots (game n pr)) i (let y = coordinates_are pr in omega (arith, y, h))

  times_one : (x : ℤ) → x *ℤ pos 1 ≡ x
  times_one x = by_ring (x ∷ []) (var 0 ⊗ lit (pos 1)) (var 0) refl

  -- what is 0 behind the variables that are left is the same times the weight
  settled : (x : ℤ) (i : ℕ) → (length pr.variables ≤ i → x ≡ pos 0) → x *ℤ w i ≡ x
  settled x i h = go (below_or_not i (length pr.variables))
    where
      go : (i < length pr.variables) ⊎ (length pr.variables ≤ i) → x *ℤ w i ≡ x
      go (inl b) = ap (λ z. x *ℤ z) (w_low i b) ∙ times_one x
      go (inr a) = ap (λ z. z *ℤ w i) (h a) ∙ (zero-*ℤ (w i) ∙ sym (h a))

  -- ---- single base variables
  unit_over : (k i : ℕ) (s D : ℤ) → s *ℤ w k ≡ D → IsQuotient (unit_frac k i) (cell (unit k s) i *ℤ w i) D
  unit_over k i s D h = go (nat_eq i k) refl
    where
      go : (t : Bool) → nat_eq i k ≡ t → IsQuotient (cond t (whole 1) (whole 0)) (cell (unit k s) i *ℤ w i) D
      go true e =
          let z : i ≡ k = eqb-true i k e in
          by_ring (D ∷ []) (lit (pos 1) ⊗ var 0) (var 0 ⊗ lit (pos 1)) refl
          ∙ ap (λ x. x *ℤ pos 1) (sym h ∙ ap₂ (λ x y. x *ℤ y) (sym (unit_turned k i s true e)) (ap w (sym z)))
      go false e =
          zero-*ℤ D ∙ (by_ring (w i ∷ []) (lit (pos 0)) (lit (pos 0) ⊗ var 0 ⊗ lit (pos 1)) refl
          ∙ ap (λ x. x *ℤ w i *ℤ pos 1) (sym (unit_turned k i s false e)))

  signed_over : (t : Bool) (c : Frac) (r : GameRow) (i : ℕ) (D : ℤ) → IsQuotient c (cell r.cells i *ℤ w i) D → IsQuotient (signed_frac t c) (cell (signed_row t r).cells i *ℤ w i) D
  signed_over t c r i D h =
      subst (λ (x : ℤ). IsQuotient (signed_frac t c) x D) (sym (ap (λ x. x *ℤ w i) (signed_cell t r i) ∙ signed_times t (cell r.cells i) (w i))) (signed_quotient t c (cell r.cells i *ℤ w i) D h)

  lin_item : (l : Lin) (i : ℕ) → LinIsOver n l → IsQuotient (lin_cell pr l i) (cell (lin_row n (left_of pr) l).cells i *ℤ w i) n
  lin_item l i h = subst (λ (x : ℤ). IsQuotient (lin_cell pr l i) x n) (sym (settled (cell (lin_row n (left_of pr) l).cells i) i (λ a. lin_past n pr l i a))) (lin_over n pr l i h)

  -- ---- charges
  module _ (j : ℕ) (v : VarId) (below : place_of pr v < length pr.variables) where
    abbrev charge : Rule → List ℤ
    charge x = unit (multiplier_place (game n pr) j x.equation.at) (neg_ℤ (cell (lin_row n (left_of pr) x.row).cells (place_of pr v)))

    abbrev charged : List Rule → List ℤ
    charged rs = charges (game n pr) j (map (game_rule n (left_of pr)) rs) (place_of pr v)

    rule_over : (x : Rule) (at : ℕ) (c m : Frac) (X : ℤ) → LinIsOver n x.row → IsQuotient c X n → RuleGives pr j v.at at x c (Ok m) → IsQuotient m (X +ℤ cell (charge x) at) n
    rule_over x at c m X o h g = go (nat_eq (multiplier_place (shape pr) j x.equation.at) at) refl g
      where
        test : (t : Bool) → nat_eq (multiplier_place (shape pr) j x.equation.at) at ≡ t → nat_eq (multiplier_place (game n pr) j x.equation.at) at ≡ t
        test t e = ap (λ p. nat_eq p at) (multiplier_place_same n pr j x.equation.at) ∙ e

        go : (t : Bool) → nat_eq (multiplier_place (shape pr) j x.equation.at) at ≡ t → RuleBy t (linear_at x.row.linear v.at) c (Ok m) → IsQuotient m (X +ℤ cell (charge x) at) n
        go true e k =
            subst (λ (z : ℤ). IsQuotient m (X +ℤ z) n)
            (ap neg_ℤ (sym (lin_at_place n pr x.row v.at below)) ∙ sym (unit_by (multiplier_place (game n pr) j x.equation.at) at (neg_ℤ (cell (lin_row n (left_of pr) x.row).cells (place_of pr v))) true (test true e)))
            (less_over c (linear_at x.row.linear v.at) m X (times_over n (linear_at x.row.linear v.at)) n h (whole_quotient n (linear_at x.row.linear v.at) (o.linear v.at)) k.1)
        go false e k =
            let is : m ≡ c = cc in
            subst (λ (f : Frac). IsQuotient f (X +ℤ cell (charge x) at) n) (sym is)
            (subst (λ (z : ℤ). IsQuotient c z n) (by_ring (X ∷ []) (var 0) (var 0 ⊕ lit (pos 0)) refl ∙ ap (λ z. X +ℤ z) (sym (unit_by (multiplier_place (game n pr) j x.equation.at) at (neg_ℤ (cell (lin_row n (left_of pr) x.row).cells (place_of pr v))) false (test false e)))) h)

    charges_over : (rs : List Rule) (at : ℕ) (c d : Frac) (X : ℤ) → All (λ r. LinIsOver n r.row) rs → IsQuotient c X n → ChargesGive pr j v.at at rs c (Ok d) → IsQuotient d (X +ℤ cell (charged rs) at) n
    charges_over [] at c d X o h g =
        let is : d ≡ c = cc in
        subst (λ (f : Frac). IsQuotient f (X +ℤ pos 0) n) (sym is) (subst (λ (z : ℤ). IsQuotient c z n) (by_ring (X ∷ []) (var 0) (var 0 ⊕ lit (pos 0)) refl) h)
    charges_over (x ∷ rs) at c d X o h g =
        subst (λ (z : ℤ). IsQuotient d z n) (by_ring (X ∷ cell (charge x) at ∷ cell (charged rs) at ∷ []) (var 0 ⊕ var 1 ⊕ var 2) (var 0 ⊕ (var 1 ⊕ var 2)) refl ∙ ap (λ z. X +ℤ z) (sym (cell-add_rows (charge x) (charged rs) at)))
        (charges_over rs at g.0 d (X +ℤ cell (charge x) at) (All-tail (λ r. LinIsOver n r.row) x rs o) (rule_over x at c g.0 X (All-head (λ r. LinIsOver n r.row) x rs o) h g.1) g.2)

    charge_settled : (x : Rule) (at : ℕ) → cell (charge x) at *ℤ w at ≡ cell (charge x) at
    charge_settled x at = go (nat_eq (multiplier_place (game n pr) j x.equation.at) at) refl
      where
        go : (t : Bool) → nat_eq (multiplier_place (game n pr) j x.equation.at) at ≡ t → cell (charge x) at *ℤ w at ≡ cell (charge x) at
        go true e = let z : multiplier_place (game n pr) j x.equation.at ≡ at = eqb-true (multiplier_place (game n pr) j x.equation.at) at e in ap (λ y. cell (charge x) at *ℤ y) (ap w (sym z) ∙ multiplier_counts_once n pr fit.duals j x.equation.at) ∙ times_one (cell (charge x) at)
        go false e = let z = unit_by (multiplier_place (game n pr) j x.equation.at) at (neg_ℤ (cell (lin_row n (left_of pr) x.row).cells (place_of pr v))) false e in ap (λ y. y *ℤ w at) z ∙ (zero-*ℤ (w at) ∙ sym z)

    charges_settled : (rs : List Rule) (at : ℕ) → cell (charged rs) at *ℤ w at ≡ cell (charged rs) at
    charges_settled [] at = zero-*ℤ (w at)
    charges_settled (x ∷ rs) at =
        let e = cell-add_rows (charge x) (charged rs) at in
        ap (λ y. y *ℤ w at) e ∙ (+ℤ-*ℤ (cell (charge x) at) (cell (charged rs) at) (w at) ∙ (ap₂ (λ y z. y +ℤ z) (charge_settled x at) (charges_settled rs at) ∙ sym e))

    -- no charge on the number of a range
    charges_none : (rs : List Rule) (i k : ℕ) → index_base (range i k) (base_slots (game n pr)) < length (base_slots (game n pr)) → cell (charged rs) (range_place (game n pr) i k) ≡ pos 0
    charges_none [] i k h = refl
    charges_none (x ∷ rs) i k h =
        cell-add_rows (charge x) (charged rs) (range_place (game n pr) i k)
        ∙ ap₂ (λ y z. y +ℤ z)
        (unit_by (multiplier_place (game n pr) j x.equation.at) (range_place (game n pr) i k) (neg_ℤ (cell (lin_row n (left_of pr) x.row).cells (place_of pr v))) false (ne_eqb (multiplier_place (game n pr) j x.equation.at) (range_place (game n pr) i k) (λ q. multiplier_is_no_range n pr fit.duals j x.equation.at i k h q)))
        (charges_none rs i k h)

  -- ---- slopes
  part_over : (j : ℕ) → j < length pr.blocks → BlockIsOver n (part_at pr j)
  part_over j h = All-get_or (BlockIsOver n) pr.blocks j no_part h isover.blocks

  flow_there : (p : Purpose) (i : ℕ) → PurposeFits p i → FlowFits n pr p i
  flow_there (Aim q) i h = tt
  flow_there (Flow fs) i h = h

  abbrev start_row : ℕ → ℕ → GameRow
  start_row j i = function_of n (left_of pr) (part_at pr j).purpose i (own_place pr j i)

  abbrev own_charges : ℕ → ℕ → List ℤ
  own_charges j i = charges (game n pr) j (map (game_rule n (left_of pr)) (part_at pr j).rules) (own_place pr j i)

  slope_over : (j i at : ℕ) (d : Frac) → SlopeIn pr j i → SlopeGives pr j (part_at pr j) i at (Ok d) → IsQuotient d (cell (slope n pr j i).cells at *ℤ w at) n
  slope_over j i at d h g =
      let o = part_over j h.fits.block in
      let start = start_over n pr (part_at pr j) i at g.0 o.purpose (flow_there (part_at pr j).purpose i h.fits.purpose) h.place g.1 in
      let whole_cell = charges_over j (own_at (part_at pr j).own i) h.place (part_at pr j).rules at g.0 d (cell (start_row j i).cells at) o.rules start g.2 in
      let e = cell-add_rows (start_row j i).cells (own_charges j i) at in
      subst (λ (x : ℤ). IsQuotient d x n)
      (sym (ap (λ x. x *ℤ w at) e ∙ (+ℤ-*ℤ (cell (start_row j i).cells at) (cell (own_charges j i) at) (w at)
      ∙ ap₂ (λ x y. x +ℤ y) (settled (cell (start_row j i).cells at) at (λ a. function_past n pr (part_at pr j).purpose i at (own_at (part_at pr j).own i).at h.place a)) (charges_settled j (own_at (part_at pr j).own i) h.place (part_at pr j).rules at))))
      whole_cell

  slope_constant_over : (j i : ℕ) → SlopeIn pr j i → IsQuotient (slope_constant pr j i) (slope n pr j i).constant n
  slope_constant_over j i h = constant_over n pr (part_at pr j).purpose i (own_at (part_at pr j).own i).at (part_over j h.fits.block).purpose (flow_there (part_at pr j).purpose i h.fits.purpose) h.place

  -- ---- the slope plus the number of a range
  raised_over : (j i z at : ℕ) (d : Frac) → RaisedIn pr j i z → CellGives pr (Raised j i z) at (Ok d) → IsQuotient d (cell (item_row n pr (Raised j i z)).cells at *ℤ w at) n
  raised_over j i z at d h g = go (nat_eq at z) refl g
    where
      place : z ≡ range_place (game n pr) j h.k
      place = h.is ∙ sym (range_place_same n pr j h.k)

      there : index_base (range j h.k) (base_slots (game n pr)) < length (base_slots (game n pr))
      there = subst (λ bs. index_base (range j h.k) bs < length bs) (sym (base_same n pr)) h.there

      sum : (i' : ℕ) → cell (item_row n pr (Raised j i z)).cells i' ≡ cell (slope n pr j i).cells i' +ℤ cell (unit z (pos 1)) i'
      sum i' = cell-add_rows (slope n pr j i).cells (unit z (pos 1)) i'

      weighs : w z ≡ n
      weighs = ap w place ∙ (weight_high n (coordinates (game n pr)) (base_slots (game n pr)) (index_base (range j h.k) (base_slots (game n pr))) ∙ range_weight n j h.k (base_slots (game n pr)) there)

      nothing : cell (slope n pr j i).cells z ≡ pos 0
      nothing =
          cell-add_rows (start_row j i).cells (own_charges j i) z
          ∙ ap₂ (λ x y. x +ℤ y)
          (function_past n pr (part_at pr j).purpose i z (own_at (part_at pr j).own i).at h.slope.place (let y = coordinates_are pr in omega (arith, y, place)))
          (ap (λ p. cell (own_charges j i) p) place ∙ charges_none j (own_at (part_at pr j).own i) h.slope.place (part_at pr j).rules j h.k there)

      go : (t : Bool) → nat_eq at z ≡ t → RaisedBy t (SlopeGives pr j (part_at pr j) i at) (Ok d) → IsQuotient d (cell (item_row n pr (Raised j i z)).cells at *ℤ w at) n
      go true e k =
          let is : d ≡ whole 1 = cc in
          let here : at ≡ z = eqb-true at z e in
          let value : cell (item_row n pr (Raised j i z)).cells at *ℤ w at ≡ n =
          ap (λ p. cell (item_row n pr (Raised j i z)).cells p *ℤ w p) here ∙ (ap (λ x. x *ℤ w z) (sum z ∙ ap₂ (λ x y. x +ℤ y) nothing (unit_by z z (pos 1) true (eq-eqb z z refl))) ∙ (ap (λ x. (pos 0 +ℤ pos 1) *ℤ x) weighs ∙ by_ring (n ∷ []) ((lit (pos 0) ⊕ lit (pos 1)) ⊗ var 0) (var 0) refl)) in
          subst (λ (f : Frac). IsQuotient f (cell (item_row n pr (Raised j i z)).cells at *ℤ w at) n) (sym is)
          (subst (λ (x : ℤ). IsQuotient (whole 1) x n) (sym value) (*ℤ_comm (pos 1) n))
      go false e k =
          subst (λ (x : ℤ). IsQuotient d (x *ℤ w at) n)
          (by_ring (cell (slope n pr j i).cells at ∷ []) (var 0) (var 0 ⊕ lit (pos 0)) refl ∙ (ap (λ x. cell (slope n pr j i).cells at +ℤ x) (sym (unit_turned z at (pos 1) false e)) ∙ sym (sum at)))
          (slope_over j i at d h.slope k)

  -- ---- items
  abbrev denominator : Item → ℤ
  denominator (Low k a) = a.den
  denominator (High k b) = b.den
  denominator (Slope j i turned) = n
  denominator (Raised j i z) = n
  denominator (Row j i turned) = n
  denominator (LeaderRow i turned) = n
  denominator Goal = n
  denominator (Alone k turned) = w k

  denominator_above : (item : Item) → pos 0 <ℤ denominator item
  denominator_above (Low k a) = a.positive
  denominator_above (High k b) = b.positive
  denominator_above (Slope j i turned) = isover.positive
  denominator_above (Raised j i z) = isover.positive
  denominator_above (Row j i turned) = isover.positive
  denominator_above (LeaderRow i turned) = isover.positive
  denominator_above Goal = isover.positive
  denominator_above (Alone k turned) = weight_above n (coordinates (game n pr)) (base_slots (game n pr)) k isover.positive

  rule_is_over : (j i : ℕ) → j < length pr.blocks → i < length (part_at pr j).rules → LinIsOver n (rule_at (part_at pr j).rules i).row
  rule_is_over j i h l = All-get_or (λ r. LinIsOver n r.row) (part_at pr j).rules i no_rule l (part_over j h).rules

  leader_rule_is_over : (o : Option LeaderPart) → LeaderIsOver n o → (i : ℕ) → i < length (leader_rules o) → LinIsOver n (rule_at (leader_rules o) i).row
  leader_rule_is_over None h i l = absurd (omega (arith, l))
  leader_rule_is_over (Some p) h i l = All-get_or (λ r. LinIsOver n r.row) p.rules i no_rule l h.1

  none_is_over : LinIsOver n no_lin
  none_is_over = record { constant = ap (λ z. z *ℤ pos 1) (zero_over n) ∙ (zero-*ℤ (pos 1) ∙ sym (*ℤ-zero n)); linear = λ v. ap (λ z. z *ℤ pos 1) (zero_over n) ∙ (zero-*ℤ (pos 1) ∙ sym (*ℤ-zero n)) }

  goal_is_over : (o : Option LeaderPart) → LeaderIsOver n o → LinIsOver n (leader_goal o)
  goal_is_over None h = none_is_over
  goal_is_over (Some p) h = h.0

  high_cell : (k at : ℕ) (b : Frac) → neg_ℤ (cell (unit k b.den) at *ℤ w at) ≡ cell (unit k (neg_ℤ b.den)) at *ℤ w at
  high_cell k at b = sym (neg_ℤ-*ℤ (cell (unit k b.den) at) (w at)) ∙ ap (λ x. x *ℤ w at) (sym (unit_neg k at b.den))

  end_weight : (k : ℕ) (s : ℤ) → k < length pr.variables → s *ℤ w k ≡ s
  end_weight k s h = ap (λ x. s *ℤ x) (w_low k h) ∙ times_one s

  cell_over : (item : Item) (at : ℕ) (c : Frac) → ItemIn pr item → CellGives pr item at (Ok c) → IsQuotient c (cell (item_row n pr item).cells at *ℤ w at) (denominator item)
  cell_over (Low k a) at c h g =
      let is : c ≡ unit_frac k at = cc in
      subst (λ (f : Frac). IsQuotient f (cell (unit k a.den) at *ℤ w at) a.den) (sym is) (unit_over k at a.den a.den (end_weight k a.den h))
  cell_over (High k b) at c h g =
      let is : c ≡ signed_frac true (unit_frac k at) = cc in
      subst (λ (f : Frac). IsQuotient f (cell (unit k (neg_ℤ b.den)) at *ℤ w at) b.den) (sym is)
      (subst (λ (x : ℤ). IsQuotient (signed_frac true (unit_frac k at)) x b.den) (high_cell k at b) (signed_quotient true (unit_frac k at) (cell (unit k b.den) at *ℤ w at) b.den (unit_over k at b.den b.den (end_weight k b.den h))))
  cell_over (Slope j i turned) at c h g =
      subst (λ (f : Frac). IsQuotient f (cell (signed_row turned (slope n pr j i)).cells at *ℤ w at) n) (sym g.2) (signed_over turned g.0 (slope n pr j i) at n (slope_over j i at g.0 h g.1))
  cell_over (Raised j i z) at c h g = raised_over j i z at c h g
  cell_over (Row j i turned) at c h g =
      let is : c ≡ signed_frac turned (lin_cell pr (rule_at (part_at pr j).rules i).row at) = cc in
      subst (λ (f : Frac). IsQuotient f (cell (item_row n pr (Row j i turned)).cells at *ℤ w at) n) (sym is)
      (signed_over turned (lin_cell pr (rule_at (part_at pr j).rules i).row at) (lin_row n (left_of pr) (rule_at (part_at pr j).rules i).row) at n (lin_item (rule_at (part_at pr j).rules i).row at (rule_is_over j i h.0 h.1)))
  cell_over (LeaderRow i turned) at c h g =
      let is : c ≡ signed_frac turned (lin_cell pr (rule_at (leader_rules pr.leader) i).row at) = cc in
      subst (λ (f : Frac). IsQuotient f (cell (item_row n pr (LeaderRow i turned)).cells at *ℤ w at) n) (sym is)
      (signed_over turned (lin_cell pr (rule_at (leader_rules pr.leader) i).row at) (lin_row n (left_of pr) (rule_at (leader_rules pr.leader) i).row) at n (lin_item (rule_at (leader_rules pr.leader) i).row at (leader_rule_is_over pr.leader isover.leads i h)))
  cell_over Goal at c h g =
      let is : c ≡ lin_cell pr (leader_goal pr.leader) at = cc in
      subst (λ (f : Frac). IsQuotient f (cell (item_row n pr Goal).cells at *ℤ w at) n) (sym is) (lin_item (leader_goal pr.leader) at (goal_is_over pr.leader isover.leads))
  cell_over (Alone k turned) at c h g =
      let is : c ≡ signed_frac turned (unit_frac k at) = cc in
      subst (λ (f : Frac). IsQuotient f (cell (item_row n pr (Alone k turned)).cells at *ℤ w at) (w k)) (sym is)
      (signed_over turned (unit_frac k at) (variable k) at (w k) (unit_over k at (pos 1) (w k) (by_ring (w k ∷ []) (lit (pos 1) ⊗ var 0) (var 0) refl)))

  signed_constant_over : (t : Bool) (c : Frac) (r : GameRow) → IsQuotient c r.constant n → IsQuotient (signed_frac t c) (signed_row t r).constant n
  signed_constant_over t c r h = subst (λ (x : ℤ). IsQuotient (signed_frac t c) x n) (sym (signed_constant t r)) (signed_quotient t c r.constant n h)

  alone_constant : (t : Bool) (k : ℕ) → (signed_row t (variable k)).constant ≡ pos 0
  alone_constant true k = refl
  alone_constant false k = refl

  item_constant_over : (item : Item) → ItemIn pr item → IsQuotient (constant_of pr item) (item_row n pr item).constant (denominator item)
  item_constant_over (Low k a) h = refl
  item_constant_over (High k b) h = refl
  item_constant_over (Slope j i turned) h = signed_constant_over turned (slope_constant pr j i) (slope n pr j i) (slope_constant_over j i h)
  item_constant_over (Raised j i z) h = subst (λ (x : ℤ). IsQuotient (slope_constant pr j i) x n) (by_ring ((slope n pr j i).constant ∷ []) (var 0) (var 0 ⊕ lit (pos 0)) refl) (slope_constant_over j i h.slope)
  item_constant_over (Row j i turned) h = signed_constant_over turned (rule_at (part_at pr j).rules i).row.constant (lin_row n (left_of pr) (rule_at (part_at pr j).rules i).row) (whole_quotient n (rule_at (part_at pr j).rules i).row.constant (rule_is_over j i h.0 h.1).constant)
  item_constant_over (LeaderRow i turned) h = signed_constant_over turned (rule_at (leader_rules pr.leader) i).row.constant (lin_row n (left_of pr) (rule_at (leader_rules pr.leader) i).row) (whole_quotient n (rule_at (leader_rules pr.leader) i).row.constant (leader_rule_is_over pr.leader isover.leads i h).constant)
  item_constant_over Goal h = whole_quotient n (leader_goal pr.leader).constant (goal_is_over pr.leader isover.leads).constant
  item_constant_over (Alone k turned) h = subst (λ (x : ℤ). IsQuotient (whole 0) x (w k)) (sym (alone_constant turned k)) (zero_quotient (w k))

  -- ---- quantities
  are_over : (D : ℤ) (a : ℕ → ℤ) (cells : List Frac) → ((i : ℕ) (f : Frac) → i < length cells → IsQuotient (get_or cells i f) (a i) D) → AreOver D cells a
  are_over D a [] h = tt
  are_over D a (c ∷ cells) h = (h 0 c (omega arith), are_over D (λ i. a (suc i)) cells (λ i f l. h (suc i) f (omega (arith, l))))

  pub item_multiple : (N : ℕ) (item : Item) (q : Affine) → N ≡ coordinates (game n pr) + length (base_slots (game n pr)) → ItemIn pr item → IsMadeOf pr N item q → IsMultipleOver n (game n pr) q (item_row n pr item)
  item_multiple N item q e h m = record {
    top = v.top;
    bottom = v.bottom;
    top_positive = v.top_positive;
    bottom_positive = v.bottom_positive;
    equal = λ d xs l. v.equal d xs ∙ ap (λ z. v.top *ℤ ((item_row n pr item).constant *ℤ d +ℤ z)) (firsts_dot n (coordinates (game n pr)) (base_slots (game n pr)) (length m.cells) (item_row n pr item).cells xs (l ∙ sym (m.are.count ∙ e)));
  }
    where
      v : IsValue q (item_row n pr item).constant (firsts (length m.cells) (λ i. cell (item_row n pr item).cells i *ℤ w i))
      v = made_over m.cells (constant_of pr item) q (denominator item) (item_row n pr item).constant (λ i. cell (item_row n pr item).cells i *ℤ w i) m.made (denominator_above item)
          (are_over (denominator item) (λ i. cell (item_row n pr item).cells i *ℤ w i) m.cells (λ i f l. cell_over item i (get_or m.cells i f) h (m.are.each i f (subst (λ k. i < k) m.are.count l))))
          (item_constant_over item h)

  pub items_multiples : (N : ℕ) (is : List Item) (qs : List Affine) → N ≡ coordinates (game n pr) + length (base_slots (game n pr)) → All (ItemIn pr) is → AreMadeOf pr N is qs → AreMultiplesOver n (game n pr) qs (map (item_row n pr) is)
  items_multiples N [] [] e h m = tt
  items_multiples N [] (q ∷ qs) e h m = absurd m
  items_multiples N (i ∷ is) [] e h m = absurd m
  items_multiples N (i ∷ is) (q ∷ qs) e h m = (item_multiple N i q e (All-head (ItemIn pr) i is h) m.0, items_multiples N is qs e (All-tail (ItemIn pr) i is h) m.1)
