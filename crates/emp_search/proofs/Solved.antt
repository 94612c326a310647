-- A settled node without a pair whose members are both above 0 has a row point, and one whose ray keeps all pairs a row ray.
use Rattle.std.proofs.Common.{◌≡◌, ◌≢◌, ℕ, zero, suc, ◌+◌, ◌-◌, ◌<◌, ◌≤◌, ◌⊎◌, inl, inr, ℤ, pos, negsuc, ◌*ℤ◌, ◌≤ℤ◌, ◌<ℤ◌, Bool, true, false, cond, ◌||◌, not, List, [], ◌∷◌, length, get_or, Option, Some, None, arith, refl, sym, ap, subst, ◌∙◌}
use Rattle.std.proofs.lemmas.Bool.{and_cases, or_cases, and_parts}
use Rattle.std.proofs.lemmas.List.{get_or_default}
use lib.IntN.{zero-*ℤ, *ℤ-zero}
use Rattle.std.proofs.lemmas.Int.{ints}
use Rattle.emp_algebra.proofs.Ring.{var, lit, ◌⊕◌, ◌⊗◌, by_ring}
use Rattle.emp_algebra.proofs.Order.{linear, cancel_right, le_cancel_right, mul_lt_right}
use Rattle.emp_algebra.proofs.Laws.{mul_nonneg}
use Rattle.emp_algebra.specs.Vector.{dot, is_zero}
use Rattle.emp_algebra.specs.Deciding.{IsOfKind}
use Rattle.emp_line.proofs.Exchange.{is_zero-true}
use Rattle.emp_num.specs.Point.{Point, StandsFor}
use Rattle.emp_num.specs.declared.frac.Frac.{Frac}
use Rattle.emp_rows.specs.declared.affine.Affine.{Affine}
use Rattle.emp_rows.specs.declared.system.Kind.{Kind}
use Rattle.emp_rows.specs.declared.system.Kind.TheVariants.{Zero, Nonneg}
use Rattle.emp_rows.specs.declared.system.RowSystem.{RowSystem}
use Rattle.emp_rows.specs.RowPoints.{sort_of, no_row, quantity, value_at, rate_along, AreOfKind, OneVanishes, Solves}
use Rattle.emp_cert.specs.declared.tree.Turn.{Turn}
use Rattle.emp_cert.specs.Verdicts.{RatesOfKind, StaysZero, OneStays, IsRowRay}
use Rattle.emp_turns.specs.Choice.{Way, toward, MayMove}
use Rattle.emp_turns.specs.Choice.{Up as upward, Down as downward}
use Rattle.emp_dict.specs.declared.label.Label.TheVariants.{Quantity, Objective}
use Rattle.emp_dict.specs.declared.label.Mark.{Mark}
use Rattle.emp_dict.specs.declared.label.Mark.TheVariants.{Unasked, Required, Fixed}
use Rattle.emp_dict.specs.declared.label.Aim.TheVariants.{Least}
use Rattle.emp_dict.specs.declared.label.Choice.TheVariants.{Ray as RayChoice}
use Rattle.emp_dict.specs.Dictionary.{Dictionary, line_at, cell_at, row_label, column_label, mark_at, row_of, label_eq, affine_value, objective_value}
use Rattle.emp_dict.specs.Chosen.{chosen, index_in, mark_by_index, turn_mark, is_up}
use Rattle.emp_dict.specs.Places.{is_positive}
use Rattle.emp_dict.proofs.Starts.{label_quantity}
use Rattle.emp_step.specs.Steps.{mark_of_label}
use Rattle.emp_dict.proofs.Labels.{label_eq-true}
use Rattle.emp_step.proofs.Labels.{RowIs, row_found, row_none}
use Rattle.emp_step.proofs.Marks.{mark_quantity, fixed_index}
use Rattle.emp_decide.specs.Reads.{value_by, value_of, IsPointOf, way, rate_by, rate_of, IsStepOf}
use Rattle.emp_decide.specs.Laws.{IsDictionaryOf, IsLabelOf}
use Rattle.emp_decide.proofs.Points.{points_tell, steps_tell, bottom_pos, rate_bottom_pos}
use Rattle.emp_decide.proofs.Decides.{has_objective}
use Rattle.emp_search.specs.Search.{above_by, above, both_above, still_by, still, is_broken}
use Rattle.emp_search.specs.Nodes.{IsSettled}
use Rattle.emp_search.proofs.Outcomes.{Rays, rays}

-- ---- signs through a ratio: x b = r k with b and k above 0
zero_through : (x b r k : ℤ) → pos 0 <ℤ b → x *ℤ b ≡ r *ℤ k → r ≡ pos 0 → x ≡ pos 0
zero_through x b r k pb e z = cancel_right x (pos 0) b (e ∙ (ap (λ y. y *ℤ k) z ∙ (zero-*ℤ k ∙ sym (zero-*ℤ b)))) pb

nonneg_through : (x b r k : ℤ) → pos 0 <ℤ b → pos 0 <ℤ k → x *ℤ b ≡ r *ℤ k → pos 0 ≤ℤ r → pos 0 ≤ℤ x
nonneg_through x b r k pb pk e h = le_cancel_right (pos 0) x b (rw (zero-*ℤ b, e) (mul_nonneg r k h (omega (arith, ints)))) pb

neg_through : (x b r k : ℤ) → pos 0 <ℤ b → pos 0 <ℤ k → x *ℤ b ≡ r *ℤ k → r <ℤ pos 0 → x <ℤ pos 0
neg_through x b r k pb pk e h =
    let m : (r *ℤ k) <ℤ (pos 0 *ℤ k) = mul_lt_right r (pos 0) k h pk in
    let z = zero-*ℤ k in
    not_nonneg x (λ q. let n : pos 0 ≤ℤ (x *ℤ b) = mul_nonneg x b q (omega (arith, ints)) in omega (arith, linear))
  where
    not_nonneg : (y : ℤ) → (pos 0 ≤ℤ y → ⊥) → y <ℤ pos 0
    not_nonneg (pos y) f = absurd (f (omega (arith, ints)))
    not_nonneg (negsuc y) f = omega (arith, ints)

-- ---- pointwise to lists
kinds_at : (qs : List Affine) (ts : List Kind) (x : Point) → length ts ≡ length qs → ((i : ℕ) → i < length qs → IsOfKind (sort_of (get_or ts i Zero)) (value_at (get_or qs i no_row) x)) → AreOfKind qs ts x
kinds_at [] ts x e h = tt
kinds_at (q ∷ qs) [] x e h = tt
kinds_at (q ∷ qs) (t ∷ ts) x e h = (h 0 (omega arith), kinds_at qs ts x (omega arith) (λ i b. h (suc i) (omega arith)))

rates_at : (qs : List Affine) (ts : List Kind) (x : Point) → length ts ≡ length qs → ((i : ℕ) → i < length qs → IsOfKind (sort_of (get_or ts i Zero)) (rate_along (get_or qs i no_row) x)) → RatesOfKind qs ts x
rates_at [] ts x e h = tt
rates_at (q ∷ qs) [] x e h = tt
rates_at (q ∷ qs) (t ∷ ts) x e h = (h 0 (omega arith), rates_at qs ts x (omega arith) (λ i b. h (suc i) (omega arith)))

module _ (s : RowSystem) (p : List Turn) (d : Dictionary) (st : IsSettled s p d) where
  abbrev t : IsDictionaryOf s d
  t = st.node.dictionary

  label_is : (k : ℕ) → 0 < k → k ≤ length s.quantities → IsLabelOf d (Quantity k)
  label_is k a l = label_quantity (length d.columns) (length d.marks) (length d.rows) k a (let m = t.marks in omega arith)

  -- the dictionary's value of a Required quantity is at least 0, that of a Fixed one 0
  value_kind : (k : ℕ) → 0 < k → k ≤ length s.quantities → (o : Option ℕ) → row_of d (Quantity k) ≡ o → (mark_at d k ≡ Fixed → (value_by d o).top ≡ pos 0) × (pos 0 ≤ℤ (value_by d o).top)
  value_kind k a l None e = (λ f. refl, omega (arith, ints))
  value_kind k a l (Some i) e = (λ f. st.node.level.fixed i k r.below r.label f, by (mark_at d k) refl)
    where
      r : RowIs d (Quantity k) i
      r = row_found d (Quantity k) i e

      by : (m : Mark) → mark_at d k ≡ m → pos 0 ≤ℤ (line_at d i).constant
      by Unasked q = absurd ((st.all k a l).asked q)
      by Required q = st.node.level.required i k r.below r.label q
      by Fixed q = let z = st.node.level.fixed i k r.below r.label q in omega (arith, ints)

  kind_fixed : (k : ℕ) → 0 < k → k ≤ length s.quantities → get_or s.kinds (k - 1) Zero ≡ Zero → mark_at d k ≡ Fixed
  kind_fixed k a l e = (st.all k a l).zero_fixed (get_or_default s.kinds (k - 1) Nonneg Zero (let o = s.sound.one_kind_each in omega arith) ∙ e)

  -- ---- the point
  module _ (fs : List Frac) (x : Point) (is : IsPointOf d fs) (stands : StandsFor fs x) where
    told : (k : ℕ) → 0 < k → k ≤ length s.quantities → value_at (quantity s k) x *ℤ (value_of d (Quantity k)).bottom ≡ (value_of d (Quantity k)).top *ℤ x.den
    told k a l = points_tell s d fs x t is stands (Quantity k) (label_is k a l)

    bottom : (k : ℕ) → pos 0 <ℤ (value_of d (Quantity k)).bottom
    bottom k = bottom_pos d t.sound (Quantity k)

    pub zero_value : (k : ℕ) → 0 < k → k ≤ length s.quantities → (value_of d (Quantity k)).top ≡ pos 0 → value_at (quantity s k) x ≡ pos 0
    zero_value k a l z = zero_through (value_at (quantity s k) x) (value_of d (Quantity k)).bottom (value_of d (Quantity k)).top x.den (bottom k) (told k a l) z

    of_kind : (k : ℕ) → 0 < k → k ≤ length s.quantities → (v : Kind) → get_or s.kinds (k - 1) Zero ≡ v → IsOfKind (sort_of v) (value_at (quantity s k) x)
    of_kind k a l Zero e = zero_value k a l ((value_kind k a l (row_of d (Quantity k)) refl).0 (kind_fixed k a l e))
    of_kind k a l Nonneg e = nonneg_through (value_at (quantity s k) x) (value_of d (Quantity k)).bottom (value_of d (Quantity k)).top x.den (bottom k) x.positive (told k a l) (value_kind k a l (row_of d (Quantity k)) refl).1

    -- a member that is not above 0 is 0
    not_above : (k : ℕ) → 0 < k → k ≤ length s.quantities → above d k ≡ false → value_at (quantity s k) x ≡ pos 0
    not_above k a l e = zero_value k a l (go (row_of d (Quantity k)) e (value_kind k a l (row_of d (Quantity k)) refl).1)
      where
        sign : (z : ℤ) → is_positive z ≡ false → pos 0 ≤ℤ z → z ≡ pos 0
        sign (pos zero) q h = refl
        sign (pos (suc n)) q h = absurd (cc)
        sign (negsuc n) q h = absurd h.le

        go : (o : Option ℕ) → above_by d o ≡ false → pos 0 ≤ℤ (value_by d o).top → (value_by d o).top ≡ pos 0
        go None q h = refl
        go (Some i) q h = sign (line_at d i).constant q h

    pub solves_by : ((k : ℕ) → k < length s.pairs → OneVanishes s x (get_or s.pairs k (0, 0))) → Solves s x
    solves_by pairs = record {
      count = stands.count ∙ (is.count ∙ t.columns);
      kinds = kinds_at s.quantities s.kinds x s.sound.one_kind_each (λ i b.
          let e : 1 + i - 1 ≡ i = omega arith in
          subst (λ j. IsOfKind (sort_of (get_or s.kinds j Zero)) (value_at (get_or s.quantities j no_row) x)) e (of_kind (1 + i) (omega arith) (omega arith) (get_or s.kinds (1 + i - 1) Zero) refl));
      pairs = pairs;
    }

    pub one_vanishes : (a b : ℕ) → (0 < a) × (a ≤ length s.quantities) → (0 < b) × (b ≤ length s.quantities) → both_above d (a, b) ≡ false → OneVanishes s x (a, b)
    one_vanishes a b ha hb e = go (and_cases (above d a) (above d b) e)
      where
        go : (above d a ≡ false) ⊎ (above d b ≡ false) → OneVanishes s x (a, b)
        go (inl q) = inl (not_above a ha.0 ha.1 q)
        go (inr q) = inr (not_above b hb.0 hb.1 q)

  -- ---- the ray
  module _ (j : ℕ) (up : Bool) (o : Affine) (objective : s.objective ≡ Some o) (ray : chosen d Least ≡ RayChoice j up) where
    abbrev r : Rays d Least j up
    r = rays d Least j up ray

    in_columns : j < length d.columns
    in_columns = r.opens.below

    way_same : (g : Way) → is_up g ≡ up → toward g ≡ way up
    way_same upward e = ap way e
    way_same downward e = ap way e

    pub loose : mark_of_label d (column_label d j) ≢ Fixed
    loose z = subst (λ m. MayMove m r.way) (fixed_index d (column_label d j) z) r.opens.moves

    -- a column that is Required moves up
    column_up : (k : ℕ) → column_label d j ≡ Quantity k → mark_at d k ≢ Unasked → way up ≡ pos 1
    column_up k e n = by (mark_at d k) refl r.way r.is r.opens.moves
      where
        by : (m : Mark) → mark_at d k ≡ m → (g : Way) → is_up g ≡ up → MayMove (mark_by_index d (index_in d (column_label d j))) g → way up ≡ pos 1
        by Unasked q g u h = absurd (n q)
        by Required q upward u h = ap way (sym u)
        by Required q downward u h = absurd (subst (λ m. MayMove m downward) (ap (λ w. mark_by_index d (index_in d w)) e ∙ (mark_quantity d k ∙ ap turn_mark q)) h)
        by Fixed q g u h = absurd (loose (ap (mark_of_label d) e ∙ q))

    rate_kind : (k : ℕ) → 0 < k → k ≤ length s.quantities → (w : Option ℕ) → row_of d (Quantity k) ≡ w → (mark_at d k ≡ Fixed → (rate_by d j up (label_eq (Quantity k) (column_label d j)) w).top ≡ pos 0) × (pos 0 ≤ℤ (rate_by d j up (label_eq (Quantity k) (column_label d j)) w).top)
    rate_kind k a l None e = go (label_eq (Quantity k) (column_label d j)) refl
      where
        go : (b : Bool) → label_eq (Quantity k) (column_label d j) ≡ b → (mark_at d k ≡ Fixed → cond b (way up) (pos 0) ≡ pos 0) × (pos 0 ≤ℤ (cond b (way up) (pos 0)))
        go false q = (λ f. refl, omega (arith, ints))
        go true q =
            let same : Quantity k ≡ column_label d j = label_eq-true (Quantity k) (column_label d j) q in
            (λ f. absurd (loose (ap (mark_of_label d) (sym same) ∙ f)), let u = column_up k (sym same) (st.all k a l).asked in omega (arith, ints))
    rate_kind k a l (Some i) e = (λ f. fixed_rate f, by (mark_at d k) refl)
      where
        w : RowIs d (Quantity k) i
        w = row_found d (Quantity k) i e

        fixed_rate : mark_at d k ≡ Fixed → way up *ℤ cell_at d i j ≡ pos 0
        fixed_rate f = ap (λ z. way up *ℤ z) (st.node.level.still i k j w.below w.label f in_columns loose) ∙ *ℤ-zero (way up)

        by : (m : Mark) → mark_at d k ≡ m → pos 0 ≤ℤ (way up *ℤ cell_at d i j)
        by Unasked q = absurd ((st.all k a l).asked q)
        by Required q = not_below (way up *ℤ cell_at d i j) (λ h. r.stops i (record { below = w.below; why = inl (ap (λ v. mark_by_index d (index_in d v)) w.label ∙ (mark_quantity d k ∙ ap turn_mark q), subst (λ g. (g *ℤ cell_at d i j) <ℤ pos 0) (sym (way_same r.way r.is)) h) }))
          where
            not_below : (z : ℤ) → (z <ℤ pos 0 → ⊥) → pos 0 ≤ℤ z
            not_below (pos z) f = omega (arith, ints)
            not_below (negsuc z) f = absurd (f (omega (arith, ints)))
        by Fixed q = let z = fixed_rate q in omega (arith, ints)

    module _ (fs gs : List Frac) (x y : Point) (is : IsPointOf d fs) (step : IsStepOf d j up gs) (stands : StandsFor fs x) (steps : StandsFor gs y) where
      rate_is : (q : Affine) → affine_value q (pos 0) y.nums ≡ rate_along q y
      rate_is q = by_ring (q.constant ∷ dot q.cells y.nums ∷ []) (var 0 ⊗ lit (pos 0) ⊕ var 1) (var 1) refl

      rate_told : (k : ℕ) → 0 < k → k ≤ length s.quantities → rate_along (quantity s k) y *ℤ (rate_of d j up (Quantity k)).bottom ≡ (rate_of d j up (Quantity k)).top *ℤ y.den
      rate_told k a l = ap (λ z. z *ℤ (rate_of d j up (Quantity k)).bottom) (sym (rate_is (quantity s k))) ∙ steps_tell s d j up gs y t in_columns step steps (Quantity k) (label_is k a l)

      zero_rate : (k : ℕ) → 0 < k → k ≤ length s.quantities → (rate_of d j up (Quantity k)).top ≡ pos 0 → rate_along (quantity s k) y ≡ pos 0
      zero_rate k a l z = zero_through (rate_along (quantity s k) y) (rate_of d j up (Quantity k)).bottom (rate_of d j up (Quantity k)).top y.den (rate_bottom_pos d j up t.sound (Quantity k)) (rate_told k a l) z

      rate_of_kind : (k : ℕ) → 0 < k → k ≤ length s.quantities → (v : Kind) → get_or s.kinds (k - 1) Zero ≡ v → IsOfKind (sort_of v) (rate_along (quantity s k) y)
      rate_of_kind k a l Zero e = zero_rate k a l ((rate_kind k a l (row_of d (Quantity k)) refl).0 (kind_fixed k a l e))
      rate_of_kind k a l Nonneg e = nonneg_through (rate_along (quantity s k) y) (rate_of d j up (Quantity k)).bottom (rate_of d j up (Quantity k)).top y.den (rate_bottom_pos d j up t.sound (Quantity k)) y.positive (rate_told k a l) (rate_kind k a l (row_of d (Quantity k)) refl).1

      -- a member that stays 0
      stays : (k : ℕ) → 0 < k → k ≤ length s.quantities → still d j k ≡ true → StaysZero (quantity s k) x y
      stays k a l e = let z = go (row_of d (Quantity k)) e in (zero_value fs x is stands k a l z.0, zero_rate k a l z.1)
        where
          own : (b : Bool) → not b ≡ true → cond b (way up) (pos 0) ≡ pos 0
          own true q = absurd (cc)
          own false q = refl

          go : (w : Option ℕ) → still_by d j (label_eq (Quantity k) (column_label d j)) w ≡ true → ((value_by d w).top ≡ pos 0) × ((rate_by d j up (label_eq (Quantity k) (column_label d j)) w).top ≡ pos 0)
          go None q = (refl, own (label_eq (Quantity k) (column_label d j)) q)
          go (Some i) q = let h = and_parts (is_zero (line_at d i).constant) (is_zero (cell_at d i j)) q in (is_zero-true (line_at d i).constant h.0, ap (λ z. way up *ℤ z) (is_zero-true (cell_at d i j) h.1) ∙ *ℤ-zero (way up))

      one_stays : (a b : ℕ) → (0 < a) × (a ≤ length s.quantities) → (0 < b) × (b ≤ length s.quantities) → is_broken d j (a, b) ≡ false → OneStays s x y (a, b)
      one_stays a b ha hb e = go (or_cases (still d j a) (still d j b) (kept (still d j a || still d j b) e))
        where
          kept : (c : Bool) → not c ≡ false → c ≡ true
          kept true q = refl
          kept false q = absurd (cc)

          go : (still d j a ≡ true) ⊎ (still d j b ≡ true) → OneStays s x y (a, b)
          go (inl q) = inl (stays a ha.0 ha.1 q)
          go (inr q) = inr (stays b hb.0 hb.1 q)

      vanishes : (a b : ℕ) → OneStays s x y (a, b) → OneVanishes s x (a, b)
      vanishes a b (inl h) = inl h.0
      vanishes a b (inr h) = inr h.0

      objective_falls : (q : Affine) → s.objective ≡ Some q → rate_along q y <ℤ pos 0
      objective_falls q e =
          let there = has_objective s d o t objective in
          let label : row_label d (length d.marks) ≡ Objective = t.sound.objective there in
          let is_label : IsLabelOf d Objective = subst (λ v. IsLabelOf d v) label (t.sound.row_labels (length d.marks) there) in
          let h = steps_tell s d j up gs y t in_columns step steps Objective is_label in
          let v : objective_value s.objective (pos 0) y.nums ≡ rate_along q y = ap (λ f. objective_value f (pos 0) y.nums) e ∙ rate_is q in
          neg_through (rate_along q y) (rate_of d j up Objective).bottom (rate_of d j up Objective).top y.den (rate_bottom_pos d j up t.sound Objective) y.positive (ap (λ z. z *ℤ (rate_of d j up Objective).bottom) (sym v) ∙ h) (falls (row_of d Objective) refl there label)
        where
          less : (g : Way) (z : ℤ) → pos 0 <ℤ (toward downward *ℤ (toward g *ℤ z)) → (toward g *ℤ z) <ℤ pos 0
          less g z h = omega (arith, ints)

          falls : (w : Option ℕ) → row_of d Objective ≡ w → length d.marks < length d.rows → row_label d (length d.marks) ≡ Objective → (rate_by d j up (label_eq Objective (column_label d j)) w).top <ℤ pos 0
          falls None e there label = absurd (row_none d Objective e (length d.marks) there label)
          falls (Some i) e there label =
              let w = row_found d Objective i e in
              let same : i ≡ length d.marks = t.sound.rows_once i (length d.marks) w.below there (w.label ∙ sym label) in
              subst (λ g. (g *ℤ cell_at d i j) <ℤ pos 0) (way_same r.way r.is) (subst (λ h. (toward r.way *ℤ cell_at d h j) <ℤ pos 0) (sym same) (less r.way (cell_at d (length d.marks) j) r.opens.helps))

      pub is_ray : ((k : ℕ) → k < length s.pairs → OneStays s x y (get_or s.pairs k (0, 0))) → IsRowRay s x y
      is_ray pairs = record {
        point = solves_by fs x is stands (λ k b. vanishes_at (get_or s.pairs k (0, 0)) (pairs k b));
        count = steps.count ∙ (step.count ∙ t.columns);
        kinds = rates_at s.quantities s.kinds y s.sound.one_kind_each (λ i b.
            let e : 1 + i - 1 ≡ i = omega arith in
            subst (λ h. IsOfKind (sort_of (get_or s.kinds h Zero)) (rate_along (get_or s.quantities h no_row) y)) e (rate_of_kind (1 + i) (omega arith) (omega arith) (get_or s.kinds (1 + i - 1) Zero) refl));
        pairs = pairs;
        falls = objective_falls;
      }
        where
          vanishes_at : (q : ℕ × ℕ) → OneStays s x y q → OneVanishes s x q
          vanishes_at (a, b) h = vanishes a b h

      pub stays_at : (a b : ℕ) → (0 < a) × (a ≤ length s.quantities) → (0 < b) × (b ≤ length s.quantities) → is_broken d j (a, b) ≡ false → OneStays s x y (a, b)
      stays_at a b ha hb e = one_stays a b ha hb e
