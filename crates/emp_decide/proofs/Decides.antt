-- A refused row refutes, and the row of a least objective bounds.
use Rattle.std.proofs.Common.{◌≡◌, ◌≢◌, ℕ, ◌+◌, ◌-◌, ◌<◌, ◌≤◌, ◌⊎◌, inl, inr, ℤ, pos, negsuc, neg_ℤ, ◌+ℤ◌, ◌-ℤ◌, ◌*ℤ◌, ◌≤ℤ◌, ◌<ℤ◌, true, List, [], ◌∷◌, ◌++◌, length, map, get_or, All, Some, arith, refl, sym, ap, ap₂, subst, ◌∙◌}
use Rattle.std.proofs.lemmas.List.{get_or-map, length-map, length-append}
use Rattle.std.proofs.lemmas.List.Elements.{All-get_or}
use Rattle.std.proofs.lemmas.Bool.{cases_eq}
use Rattle.std.proofs.lemmas.Int.{ints}
use Rattle.emp_algebra.proofs.Ring.{var, lit, neg, ◌⊕◌, ◌⊖◌, ◌⊗◌, by_ring}
use Rattle.emp_algebra.proofs.Laws.{one-*ℤ}
use Rattle.emp_algebra.proofs.Vectors.{dot-scale, dot-add_rows}
use Rattle.emp_algebra.specs.Vector.{cell, dot, scale, add_rows}
use Rattle.emp_algebra.specs.Deciding.{FactorFits, total_cells, total_constant}
use Rattle.emp_num.specs.Point.{Point}
use Rattle.emp_rows.specs.declared.affine.Affine.{Affine}
use Rattle.emp_rows.specs.declared.system.Kind.TheVariants.{Zero}
use Rattle.emp_rows.specs.declared.system.RowSystem.{RowSystem}
use Rattle.emp_rows.specs.Affine.{IsRow}
use Rattle.emp_rows.specs.RowPoints.{value_at}
use Rattle.emp_cert.specs.declared.tree.Turn.{Turn}
use Rattle.emp_cert.specs.Paths.{is_on}
use Rattle.emp_cert.specs.Deciders.{sort_on, weighted, IsFarkasRow, IsBoundRow}
use Rattle.emp_turns.specs.Choice.{toward}
use Rattle.emp_dict.specs.declared.label.Label.TheVariants.{Quantity, Objective}
use Rattle.emp_dict.specs.declared.label.Mark.{Mark}
use Rattle.emp_dict.specs.declared.label.Mark.TheVariants.{Unasked, Required, Fixed}
use Rattle.emp_dict.specs.declared.label.Aim.{Aim}
use Rattle.emp_dict.specs.declared.label.Aim.TheVariants.{Up, Down, Least}
use Rattle.emp_dict.specs.declared.label.Choice.TheVariants.{Stop}
use Rattle.emp_dict.specs.Dictionary.{Dictionary, IsSound, line_at, cell_at, row_label, column_label, mark_at, stands, affine_value, no_affine, objective_value, quantities_from, objective_labels}
use Rattle.emp_dict.specs.Chosen.{chosen, aimed_row, aimed_way}
use Rattle.emp_dict.proofs.Labels.{or_cases, stands_place, Place}
use Rattle.emp_dict.proofs.Starts.{length-quantities, label_quantity}
use Rattle.emp_step.specs.Levels.{MayBeColumn, IsLevel}
use Rattle.emp_decide.specs.Reads.{factors, farkas_by, farkas_factors, bound_weight, bound_factors}
use Rattle.emp_decide.specs.Laws.{started_of, worth, IsDictionaryOf, IsToBeZero, FixedOn, IsRefused}
use Rattle.emp_decide.proofs.Sums.{values, sum_is, short, add_short, IsConstantly, constant_is, cells_are, fits_all}
use Rattle.emp_decide.proofs.Factors.{quantity_value, length-factors}
use Rattle.emp_decide.proofs.Rows.{identity, line_is, combination, factor_own, factor_column, factor_none, fits_zero, fits_nonneg, fits_free, opposite, required_column, base_column}

-- ---- where quantity k stands
pub stands_where : (d : Dictionary) → IsSound d → (k : ℕ) → 0 < k → k ≤ length d.marks → Place (Quantity k) d.rows ⊎ Place (Quantity k) d.columns
stands_where d s k h m = go (or_cases (stands (Quantity k) d.rows) (stands (Quantity k) d.columns) (s.complete (Quantity k) (label_quantity (length d.columns) (length d.marks) (length d.rows) k h m)))
  where
    go : (stands (Quantity k) d.rows ≡ true) ⊎ (stands (Quantity k) d.columns ≡ true) → Place (Quantity k) d.rows ⊎ Place (Quantity k) d.columns
    go (inl e) = inl (stands_place (Quantity k) d.rows e)
    go (inr e) = inr (stands_place (Quantity k) d.columns e)

module _ (s : RowSystem) (p : List Turn) (d : Dictionary) (t : IsDictionaryOf s d) (l : IsLevel d) (on : FixedOn s p d) (a : Aim) (below : aimed_row d a < length d.rows) (stop : chosen d a ≡ Stop) (own : ℤ) where
  abbrev across : ℤ
  across = neg_ℤ (toward (aimed_way a))

  abbrev fs : List ℤ
  fs = factors d (aimed_row d a) own across

  abbrev Own : Type 0
  Own = (k : ℕ) → row_label d (aimed_row d a) ≡ Quantity k → FactorFits (sort_on (is_on s p k) (get_or s.kinds (k - 1) Zero)) own

  quantity_fits : Own → (k : ℕ) → 0 < k → k ≤ length d.marks → FactorFits (sort_on (is_on s p k) (get_or s.kinds (k - 1) Zero)) (cell fs (k - 1))
  quantity_fits fit k h m = go (stands_where d t.sound k h m)
    where
      by_mark : (j : ℕ) → j < length d.columns → column_label d j ≡ Quantity k → (x : Mark) → mark_at d k ≡ x → FactorFits (sort_on (is_on s p k) (get_or s.kinds (k - 1) Zero)) (across *ℤ cell_at d (aimed_row d a) j)
      by_mark j b e Unasked q = absurd (subst (λ w. MayBeColumn d w) e (l.columns j b) q)
      by_mark j b e Required q = fits_nonneg (sort_on (is_on s p k) (get_or s.kinds (k - 1) Zero)) (across *ℤ cell_at d (aimed_row d a) j) (opposite (toward (aimed_way a)) (cell_at d (aimed_row d a) j) (required_column d t.sound a stop j k b e q))
      by_mark j b e Fixed q = fits_free (sort_on (is_on s p k) (get_or s.kinds (k - 1) Zero)) (across *ℤ cell_at d (aimed_row d a) j) (on k h q)

      by_row : (i : ℕ) → i < length d.rows → row_label d i ≡ Quantity k → (i ≡ aimed_row d a) ⊎ (i ≢ aimed_row d a) → FactorFits (sort_on (is_on s p k) (get_or s.kinds (k - 1) Zero)) (cell fs (k - 1))
      by_row i b e (inl q) =
          let label : row_label d (aimed_row d a) ≡ Quantity k = sym (ap (row_label d) q) ∙ e in
          subst (λ z. FactorFits (sort_on (is_on s p k) (get_or s.kinds (k - 1) Zero)) z) (sym (factor_own s d t l (aimed_row d a) below own across k h m label)) (fit k label)
      by_row i b e (inr n) =
          subst (λ z. FactorFits (sort_on (is_on s p k) (get_or s.kinds (k - 1) Zero)) z) (sym (factor_none s d t l (aimed_row d a) below own across k h (λ q. n (t.sound.rows_once i (aimed_row d a) b below (e ∙ sym q))) (λ j c q. t.sound.apart i j b c (e ∙ sym q)))) (fits_zero (sort_on (is_on s p k) (get_or s.kinds (k - 1) Zero)))

      go : Place (Quantity k) d.rows ⊎ Place (Quantity k) d.columns → FactorFits (sort_on (is_on s p k) (get_or s.kinds (k - 1) Zero)) (cell fs (k - 1))
      go (inl q) = by_row q.at q.below q.is (cases_eq q.at (aimed_row d a))
      go (inr q) =
          subst (λ z. FactorFits (sort_on (is_on s p k) (get_or s.kinds (k - 1) Zero)) z) (sym (factor_column s d t l (aimed_row d a) below own across k q.at h m q.below q.is)) (by_mark q.at q.below q.is (mark_at d k) refl)

  pub all_fit : Own → All (λ w. FactorFits w.kind w.factor) (weighted s p 1 s.quantities s.kinds fs)
  all_fit fit =
      fits_all s p 1 s.quantities s.kinds fs (λ i b.
      let e : 1 + i - 1 ≡ i = omega arith in
      let m : 1 + i ≤ length d.marks = let n = t.marks in omega arith in
      subst (λ j. FactorFits (sort_on (is_on s p (1 + i)) (get_or s.kinds j Zero)) (cell fs j)) e (quantity_fits fit (1 + i) (omega arith) m))

  fs_length : length fs ≡ length s.quantities
  fs_length = length-factors d (aimed_row d a) own across ∙ t.marks

  pub no_longer : length (total_cells (weighted s p 1 s.quantities s.kinds fs)) ≤ s.base
  no_longer = short s p s.base 1 s.quantities s.kinds fs (λ i q b. let r = All-get_or (IsRow s.base) s.quantities i q b s.sound.rows in let w = r.width in omega arith)

  -- the sum at a base vector
  pub at_vector : (c : ℤ) (xs : List ℤ) → length xs ≡ s.base → total_constant (weighted s p 1 s.quantities s.kinds fs) *ℤ c +ℤ dot (total_cells (weighted s p 1 s.quantities s.kinds fs)) xs ≡ own *ℤ quantity_value (worth s c xs) (row_label d (aimed_row d a)) +ℤ across *ℤ dot (line_at d (aimed_row d a)).cells (map (worth s c xs) d.columns)
  at_vector c xs e =
      sum_is s p 1 s.quantities s.kinds fs c xs s.sound.one_kind_each fs_length
      ∙ combination s d t l (aimed_row d a) below own across (worth s c xs) (values s.quantities c xs) (count ∙ sym t.marks) (λ k h m. get_or-map (λ q. affine_value q c xs) s.quantities (k - 1) no_affine (pos 0) (let n = count in omega arith)) (λ j b h q. base_column d t.sound a stop j b h q)
    where
      count : length (values s.quantities c xs) ≡ length s.quantities
      count = length-map s.quantities (λ q. affine_value q c xs)

-- ---- refused
refuting : (g d v c k x : ℤ) → d *ℤ v ≡ c *ℤ k +ℤ x → g *ℤ d *ℤ v +ℤ neg_ℤ g *ℤ x ≡ g *ℤ c *ℤ k
refuting g d v c k x e =
    by_ring (g ∷ d ∷ v ∷ x ∷ []) (var 0 ⊗ var 1 ⊗ var 2 ⊕ neg (var 0) ⊗ var 3) (var 0 ⊗ (var 1 ⊗ var 2 ⊖ var 3)) refl
    ∙ (ap (λ y. g *ℤ (y -ℤ x)) e ∙ by_ring (g ∷ c ∷ k ∷ x ∷ []) (var 0 ⊗ (var 1 ⊗ var 2 ⊕ var 3 ⊖ var 3)) (var 0 ⊗ var 1 ⊗ var 2) refl)

refutes_by : (s : RowSystem) (p : List Turn) (d : Dictionary) → IsDictionaryOf s d → IsLevel d → FixedOn s p d → (a : Aim) → aimed_row d a < length d.rows → (k : ℕ) → row_label d (aimed_row d a) ≡ Quantity k → chosen d a ≡ Stop → (toward (aimed_way a) *ℤ (line_at d (aimed_row d a)).constant) <ℤ pos 0 → FactorFits (sort_on (is_on s p k) (get_or s.kinds (k - 1) Zero)) (toward (aimed_way a) *ℤ (line_at d (aimed_row d a)).denom) → IsFarkasRow s p (factors d (aimed_row d a) (toward (aimed_way a) *ℤ (line_at d (aimed_row d a)).denom) (neg_ℤ (toward (aimed_way a))))
refutes_by s p d t l on a below k label stop wrong fit =
    let own : ℤ = toward (aimed_way a) *ℤ (line_at d (aimed_row d a)).denom in
    let ws = weighted s p 1 s.quantities s.kinds (factors d (aimed_row d a) own (neg_ℤ (toward (aimed_way a)))) in
    let constantly : IsConstantly s.base (total_constant ws) (total_cells ws) (toward (aimed_way a) *ℤ (line_at d (aimed_row d a)).constant) = λ c xs e.
    at_vector s p d t l on a below stop own c xs e
    ∙ (ap (λ w. own *ℤ quantity_value (worth s c xs) w +ℤ neg_ℤ (toward (aimed_way a)) *ℤ dot (line_at d (aimed_row d a)).cells (map (worth s c xs) d.columns)) label
    ∙ refuting (toward (aimed_way a)) (line_at d (aimed_row d a)).denom (worth s c xs (Quantity k)) (line_at d (aimed_row d a)).constant c (dot (line_at d (aimed_row d a)).cells (map (worth s c xs) d.columns)) (sym (ap (λ w. (line_at d (aimed_row d a)).denom *ℤ worth s c xs w) label) ∙ identity s d t c xs e (aimed_row d a) below)) in
    record {
      factors = all_fit s p d t l on a below stop own (λ q e. let same : q ≡ k = let z : Quantity q ≡ Quantity k = sym e ∙ label in cc in subst (λ n. FactorFits (sort_on (is_on s p n) (get_or s.kinds (n - 1) Zero)) own) (sym same) fit);
      cells = cells_are s.base (total_constant ws) (total_cells ws) (toward (aimed_way a) *ℤ (line_at d (aimed_row d a)).constant) (no_longer s p d t l on a below stop own) constantly;
      constant = subst (λ z. z <ℤ pos 0) (sym (constant_is s.base (total_constant ws) (total_cells ws) (toward (aimed_way a) *ℤ (line_at d (aimed_row d a)).constant) constantly)) wrong;
    }

farkas_below : (d : Dictionary) (r : ℕ) (c : ℤ) → c <ℤ pos 0 → farkas_by d r c ≡ factors d r (pos 1 *ℤ (line_at d r).denom) (negsuc 0)
farkas_below d r (pos c) h = absurd (omega (arith, ints))
farkas_below d r (negsuc c) h = ap (λ z. factors d r z (negsuc 0)) (sym (one-*ℤ (line_at d r).denom))

farkas_above : (d : Dictionary) (r : ℕ) (c : ℤ) → pos 0 <ℤ c → farkas_by d r c ≡ factors d r (negsuc 0 *ℤ (line_at d r).denom) (pos 1)
farkas_above d r (pos c) h = ap (λ z. factors d r z (pos 1)) (by_ring ((line_at d r).denom ∷ []) (neg (var 0)) (lit (negsuc 0) ⊗ var 0) refl)
farkas_above d r (negsuc c) h = absurd (omega (arith, ints))

pub refused_refutes : (s : RowSystem) (p : List Turn) (d : Dictionary) (r k : ℕ) → IsDictionaryOf s d → IsLevel d → FixedOn s p d → IsRefused s p d r k → IsFarkasRow s p (farkas_factors d r)
refused_refutes s p d r k t l on x = go x.stops
  where
    denom_pos : pos 0 <ℤ (line_at d r).denom
    denom_pos = (line_is d t.sound r x.below).positive

    go : (((line_at d r).constant <ℤ pos 0) × (chosen d (Up r) ≡ Stop)) ⊎ ((pos 0 <ℤ (line_at d r).constant) × (chosen d (Down r) ≡ Stop) × IsToBeZero s p k) → IsFarkasRow s p (farkas_factors d r)
    go (inl q) =
        subst (λ fs. IsFarkasRow s p fs) (sym (farkas_below d r (line_at d r).constant q.0))
        (refutes_by s p d t l on (Up r) x.below k x.label q.1 (let h = q.0 in omega (arith, ints)) (fits_nonneg (sort_on (is_on s p k) (get_or s.kinds (k - 1) Zero)) (pos 1 *ℤ (line_at d r).denom) (let h = denom_pos in omega (arith, ints))))
    go (inr q) =
        subst (λ fs. IsFarkasRow s p fs) (sym (farkas_above d r (line_at d r).constant q.0))
        (refutes_by s p d t l on (Down r) x.below k x.label q.1 (let h = q.0 in omega (arith, ints)) (fits_free (sort_on (is_on s p k) (get_or s.kinds (k - 1) Zero)) (negsuc 0 *ℤ (line_at d r).denom) q.2))

-- ---- bounded
rows_with : (s : RowSystem) (o : Affine) → s.objective ≡ Some o → length (started_of s).rows ≡ length s.quantities + 1
rows_with s o e = ap (λ x. length (quantities_from 1 (length s.quantities) ++ objective_labels x)) e ∙ (length-append (quantities_from 1 (length s.quantities)) (Objective ∷ []) ∙ ap (λ n. n + 1) (length-quantities 1 (length s.quantities)))

pub has_objective : (s : RowSystem) (d : Dictionary) (o : Affine) → IsDictionaryOf s d → s.objective ≡ Some o → length d.marks < length d.rows
has_objective s d o t e = let m = t.marks in let r = t.rows in let k = rows_with s o e in omega arith

pub least_bounds : (s : RowSystem) (o : Affine) (x : Point) (p : List Turn) (d : Dictionary) → IsDictionaryOf s d → s.objective ≡ Some o → IsLevel d → FixedOn s p d → chosen d Least ≡ Stop → (value_at o x *ℤ bound_weight d (length d.marks)) ≤ℤ ((line_at d (length d.marks)).constant *ℤ x.den) → IsBoundRow s o x p (bound_weight d (length d.marks)) (bound_factors d (length d.marks))
least_bounds s o x p d t e l on stop above =
    let r = length d.marks in
    let there : r < length d.rows = has_objective s d o t e in
    let label : row_label d r ≡ Objective = t.sound.objective there in
    let ws = weighted s p 1 s.quantities s.kinds (bound_factors d r) in
    let w : ℤ = (line_at d r).denom in
    let k : ℤ = (line_at d r).constant in
    let constantly : IsConstantly s.base (w *ℤ o.constant -ℤ total_constant ws) (add_rows (scale w o.cells) (scale (negsuc 0) (total_cells ws))) k = λ c xs n.
    let sum : ℤ = dot (line_at d r).cells (map (worth s c xs) d.columns) in
    let vector : total_constant ws *ℤ c +ℤ dot (total_cells ws) xs ≡ sum = at_vector s p d t l on Least there stop (pos 0) c xs n ∙ (ap (λ v. pos 0 *ℤ quantity_value (worth s c xs) v +ℤ pos 1 *ℤ sum) label ∙ by_ring (sum ∷ []) (lit (pos 0) ⊗ lit (pos 0) ⊕ lit (pos 1) ⊗ var 0) (var 0) refl) in
    let row : w *ℤ (o.constant *ℤ c +ℤ dot o.cells xs) ≡ k *ℤ c +ℤ sum = ap (λ f. w *ℤ objective_value f c xs) (sym e) ∙ (sym (ap (λ v. w *ℤ worth s c xs v) label) ∙ identity s d t c xs n r there) in
    let split : dot (add_rows (scale w o.cells) (scale (negsuc 0) (total_cells ws))) xs ≡ w *ℤ dot o.cells xs +ℤ negsuc 0 *ℤ dot (total_cells ws) xs = dot-add_rows (scale w o.cells) (scale (negsuc 0) (total_cells ws)) xs ∙ ap₂ (λ y z. y +ℤ z) (dot-scale w o.cells xs) (dot-scale (negsuc 0) (total_cells ws) xs) in
    ap (λ z. (w *ℤ o.constant -ℤ total_constant ws) *ℤ c +ℤ z) split
    ∙ (by_ring (w ∷ o.constant ∷ total_constant ws ∷ c ∷ dot o.cells xs ∷ dot (total_cells ws) xs ∷ [])
    ((var 0 ⊗ var 1 ⊖ var 2) ⊗ var 3 ⊕ (var 0 ⊗ var 4 ⊕ lit (negsuc 0) ⊗ var 5))
    (var 0 ⊗ (var 1 ⊗ var 3 ⊕ var 4) ⊖ (var 2 ⊗ var 3 ⊕ var 5))
    refl
    ∙ (ap₂ (λ y z. y -ℤ z) row vector ∙ by_ring (k ∷ c ∷ sum ∷ []) (var 0 ⊗ var 1 ⊕ var 2 ⊖ var 2) (var 0 ⊗ var 1) refl)) in
    let is : w *ℤ o.constant -ℤ total_constant ws ≡ k = constant_is s.base (w *ℤ o.constant -ℤ total_constant ws) (add_rows (scale w o.cells) (scale (negsuc 0) (total_cells ws))) k constantly in
    let wide : length o.cells ≤ s.base = let h = (s.sound.objective_row o e).width in omega arith in
    record {
      factors = all_fit s p d t l on Least there stop (pos 0) (λ q z. absurd (let u : Objective ≡ Quantity q = sym label ∙ z in cc));
      weighs = (line_is d t.sound r there).positive;
      named = x.positive;
      rest = cells_are s.base (w *ℤ o.constant -ℤ total_constant ws) (add_rows (scale w o.cells) (scale (negsuc 0) (total_cells ws))) k (add_short s.base w o.cells (total_cells ws) wide (no_longer s p d t l on Least there stop (pos 0))) constantly;
      least = subst (λ z. (w *ℤ value_at o x) ≤ℤ (z *ℤ x.den)) (sym is) (subst (λ z. z ≤ℤ (k *ℤ x.den)) (by_ring (value_at o x ∷ w ∷ []) (var 0 ⊗ var 1) (var 1 ⊗ var 0) refl) above);
    }
