-- A dictionary's point, and the step of a column, tell what each label is worth.
use Rattle.std.proofs.Common.{◌≡◌, ◌≢◌, ℕ, ◌+◌, ◌-◌, ◌<◌, ◌⊎◌, inl, inr, ℤ, pos, ◌+ℤ◌, ◌*ℤ◌, ◌<ℤ◌, Bool, true, false, cond, List, [], ◌∷◌, length, map, get_or, Option, Some, None, arith, refl, sym, ap, ap₂, subst, ◌∙◌}
use Rattle.std.proofs.lemmas.List.{ext_get_or, get_or-map, length-map}
use Rattle.std.proofs.lemmas.Bool.{cases_eq}
use lib.IntN.{zero-*ℤ, *ℤ-zero}
use Rattle.std.proofs.lemmas.Int.{ints}
use Rattle.emp_algebra.proofs.Ring.{var, lit, ◌⊕◌, ◌⊗◌, by_ring}
use Rattle.emp_algebra.proofs.Order.{linear, cancel_right}
use Rattle.emp_algebra.proofs.Laws.{mul_pos}
use Rattle.emp_algebra.proofs.Vectors.{dot-scale, dot_comm, length-scale, cell-scale}
use Rattle.emp_algebra.specs.Vector.{cell, dot, scale}
use Rattle.emp_num.specs.Point.{Point, StandsFor}
use Rattle.emp_num.specs.Ratio.{Ratio}
use Rattle.emp_num.specs.FracSpec.{IsQuotient}
use Rattle.emp_num.specs.declared.frac.Frac.{Frac}
use Rattle.emp_num.proofs.Standing.{stands_at}
use Rattle.emp_rows.specs.declared.affine.Affine.{Affine}
use Rattle.emp_rows.specs.declared.system.RowSystem.{RowSystem}
use Rattle.emp_turns.specs.Choice.{toward}
use Rattle.emp_turns.specs.Layout.{RowsHold, table_of}
use Rattle.emp_turns.proofs.Layouts.{is_table, row_is, column_is, denom_is, constant_is, cell_is, holds_is}
use Rattle.emp_turns.proofs.Systems.{Filled, fill, row_still}
use Rattle.emp_turns.proofs.Steps.{Direction, direction}
use Rattle.emp_dict.specs.declared.label.Label.{Label}
use Rattle.emp_dict.specs.declared.label.Label.TheVariants.{Base, Quantity, Objective}
use Rattle.emp_dict.specs.Dictionary.{Dictionary, IsSound, IsLabel, RowsTrue, line_at, cell_at, row_label, column_label, row_of, label_eq, stands, bases_from, affine_value, objective_value, no_affine}
use Rattle.emp_dict.specs.Chosen.{labels, layout_of, index_in, way_by}
use Rattle.emp_dict.proofs.Labels.{or_cases, stands_place, Place, label_eq-false, eq-label_eq}
use Rattle.emp_dict.proofs.Layouts.{layout_is}
use Rattle.emp_dict.proofs.Starts.{length-bases, base_at, starts_tell, label_base}
use Rattle.emp_step.proofs.Labels.{row_found, row_none}
use Rattle.emp_step.proofs.Marks.{base_of}
use Rattle.emp_decide.specs.Reads.{value_by, value_of, IsPointOf, way, rate_by, rate_of, IsStepOf}
use Rattle.emp_decide.specs.Laws.{worth, IsDictionaryOf, IsLabelOf}
use Rattle.emp_decide.proofs.Rows.{row_total, line_is}

-- ---- values by index as values of labels
to_true : (d : Dictionary) (t : ℤ) (x : ℕ → ℤ) → IsSound d → RowsHold (layout_of d) t x → RowsTrue d t (λ w. x (index_in d w))
to_true d t x s h i k = let e = h i k in let q = row_total d s (λ w. x (index_in d w)) i k in omega (arith, linear)

-- ---- a label has a row, or a column
pub column_of : (d : Dictionary) → IsSound d → (w : Label) → IsLabelOf d w → row_of d w ≡ None → Place w d.columns
column_of d s w l none = go (or_cases (stands w d.rows) (stands w d.columns) (s.complete w l))
  where
    go : (stands w d.rows ≡ true) ⊎ (stands w d.columns ≡ true) → Place w d.columns
    go (inl e) = let p = stands_place w d.rows e in absurd (row_none d w none p.at p.below p.is)
    go (inr e) = stands_place w d.columns e

-- ---- values that meet the rows are those that their base values give
same_rows : (n k : ℤ) (xs ys : List ℤ) (cells : List ℤ) → length xs ≡ length ys → ((j : ℕ) → j < length xs → cell xs j *ℤ n ≡ cell ys j *ℤ k) → dot cells xs *ℤ n ≡ dot cells ys *ℤ k
same_rows n k xs ys cells e h =
    let lists : scale n xs ≡ scale k ys = ext_get_or (pos 0) (scale n xs) (scale k ys) (length-scale n xs ∙ (e ∙ sym (length-scale k ys))) (λ j b.
    cell-scale n xs j ∙ (by_ring (n ∷ cell xs j ∷ []) (var 0 ⊗ var 1) (var 1 ⊗ var 0) refl ∙ (h j (let l = length-scale n xs in omega arith) ∙ (by_ring (cell ys j ∷ k ∷ []) (var 0 ⊗ var 1) (var 1 ⊗ var 0) refl ∙ sym (cell-scale k ys j))))) in
    let turned : (m : ℤ) (zs : List ℤ) → dot cells zs *ℤ m ≡ dot cells (scale m zs) = λ m zs.
    by_ring (dot cells zs ∷ m ∷ []) (var 0 ⊗ var 1) (var 1 ⊗ var 0) refl ∙ (ap (λ z. m *ℤ z) (dot_comm cells zs) ∙ (sym (dot-scale m zs cells) ∙ dot_comm (scale m zs) cells)) in
    turned n xs ∙ (ap (dot cells) lists ∙ sym (turned k ys))

same_affine : (a : Affine) (c m n k : ℤ) (xs ys : List ℤ) → c *ℤ n ≡ m *ℤ k → dot a.cells xs *ℤ n ≡ dot a.cells ys *ℤ k → affine_value a c xs *ℤ n ≡ affine_value a m ys *ℤ k
same_affine a c m n k xs ys e h =
    by_ring (a.constant ∷ c ∷ dot a.cells xs ∷ n ∷ []) ((var 0 ⊗ var 1 ⊕ var 2) ⊗ var 3) (var 0 ⊗ (var 1 ⊗ var 3) ⊕ var 2 ⊗ var 3) refl
    ∙ (ap₂ (λ y z. a.constant *ℤ y +ℤ z) e h ∙ by_ring (a.constant ∷ m ∷ dot a.cells ys ∷ k ∷ []) (var 0 ⊗ (var 1 ⊗ var 3) ⊕ var 2 ⊗ var 3) ((var 0 ⊗ var 1 ⊕ var 2) ⊗ var 3) refl)

module _ (s : RowSystem) (d : Dictionary) (t : IsDictionaryOf s d) (m c n k : ℤ) (xs : List ℤ) (y : Label → ℤ) (true_rows : RowsTrue d m y) (count : length xs ≡ s.base) (heads : c *ℤ n ≡ m *ℤ k) (bases : (j : ℕ) → j < s.base → cell xs j *ℤ n ≡ y (Base (j + 1)) *ℤ k) where
  abbrev ys : List ℤ
  ys = map y (bases_from 1 s.base)

  given : (w : Label) → IsLabelOf d w → y w ≡ worth s m ys w
  given w l =
      (starts_tell s.base s.quantities s.objective s.sound.few_variables s.sound.few_quantities s.sound.rows s.sound.objective_row).back m y ((t.solutions m y).1 true_rows) w
      (subst (λ r. IsLabel s.base (length s.quantities) r w) t.rows (subst (λ q. IsLabel s.base q (length d.rows) w) t.marks (subst (λ b. IsLabel b (length d.marks) (length d.rows) w) t.columns l)))

  count_ys : length ys ≡ s.base
  count_ys = length-map (bases_from 1 s.base) y ∙ length-bases 1 s.base

  cell_ys : (j : ℕ) → j < s.base → cell ys j ≡ y (Base (j + 1))
  cell_ys j b = get_or-map y (bases_from 1 s.base) j Objective (pos 0) (let l = length-bases 1 s.base in omega arith) ∙ (ap y (base_at 1 s.base j b) ∙ ap (λ i. y (Base i)) (omega arith))

  rows : (cells : List ℤ) → dot cells xs *ℤ n ≡ dot cells ys *ℤ k
  rows cells = same_rows n k xs ys cells (count ∙ sym count_ys) (λ j b. let h : j < s.base = omega arith in bases j h ∙ ap (λ z. z *ℤ k) (sym (cell_ys j h)))

  pub worth_is : (w : Label) → IsLabelOf d w → worth s c xs w *ℤ n ≡ y w *ℤ k
  worth_is w l = by w (subst (λ r. IsLabel r (length d.marks) (length d.rows) w) t.columns l) ∙ ap (λ z. z *ℤ k) (sym (given w l))
    where
      by_objective : (o : Option Affine) → objective_value o c xs *ℤ n ≡ objective_value o m ys *ℤ k
      by_objective None = zero-*ℤ n ∙ sym (zero-*ℤ k)
      by_objective (Some o) = same_affine o c m n k xs ys heads (rows o.cells)

      by : (v : Label) → IsLabel s.base (length d.marks) (length d.rows) v → worth s c xs v *ℤ n ≡ worth s m ys v *ℤ k
      by (Base b) h =
          let q = base_of s.base (length d.marks) (length d.rows) b h in
          let h0 = q.0 in
          let h1 = q.1 in
          let i : b - 1 < s.base = omega arith in
          bases (b - 1) i ∙ ap (λ z. z *ℤ k) (sym (cell_ys (b - 1) i))
      by (Quantity q) h = same_affine (get_or s.quantities (q - 1) no_affine) c m n k xs ys heads (rows (get_or s.quantities (q - 1) no_affine).cells)
      by Objective h = by_objective s.objective

-- ---- from what the labels are told to be
cross : (x n y k g e r b : ℤ) → pos 0 <ℤ e → pos 0 <ℤ b → g *ℤ k ≡ x *ℤ e → g *ℤ b ≡ r *ℤ e → y *ℤ b ≡ r *ℤ n → x *ℤ n ≡ y *ℤ k
cross x n y k g e r b pe pb stands quotient told =
    cancel_right (x *ℤ n) (y *ℤ k) (e *ℤ b)
    (by_ring (x ∷ n ∷ e ∷ b ∷ []) (var 0 ⊗ var 1 ⊗ (var 2 ⊗ var 3)) (var 0 ⊗ var 2 ⊗ (var 1 ⊗ var 3)) refl
    ∙ (ap (λ z. z *ℤ (n *ℤ b)) (sym stands)
    ∙ (by_ring (g ∷ k ∷ n ∷ b ∷ []) (var 0 ⊗ var 1 ⊗ (var 2 ⊗ var 3)) (var 0 ⊗ var 3 ⊗ (var 1 ⊗ var 2)) refl
    ∙ (ap (λ z. z *ℤ (k *ℤ n)) quotient
    ∙ (by_ring (r ∷ e ∷ k ∷ n ∷ []) (var 0 ⊗ var 1 ⊗ (var 2 ⊗ var 3)) (var 0 ⊗ var 3 ⊗ (var 1 ⊗ var 2)) refl
    ∙ (ap (λ z. z *ℤ (e *ℤ k)) (sym told) ∙ by_ring (y ∷ b ∷ e ∷ k ∷ []) (var 0 ⊗ var 1 ⊗ (var 2 ⊗ var 3)) (var 0 ⊗ var 3 ⊗ (var 2 ⊗ var 1)) refl))))))
    (mul_pos e b pe pb)

told_by : (x n y k r b : ℤ) → pos 0 <ℤ n → x *ℤ n ≡ y *ℤ k → y *ℤ b ≡ r *ℤ n → x *ℤ b ≡ r *ℤ k
told_by x n y k r b pn worth told =
    cancel_right (x *ℤ b) (r *ℤ k) n
    (by_ring (x ∷ b ∷ n ∷ []) (var 0 ⊗ var 1 ⊗ var 2) (var 0 ⊗ var 2 ⊗ var 1) refl
    ∙ (ap (λ z. z *ℤ b) worth
    ∙ (by_ring (y ∷ k ∷ b ∷ []) (var 0 ⊗ var 1 ⊗ var 2) (var 0 ⊗ var 2 ⊗ var 1) refl ∙ (ap (λ z. z *ℤ k) told ∙ by_ring (r ∷ n ∷ k ∷ []) (var 0 ⊗ var 1 ⊗ var 2) (var 0 ⊗ var 2 ⊗ var 1) refl))))
    pn

-- the ratios of the labels, with the values y of which they are multiples
module _ (s : RowSystem) (d : Dictionary) (t : IsDictionaryOf s d) (m n c : ℤ) (x : Point) (fs : List Frac) (y : Label → ℤ) (rat : Label → Ratio) (positive : pos 0 <ℤ n) (true_rows : RowsTrue d m y) (heads : c *ℤ n ≡ m *ℤ x.den) (count : length fs ≡ length d.columns) (values : (b : ℕ) (f : Frac) → b < length d.columns → IsQuotient (get_or fs b f) (rat (Base (b + 1))).top (rat (Base (b + 1))).bottom) (stands : StandsFor fs x) (bottoms : (w : Label) → IsLabelOf d w → pos 0 <ℤ (rat w).bottom) (told : (w : Label) → IsLabelOf d w → y w *ℤ (rat w).bottom ≡ (rat w).top *ℤ n) where
  count_nums : length x.nums ≡ s.base
  count_nums = stands.count ∙ (count ∙ t.columns)

  base_labels : (j : ℕ) → j < s.base → IsLabelOf d (Base (j + 1))
  base_labels j b = label_base (length d.columns) (length d.marks) (length d.rows) (j + 1) (omega arith) (let h = t.columns in omega arith)

  bases : (j : ℕ) → j < s.base → cell x.nums j *ℤ n ≡ y (Base (j + 1)) *ℤ x.den
  bases j b = go fs count values stands
    where
      go : (gs : List Frac) → length gs ≡ length d.columns → ((b : ℕ) (f : Frac) → b < length d.columns → IsQuotient (get_or gs b f) (rat (Base (b + 1))).top (rat (Base (b + 1))).bottom) → StandsFor gs x → cell x.nums j *ℤ n ≡ y (Base (j + 1)) *ℤ x.den
      go [] e v st = absurd (let h = t.columns in omega arith)
      go (g ∷ gs) e v st =
          let h : j < length d.columns = let q = t.columns in omega arith in
          let f : Frac = get_or (g ∷ gs) j g in
          cross (cell x.nums j) n (y (Base (j + 1))) x.den f.num f.den (rat (Base (j + 1))).top (rat (Base (j + 1))).bottom f.positive (bottoms (Base (j + 1)) (base_labels j b)) (stands_at (g ∷ gs) x st j g (omega arith)) (v j g h) (told (Base (j + 1)) (base_labels j b))

  pub tells : (w : Label) → IsLabelOf d w → worth s c x.nums w *ℤ (rat w).bottom ≡ (rat w).top *ℤ x.den
  tells w l = told_by (worth s c x.nums w) n (y w) x.den (rat w).top (rat w).bottom positive (worth_is s d t m c n x.den x.nums y true_rows count_nums heads bases w l) (told w l)

-- ---- the point
pub bottom_pos : (d : Dictionary) → IsSound d → (w : Label) → pos 0 <ℤ (value_of d w).bottom
bottom_pos d s w = go (row_of d w) refl
  where
    go : (o : Option ℕ) → row_of d w ≡ o → pos 0 <ℤ (value_by d o).bottom
    go None e = omega (arith, ints)
    go (Some i) e = (line_is d s i (row_found d w i e).below).positive

pub points_tell : (s : RowSystem) (d : Dictionary) (fs : List Frac) (x : Point) → IsDictionaryOf s d → IsPointOf d fs → StandsFor fs x → (w : Label) → IsLabelOf d w → worth s x.den x.nums w *ℤ (value_of d w).bottom ≡ (value_of d w).top *ℤ x.den
points_tell s d fs x t p st =
    let h = layout_is d t.sound in
    let table = table_of (layout_of d) in
    let f : Filled (labels d) table (pos 1) (λ w. pos 0) = fill (labels d) table (is_table (labels d) (layout_of d) h) (pos 1) (λ w. pos 0) in
    let n : ℤ = f.by *ℤ pos 1 in
    let still = λ (w : ℕ) (k : w < labels d) (c : table.is_row w ≡ false). f.columns w k c ∙ *ℤ-zero f.by in
    let told : (w : Label) → IsLabelOf d w → f.value (index_in d w) *ℤ (value_of d w).bottom ≡ (value_of d w).top *ℤ n = λ w l. told_point w l (row_of d w) refl f.value n
    (λ i b. ap (λ z. z *ℤ f.value (index_in d (row_label d i))) (sym (denom_is (labels d) (layout_of d) h i b)) ∙ (row_still (labels d) table (is_table (labels d) (layout_of d) h) n f.value f.holds still (index_in d (row_label d i)) (h.row_below i b) (row_is (labels d) (layout_of d) h i b) ∙ ap (λ z. z *ℤ n) (constant_is (labels d) (layout_of d) h i b)))
    (λ j b. still (index_in d (column_label d j)) (h.column_below j b) (column_is (labels d) (layout_of d) h j b)) in
    tells s d t n n x.den x fs (λ w. f.value (index_in d w)) (value_of d) (let q = f.positive in omega (arith, ints)) (to_true d n f.value t.sound ((holds_is (labels d) (layout_of d) h n f.value).0 f.holds)) (by_ring (x.den ∷ n ∷ []) (var 0 ⊗ var 1) (var 1 ⊗ var 0) refl) p.count p.values st (λ w l. bottom_pos d t.sound w) told
  where
    told_point : (w : Label) → IsLabelOf d w → (o : Option ℕ) → row_of d w ≡ o → (v : ℕ → ℤ) (n : ℤ) → ((i : ℕ) → i < length d.rows → (line_at d i).denom *ℤ v (index_in d (row_label d i)) ≡ (line_at d i).constant *ℤ n) → ((j : ℕ) → j < length d.columns → v (index_in d (column_label d j)) ≡ pos 0) → v (index_in d w) *ℤ (value_by d o).bottom ≡ (value_by d o).top *ℤ n
    told_point w l None e v n rows columns =
        let q = column_of d t.sound w l e in
        ap (λ z. z *ℤ pos 1) (ap (λ u. v (index_in d u)) (sym q.is) ∙ columns q.at q.below) ∙ (zero-*ℤ (pos 1) ∙ sym (zero-*ℤ n))
    told_point w l (Some i) e v n rows columns =
        let r = row_found d w i e in
        by_ring (v (index_in d w) ∷ (line_at d i).denom ∷ []) (var 0 ⊗ var 1) (var 1 ⊗ var 0) refl ∙ (ap (λ u. (line_at d i).denom *ℤ v (index_in d u)) (sym r.label) ∙ rows i r.below)

-- ---- the step of a column
way_is : (up : Bool) → toward (way_by up) ≡ way up
way_is true = refl
way_is false = refl

pub rate_bottom_pos : (d : Dictionary) (j : ℕ) (up : Bool) → IsSound d → (w : Label) → pos 0 <ℤ (rate_of d j up w).bottom
rate_bottom_pos d j up s w = go (row_of d w) refl
  where
    go : (o : Option ℕ) → row_of d w ≡ o → pos 0 <ℤ (rate_by d j up (label_eq w (column_label d j)) o).bottom
    go None e = omega (arith, ints)
    go (Some i) e = (line_is d s i (row_found d w i e).below).positive

pub steps_tell : (s : RowSystem) (d : Dictionary) (j : ℕ) (up : Bool) (fs : List Frac) (x : Point) → IsDictionaryOf s d → j < length d.columns → IsStepOf d j up fs → StandsFor fs x → (w : Label) → IsLabelOf d w → worth s (pos 0) x.nums w *ℤ (rate_of d j up w).bottom ≡ (rate_of d j up w).top *ℤ x.den
steps_tell s d j up fs x t in_columns p st =
    let h = layout_is d t.sound in
    let table = table_of (layout_of d) in
    let e : ℕ = index_in d (column_label d j) in
    let f : Direction (labels d) table e (way_by up) = direction (labels d) table e (way_by up) (is_table (labels d) (layout_of d) h) (h.column_below j in_columns) (column_is (labels d) (layout_of d) h j in_columns) in
    let told : (w : Label) → IsLabelOf d w → f.value (index_in d w) *ℤ (rate_of d j up w).bottom ≡ (rate_of d j up w).top *ℤ f.by = λ w l. told_step w l (row_of d w) refl f.value f.by
    (λ i b. ap (λ z. z *ℤ f.value (index_in d (row_label d i))) (sym (denom_is (labels d) (layout_of d) h i b)) ∙ (f.rows (index_in d (row_label d i)) (h.row_below i b) (row_is (labels d) (layout_of d) h i b) ∙ (ap₂ (λ g c. f.by *ℤ (g *ℤ c)) (way_is up) (cell_is (labels d) (layout_of d) h i j b in_columns) ∙ by_ring (f.by ∷ way up ∷ cell_at d i j ∷ []) (var 0 ⊗ (var 1 ⊗ var 2)) (var 1 ⊗ var 2 ⊗ var 0) refl)))
    (f.own ∙ (ap (λ g. f.by *ℤ g) (way_is up) ∙ by_ring (f.by ∷ way up ∷ []) (var 0 ⊗ var 1) (var 1 ⊗ var 0) refl))
    (λ i b n. f.still (index_in d (column_label d i)) (h.column_below i b) (column_is (labels d) (layout_of d) h i b) (λ q. n (h.columns_once i j b in_columns q))) in
    tells s d t (pos 0) f.by (pos 0) x fs (λ w. f.value (index_in d w)) (rate_of d j up) f.positive (to_true d (pos 0) f.value t.sound ((holds_is (labels d) (layout_of d) h (pos 0) f.value).0 f.holds)) (zero-*ℤ f.by ∙ sym (zero-*ℤ x.den)) p.count p.rates st (λ w l. rate_bottom_pos d j up t.sound w) told
  where
    told_step : (w : Label) → IsLabelOf d w → (o : Option ℕ) → row_of d w ≡ o → (v : ℕ → ℤ) (n : ℤ) → ((i : ℕ) → i < length d.rows → (line_at d i).denom *ℤ v (index_in d (row_label d i)) ≡ way up *ℤ cell_at d i j *ℤ n) → v (index_in d (column_label d j)) ≡ way up *ℤ n → ((i : ℕ) → i < length d.columns → i ≢ j → v (index_in d (column_label d i)) ≡ pos 0) → v (index_in d w) *ℤ (rate_by d j up (label_eq w (column_label d j)) o).bottom ≡ (rate_by d j up (label_eq w (column_label d j)) o).top *ℤ n
    told_step w l (Some i) e v n rows own rest =
        let r = row_found d w i e in
        by_ring (v (index_in d w) ∷ (line_at d i).denom ∷ []) (var 0 ⊗ var 1) (var 1 ⊗ var 0) refl ∙ (ap (λ u. (line_at d i).denom *ℤ v (index_in d u)) (sym r.label) ∙ rows i r.below)
    told_step w l None e v n rows own rest = let q = column_of d t.sound w l e in go q.at q.below q.is (cases_eq q.at j)
      where
        go : (h : ℕ) → h < length d.columns → column_label d h ≡ w → (h ≡ j) ⊎ (h ≢ j) → v (index_in d w) *ℤ pos 1 ≡ cond (label_eq w (column_label d j)) (way up) (pos 0) *ℤ n
        go h b is (inl z) =
            let same : w ≡ column_label d j = sym is ∙ ap (column_label d) z in
            ap (λ u. v (index_in d u) *ℤ pos 1) same ∙ (ap (λ y. y *ℤ pos 1) own ∙ (by_ring ((way up *ℤ n) ∷ []) (var 0 ⊗ lit (pos 1)) (var 0) refl ∙ ap (λ c. cond c (way up) (pos 0) *ℤ n) (sym (eq-label_eq w (column_label d j) same))))
        go h b is (inr k) =
            ap (λ u. v (index_in d u) *ℤ pos 1) (sym is) ∙ (ap (λ y. y *ℤ pos 1) (rest h b k) ∙ (by_ring (n ∷ []) (lit (pos 0) ⊗ lit (pos 1)) (lit (pos 0) ⊗ var 0) refl ∙ ap (λ c. cond c (way up) (pos 0) *ℤ n) (sym (label_eq-false w (column_label d j) (λ z. k (t.sound.columns_once h j b in_columns (is ∙ z)))))))
