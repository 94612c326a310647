-- A step leaves a level dictionary, and the marks that it should.
use Rattle.std.proofs.Common.{◌≡◌, ◌≢◌, ℕ, zero, suc, ◌-◌, ◌<◌, ◌≤◌, ◌⊎◌, inl, inr, ℤ, pos, negsuc, ◌≤ℤ◌, false, not, List, length, Option, Some, None, arith, refl, sym, ap, subst, ◌∙◌}
use Rattle.std.proofs.lemmas.Int.{ints}
use Rattle.std.proofs.lemmas.Bool.{and_cases, cases_eq}
use Rattle.std.proofs.lemmas.List.{get_or-set_same, get_or-set_other}
use Rattle.emp_algebra.specs.Vector.{is_zero}
use Rattle.emp_dict.specs.declared.label.Label.{Label}
use Rattle.emp_dict.specs.declared.label.Label.TheVariants.{Base, Quantity, Objective}
use Rattle.emp_dict.specs.declared.label.Mark.{Mark}
use Rattle.emp_dict.specs.declared.label.Mark.TheVariants.{Unasked, Required, Fixed}
use Rattle.emp_dict.specs.declared.label.Choice.{Choice}
use Rattle.emp_dict.specs.declared.label.Choice.TheVariants.{Stop, Exchange, Ray as RayChoice}
use Rattle.emp_dict.specs.declared.label.Aim.TheVariants.{Up, Down}
use Rattle.emp_turns.specs.Loop.{after}
use Rattle.emp_dict.specs.Dictionary.{Dictionary, IsSound, IsLabel, line_at, cell_at, row_label, column_label, mark_at, row_of, marked}
use Rattle.emp_dict.specs.Chosen.{chosen}
use Rattle.emp_step.specs.declared.outcome.Outcome.TheVariants.{Held}
use Rattle.emp_step.specs.Steps.{Look, over, mark_of_label, is_fixed, first_loose, raise_row, raise_place, raise_look, fix_row, fix_place, fix_look, leave_row, by_choice}
use Rattle.emp_step.specs.Levels.{MayBeColumn, IsLevel}
use Rattle.emp_step.proofs.Labels.{RowIs, row_found, row_none}
use Rattle.emp_step.proofs.Marks.{quantity_of}
use Rattle.emp_step.proofs.Repeats.{next, kept}
use Rattle.emp_step.proofs.After.{after_is}
use Rattle.emp_step.proofs.Kept.{InStep, level_of}
use Rattle.emp_step.proofs.Turns.{turned_of, loose_none}

-- ---- marks while a step runs
pub record Same (ms : List Mark) (d : Dictionary) : Type 0 where
  pub marks : d.marks ≡ ms

pub marks_kept : (look : Dictionary → Look) (m : ℕ) (d e : Dictionary) → after (next look) m d ≡ Some e → e.marks ≡ d.marks
marks_kept look m d e h = (kept (Same d.marks) look (λ f g s n. let t = turned_of look f g n in record { marks = (after_is f g t.row t.column t.made).marks ∙ s.marks }) m d e (record { marks = refl }) h).marks

-- ---- one mark set
mark_here : (d : Dictionary) (k : ℕ) (m : Mark) → 0 < k → k ≤ length d.marks → mark_at (marked d k m) k ≡ m
mark_here d k m h l = get_or-set_same d.marks (k - 1) m Unasked (omega arith)

mark_other : (d : Dictionary) (k : ℕ) (m : Mark) (q : ℕ) → 0 < k → 0 < q → q ≢ k → mark_at (marked d k m) q ≡ mark_at d q
mark_other d k m q h l n = get_or-set_other d.marks (k - 1) (q - 1) m Unasked (λ z. n (omega arith))

-- the label of a row or a column is a quantity above 0
row_number : (d : Dictionary) (i q : ℕ) → IsSound d → i < length d.rows → row_label d i ≡ Quantity q → 0 < q
row_number d i q s b e = (quantity_of (length d.columns) (length d.marks) (length d.rows) q (subst (λ w. IsLabel (length d.columns) (length d.marks) (length d.rows) w) e (s.row_labels i b))).0

column_number : (d : Dictionary) (j q : ℕ) → IsSound d → j < length d.columns → column_label d j ≡ Quantity q → 0 < q
column_number d j q s b e = (quantity_of (length d.columns) (length d.marks) (length d.rows) q (subst (λ w. IsLabel (length d.columns) (length d.marks) (length d.rows) w) e (s.column_labels j b))).0

module _ (k : ℕ) (m : Mark) (d : Dictionary) (s : InStep k d) (above : 0 < k) (in_marks : k ≤ length d.marks) (set_to : m ≢ Unasked) where
  marked_columns : (j : ℕ) → j < length d.columns → MayBeColumn (marked d k m) (column_label d j)
  marked_columns j b = go (column_label d j) refl (s.columns j b)
    where
      by : (q : ℕ) → column_label d j ≡ Quantity q → (q ≡ k) ⊎ (q ≢ k) → (Quantity q ≡ Quantity k) ⊎ (mark_at d q ≢ Unasked) → mark_at (marked d k m) q ≢ Unasked
      by q e (inl z) h = λ u. set_to (sym (ap (mark_at (marked d k m)) z ∙ mark_here d k m above in_marks) ∙ u)
      by q e (inr n) (inl z) = absurd (n (let t : Quantity q ≡ Quantity k = z in cc))
      by q e (inr n) (inr h) = λ u. h (sym (mark_other d k m q above (column_number d j q s.sound b e) n) ∙ u)

      go : (w : Label) → column_label d j ≡ w → (w ≡ Quantity k) ⊎ MayBeColumn d w → MayBeColumn (marked d k m) w
      go (Base c) e h = tt
      go (Quantity q) e h = by q e (cases_eq q k) h
      go Objective e (inl z) = absurd (cc)
      go Objective e (inr h) = h

  -- a column that is not Fixed now was not before, where k was not
  loose_before : mark_at d k ≢ Fixed → (j : ℕ) → j < length d.columns → mark_of_label (marked d k m) (column_label d j) ≢ Fixed → mark_of_label d (column_label d j) ≢ Fixed
  loose_before was j b = go (column_label d j) refl
    where
      by : (q : ℕ) → column_label d j ≡ Quantity q → (q ≡ k) ⊎ (q ≢ k) → mark_at (marked d k m) q ≢ Fixed → mark_at d q ≢ Fixed
      by q e (inl z) h = λ u. was (sym (ap (mark_at d) z) ∙ u)
      by q e (inr n) h = λ u. h (mark_other d k m q above (column_number d j q s.sound b e) n ∙ u)

      go : (w : Label) → column_label d j ≡ w → mark_of_label (marked d k m) w ≢ Fixed → mark_of_label d w ≢ Fixed
      go (Base c) e h = h
      go (Quantity q) e h = by q e (cases_eq q k) h
      go Objective e h = h

-- ---- held
-- where raising holds, the quantity's row is at least 0
raise_held : (k : ℕ) (d : Dictionary) → IsSound d → raise_look k d ≡ over Held → (i : ℕ) → i < length d.rows → row_label d i ≡ Quantity k → pos 0 ≤ℤ (line_at d i).constant
raise_held k d s h i b e = go (row_of d (Quantity k)) refl h
  where
    by : (c : ℤ) (r : ℕ) → raise_row d r c ≡ over Held → ((x : Choice) → by_choice r x ≡ over Held → ⊥) → pos 0 ≤ℤ c
    by (pos c) r h none = omega (arith, ints)
    by (negsuc c) r h none = absurd (none (chosen d (Up r)) h)

    none : (r : ℕ) (x : Choice) → by_choice r x ≡ over Held → ⊥
    none r Stop h = absurd (cc)
    none r (Exchange a c) h = absurd (cc)
    none r (RayChoice j up) h = absurd (cc)

    go : (o : Option ℕ) → row_of d (Quantity k) ≡ o → raise_place d o ≡ over Held → pos 0 ≤ℤ (line_at d i).constant
    go None q h = absurd (row_none d (Quantity k) q i b e)
    go (Some r) q h =
        let w = row_found d (Quantity k) r q in
        let same : i ≡ r = s.rows_once i r b w.below (e ∙ sym w.label) in
        subst (λ x. pos 0 ≤ℤ (line_at d x).constant) (sym same) (by (line_at d r).constant r h (none r))

-- where fixing holds, the quantity's row is 0, and no column that is not Fixed moves it
fix_held : (k : ℕ) (d : Dictionary) → IsSound d → fix_look k d ≡ over Held → (i : ℕ) → i < length d.rows → row_label d i ≡ Quantity k → ((line_at d i).constant ≡ pos 0) × (first_loose d i (length d.columns) ≡ None)
fix_held k d s h i b e = go (row_of d (Quantity k)) refl h
  where
    none : (r : ℕ) (x : Choice) → by_choice r x ≡ over Held → ⊥
    none r Stop h = absurd (cc)
    none r (Exchange a c) h = absurd (cc)
    none r (RayChoice j up) h = absurd (cc)

    leave : (r : ℕ) (o : Option ℕ) → leave_row r o ≡ over Held → o ≡ None
    leave r None h = refl
    leave r (Some j) h = absurd (cc)

    by : (c : ℤ) (r : ℕ) → fix_row d r c ≡ over Held → (c ≡ pos 0) × (first_loose d r (length d.columns) ≡ None)
    by (pos zero) r h = (refl, leave r (first_loose d r (length d.columns)) h)
    by (pos (suc c)) r h = absurd (none r (chosen d (Down r)) h)
    by (negsuc c) r h = absurd (none r (chosen d (Up r)) h)

    go : (o : Option ℕ) → row_of d (Quantity k) ≡ o → fix_place d o ≡ over Held → ((line_at d i).constant ≡ pos 0) × (first_loose d i (length d.columns) ≡ None)
    go None q h = absurd (row_none d (Quantity k) q i b e)
    go (Some r) q h =
        let w = row_found d (Quantity k) r q in
        let same : i ≡ r = s.rows_once i r b w.below (e ∙ sym w.label) in
        subst (λ x. ((line_at d x).constant ≡ pos 0) × (first_loose d x (length d.columns) ≡ None)) (sym same) (by (line_at d r).constant r h)

pub raised_is_level : (k : ℕ) (d : Dictionary) → InStep k d → 0 < k → k ≤ length d.marks → mark_at d k ≢ Fixed → raise_look k d ≡ over Held → IsLevel (marked d k Required)
raised_is_level k d s above in_marks was held = record {
  columns = marked_columns k Required d s above in_marks (λ z. absurd (cc));
  required = λ i q b e m. required i q b e m (cases_eq q k);
  fixed = λ i q b e m. s.fixed i q b e (sym (other i q b e (not_k q m)) ∙ m);
  still = λ i q j b e m l loose. s.still i q j b e (sym (other i q b e (not_k q m)) ∙ m) l (loose_before k Required d s above in_marks (λ z. absurd (cc)) was j l loose);
}
  where
    not_k : (q : ℕ) → mark_at (marked d k Required) q ≡ Fixed → q ≢ k
    not_k q m z = let t : Required ≡ Fixed = sym (ap (mark_at (marked d k Required)) z ∙ mark_here d k Required above in_marks) ∙ m in absurd (cc)

    other : (i q : ℕ) → i < length d.rows → row_label d i ≡ Quantity q → q ≢ k → mark_at (marked d k Required) q ≡ mark_at d q
    other i q b e n = mark_other d k Required q above (row_number d i q s.sound b e) n

    required : (i q : ℕ) → i < length d.rows → row_label d i ≡ Quantity q → mark_at (marked d k Required) q ≡ Required → (q ≡ k) ⊎ (q ≢ k) → pos 0 ≤ℤ (line_at d i).constant
    required i q b e m (inl z) = raise_held k d s.sound held i b (e ∙ ap Quantity z)
    required i q b e m (inr n) = s.required i q b e (sym (other i q b e n) ∙ m)

pub fixed_is_level : (k : ℕ) (d : Dictionary) → InStep k d → 0 < k → k ≤ length d.marks → mark_at d k ≢ Fixed → fix_look k d ≡ over Held → IsLevel (marked d k Fixed)
fixed_is_level k d s above in_marks was held = record {
  columns = marked_columns k Fixed d s above in_marks (λ z. absurd (cc));
  required = λ i q b e m. s.required i q b e (sym (other i q b e (not_k q m)) ∙ m);
  fixed = λ i q b e m. fixed_row i q b e m (cases_eq q k);
  still = λ i q j b e m l loose. still i q j b e m l (loose_before k Fixed d s above in_marks (λ z. absurd (cc)) was j l loose) (cases_eq q k);
}
  where
    not_k : (q : ℕ) → mark_at (marked d k Fixed) q ≡ Required → q ≢ k
    not_k q m z = let t : Fixed ≡ Required = sym (ap (mark_at (marked d k Fixed)) z ∙ mark_here d k Fixed above in_marks) ∙ m in absurd (cc)

    other : (i q : ℕ) → i < length d.rows → row_label d i ≡ Quantity q → q ≢ k → mark_at (marked d k Fixed) q ≡ mark_at d q
    other i q b e n = mark_other d k Fixed q above (row_number d i q s.sound b e) n

    fixed_row : (i q : ℕ) → i < length d.rows → row_label d i ≡ Quantity q → mark_at (marked d k Fixed) q ≡ Fixed → (q ≡ k) ⊎ (q ≢ k) → (line_at d i).constant ≡ pos 0
    fixed_row i q b e m (inl z) = (fix_held k d s.sound held i b (e ∙ ap Quantity z)).0
    fixed_row i q b e m (inr n) = s.fixed i q b e (sym (other i q b e n) ∙ m)

    is_zero-false : (z : ℤ) → not (is_zero z) ≡ false → z ≡ pos 0
    is_zero-false (pos zero) e = refl
    is_zero-false (pos (suc n)) e = absurd (cc)
    is_zero-false (negsuc n) e = absurd (cc)

    fixed-true : (m : Mark) → not (is_fixed m) ≡ false → m ≡ Fixed
    fixed-true Unasked e = absurd (cc)
    fixed-true Required e = absurd (cc)
    fixed-true Fixed e = refl

    still : (i q j : ℕ) → i < length d.rows → row_label d i ≡ Quantity q → mark_at (marked d k Fixed) q ≡ Fixed → j < length d.columns → mark_of_label d (column_label d j) ≢ Fixed → (q ≡ k) ⊎ (q ≢ k) → cell_at d i j ≡ pos 0
    still i q j b e m l loose (inl z) = go (and_cases (not (is_fixed (mark_of_label d (column_label d j)))) (not (is_zero (cell_at d i j))) (loose_none d i (length d.columns) (fix_held k d s.sound held i b (e ∙ ap Quantity z)).1 j l))
      where
        go : (not (is_fixed (mark_of_label d (column_label d j))) ≡ false) ⊎ (not (is_zero (cell_at d i j)) ≡ false) → cell_at d i j ≡ pos 0
        go (inl f) = absurd (loose (fixed-true (mark_of_label d (column_label d j)) f))
        go (inr f) = is_zero-false (cell_at d i j) f
    still i q j b e m l loose (inr n) = s.still i q j b e (sym (other i q b e n) ∙ m) l loose

-- ---- where a step does not hold, the quantity has a row
pub raise_there : (k : ℕ) (d : Dictionary) → (raise_look k d ≡ over Held) ⊎ ((i : ℕ) × RowIs d (Quantity k) i)
raise_there k d = go (row_of d (Quantity k)) refl
  where
    go : (o : Option ℕ) → row_of d (Quantity k) ≡ o → (raise_place d o ≡ over Held) ⊎ ((i : ℕ) × RowIs d (Quantity k) i)
    go None q = inl refl
    go (Some i) q = inr (i, row_found d (Quantity k) i q)

pub fix_there : (k : ℕ) (d : Dictionary) → (fix_look k d ≡ over Held) ⊎ ((i : ℕ) × RowIs d (Quantity k) i)
fix_there k d = go (row_of d (Quantity k)) refl
  where
    go : (o : Option ℕ) → row_of d (Quantity k) ≡ o → (fix_place d o ≡ over Held) ⊎ ((i : ℕ) × RowIs d (Quantity k) i)
    go None q = inl refl
    go (Some i) q = inr (i, row_found d (Quantity k) i q)

pub row_level : (k : ℕ) (d : Dictionary) (i : ℕ) → InStep k d → RowIs d (Quantity k) i → IsLevel d
row_level k d i s w = level_of k d s (λ j h z. s.sound.apart i j w.below h (w.label ∙ sym z))
