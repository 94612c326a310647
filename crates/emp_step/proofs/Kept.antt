-- What a step keeps between its turns.
use Rattle.std.proofs.Common.{◌≡◌, ◌≢◌, ℕ, ◌+◌, ◌-◌, ◌<◌, ◌≤◌, ◌⊎◌, inl, inr, ℤ, pos, Bool, true, false, cond, nat_lt, List, length, get_or, Some, arith, refl, sym, ap, ap₂, subst, ◌∙◌}
use Rattle.std.proofs.lemmas.Bool.{cases_eq}
use Rattle.emp_turns.specs.Choice.{Free, Required as required, Mark as TurnMark, IsLevel as IsTurnLevel, Step}
use Rattle.emp_turns.specs.Layout.{table_of, IsPivot}
use Rattle.emp_turns.proofs.Layouts.{is_table, row_is}
use Rattle.emp_turns.proofs.Chooser.{step_of}
use Rattle.emp_dict.specs.declared.label.Label.{Label}
use Rattle.emp_dict.specs.declared.label.Label.TheVariants.{Base, Quantity, Objective}
use Rattle.emp_dict.specs.declared.label.Mark.{Mark}
use Rattle.emp_dict.specs.declared.label.Mark.TheVariants.{Unasked, Required, Fixed}
use Rattle.emp_dict.specs.declared.label.Aim.{Aim}
use Rattle.emp_dict.specs.Dictionary.{Dictionary, IsSound, IsLabel, line_at, cell_at, row_label, column_label, mark_at, exchanged}
use Rattle.emp_dict.specs.Chosen.{labels, layout_of, index_in, mark_by_index, turn_aim, turn_mark, aimed_row, aim_stops}
use Rattle.emp_algebra.specs.Vector.{cell}
use Rattle.emp_line.specs.declared.line.Line.{Line}
use Rattle.emp_step.specs.Steps.{mark_of_label}
use Rattle.emp_step.specs.Levels.{MayBeColumn, IsLevel}
use Rattle.emp_step.proofs.Given.{PivotFits, layout_sound, pivot_sound, pivot_is}
use Rattle.emp_step.proofs.Marks.{mark_objective, quantity_of, MarkedRow}
use Rattle.emp_step.proofs.Looks.{Exchanges, chosen_exchange, Moving, moving_fits}
use Rattle.emp_step.proofs.After.{After, after_is, rows_count, columns_count, mark_stays, row_here, row_other, column_here, column_other, line_still}
use Rattle.emp_step.proofs.Feasible.{RequiredHold, feasible_to}

abbrev cell_of : Line → ℕ → ℤ
cell_of l j = cell l.cells j

-- while quantity k is asked for, it may have a column before it has its mark
pub record InStep (k : ℕ) (d : Dictionary) : Type 0 where
  pub sound : IsSound d
  pub columns : (j : ℕ) → j < length d.columns → (column_label d j ≡ Quantity k) ⊎ MayBeColumn d (column_label d j)
  pub required : RequiredHold d
  pub fixed : (i q : ℕ) → i < length d.rows → row_label d i ≡ Quantity q → mark_at d q ≡ Fixed → (line_at d i).constant ≡ pos 0
  pub still : (i q j : ℕ) → i < length d.rows → row_label d i ≡ Quantity q → mark_at d q ≡ Fixed → j < length d.columns → mark_of_label d (column_label d j) ≢ Fixed → cell_at d i j ≡ pos 0

pub in_step : (k : ℕ) (d : Dictionary) → IsSound d → IsLevel d → InStep k d
in_step k d s l = record { sound = s; columns = λ j h. inr (l.columns j h); required = l.required; fixed = l.fixed; still = l.still }

pub level_of : (k : ℕ) (d : Dictionary) → InStep k d → ((j : ℕ) → j < length d.columns → column_label d j ≢ Quantity k) → IsLevel d
level_of k d s none = record { columns = λ j h. go j h (s.columns j h); required = s.required; fixed = s.fixed; still = s.still }
  where
    go : (j : ℕ) → j < length d.columns → (column_label d j ≡ Quantity k) ⊎ MayBeColumn d (column_label d j) → MayBeColumn d (column_label d j)
    go j h (inl e) = absurd (none j h e)
    go j h (inr m) = m

-- ---- a pivot keeps it, where the column may move, the row is that of k or of a Required quantity, and Required quantities stay at least 0
mark_of_same : (d e : Dictionary) → ((q : ℕ) → mark_at e q ≡ mark_at d q) → (w : Label) → mark_of_label e w ≡ mark_of_label d w
mark_of_same d e h (Base b) = refl
mark_of_same d e h (Quantity q) = h q
mark_of_same d e h Objective = refl

may_same : (d e : Dictionary) → ((q : ℕ) → mark_at e q ≡ mark_at d q) → (w : Label) → MayBeColumn d w → MayBeColumn e w
may_same d e h (Base b) m = tt
may_same d e h (Quantity q) m = λ z. m (sym (h q) ∙ z)
may_same d e h Objective m = m

required_may : (d : Dictionary) (q : ℕ) (w : Label) → w ≡ Quantity q → mark_at d q ≡ Required → MayBeColumn d w
required_may d q w e m = subst (λ x. MayBeColumn d x) (sym e) (λ z. let t : Unasked ≡ Required = sym z ∙ m in absurd (cc))

abbrev pub Leaves : ℕ → Dictionary → ℕ → Type 0
Leaves k d r = (row_label d r ≡ Quantity k) ⊎ MarkedRow d (row_label d r) Required

pub pivot_keeps : (k : ℕ) (d e : Dictionary) (r j : ℕ) → InStep k d → PivotFits d r j → exchanged d r j ≡ Some e → Leaves k d r → mark_of_label d (column_label d j) ≢ Fixed → RequiredHold e → InStep k e
pivot_keeps k d e r j s f x leaves moves hold = record {
  sound = pivot_sound d e r j s.sound f x;
  columns = λ h l. columns h (subst (λ n. h < n) (columns_count d e r j a) l) (cases_eq h j);
  required = hold;
  fixed = λ i q l w m. ap (λ c. c.constant) (same i q l w m) ∙ s.fixed i q (row_in i l) (label_before i q l w m) (sym (mark_stays d e r j a q) ∙ m);
  still = λ i q h l w m b loose. still i q h l w m (subst (λ n. h < n) (columns_count d e r j a) b) loose (cases_eq h j);
}
  where
    a : After d e r j
    a = after_is d e r j x

    marks : (q : ℕ) → mark_at e q ≡ mark_at d q
    marks q = mark_stays d e r j a q

    row_in : (i : ℕ) → i < length e.rows → i < length d.rows
    row_in i l = subst (λ n. i < n) (rows_count d e r j a) l

    -- a Fixed row of e is not the one that was exchanged
    not_here : (i q : ℕ) → row_label e i ≡ Quantity q → mark_at e q ≡ Fixed → i ≢ r
    not_here i q w m z =
        let l : column_label d j ≡ Quantity q = sym (ap (row_label e) z ∙ row_here d e r j a f.row) ∙ w in
        moves (ap (mark_of_label d) l ∙ (sym (marks q) ∙ m))

    label_before : (i q : ℕ) → i < length e.rows → row_label e i ≡ Quantity q → mark_at e q ≡ Fixed → row_label d i ≡ Quantity q
    label_before i q l w m = sym (row_other d e r j a i (not_here i q w m)) ∙ w

    cell_zero : (i q : ℕ) → i < length e.rows → row_label e i ≡ Quantity q → mark_at e q ≡ Fixed → cell_at d i j ≡ pos 0
    cell_zero i q l w m = s.still i q j (row_in i l) (label_before i q l w m) (sym (marks q) ∙ m) f.column moves

    same : (i q : ℕ) → i < length e.rows → row_label e i ≡ Quantity q → mark_at e q ≡ Fixed → line_at e i ≡ line_at d i
    same i q l w m = line_still d e r j a i (subst (λ n. i < n) s.sound.count (row_in i l)) (not_here i q w m) (cell_zero i q l w m)

    still : (i q h : ℕ) → i < length e.rows → row_label e i ≡ Quantity q → mark_at e q ≡ Fixed → h < length d.columns → mark_of_label e (column_label e h) ≢ Fixed → (h ≡ j) ⊎ (h ≢ j) → cell_at e i h ≡ pos 0
    still i q h l w m b loose (inl z) = ap (λ c. cell_of c h) (same i q l w m) ∙ (ap (cell_at d i) z ∙ cell_zero i q l w m)
    still i q h l w m b loose (inr n) =
        ap (λ c. cell_of c h) (same i q l w m)
        ∙ s.still i q h (row_in i l) (label_before i q l w m) (sym (marks q) ∙ m) b (λ z. loose (mark_of_same d e marks (column_label e h) ∙ (ap (mark_of_label d) (column_other d e r j a h n) ∙ z)))

    columns : (h : ℕ) → h < length d.columns → (h ≡ j) ⊎ (h ≢ j) → (column_label e h ≡ Quantity k) ⊎ MayBeColumn e (column_label e h)
    columns h l (inl z) = go leaves
      where
        label : column_label e h ≡ row_label d r
        label = ap (column_label e) z ∙ column_here d e r j a f.column

        go : Leaves k d r → (column_label e h ≡ Quantity k) ⊎ MayBeColumn e (column_label e h)
        go (inl w) = inl (label ∙ w)
        go (inr m) = inr (required_may e m.number (column_label e h) (label ∙ m.label) (marks m.number ∙ m.mark))
    columns h l (inr n) = go (s.columns h l)
      where
        label : column_label e h ≡ column_label d h
        label = column_other d e r j a h n

        go : (column_label d h ≡ Quantity k) ⊎ MayBeColumn d (column_label d h) → (column_label e h ≡ Quantity k) ⊎ MayBeColumn e (column_label e h)
        go (inl w) = inl (label ∙ w)
        go (inr m) = inr (may_same d e marks (column_label e h) (subst (λ w. MayBeColumn d w) (sym label) m))

-- ---- a turn as one of the law
abbrev marks_by : ℕ → List Mark → ℕ → TurnMark
marks_by n ms v = cond (nat_lt v n) Free (turn_mark (get_or ms (v - n) Unasked))

pub marks_are : (d e : Dictionary) → length e.columns ≡ length d.columns → e.marks ≡ d.marks → mark_by_index e ≡ mark_by_index d
marks_are d e c m = ap₂ marks_by c m

module _ (d : Dictionary) (a : Aim) (r j : ℕ) (s : IsSound d) (m : Moving d a r j) where
  pub turn_step : (e : Dictionary) → exchanged d r j ≡ Some e → Step (labels d) (mark_by_index d) (turn_aim d a) (table_of (layout_of d)) (table_of (layout_of e))
  turn_step e x =
      let c : Exchanges d a r j = chosen_exchange d a r j m.chose in
      let p : IsPivot (layout_of d) r c.entry.place (layout_of e) = subst (λ h. IsPivot (layout_of d) r h (layout_of e)) (sym c.column) (pivot_is d e r j s (moving_fits d a r j s m) x) in
      step_of (labels d) (mark_by_index d) (turn_aim d a) (layout_of d) (layout_of e) (aimed_row d a) c.entry r (layout_sound d s) m.aimed refl m.behind c.enters c.leaves p

-- the label of the objective, and no other, has the greatest index
rest_of : (d : Dictionary) → IsSound d → (a : Aim) → aimed_row d a < length d.rows → (aim_stops a ≡ true → (k : ℕ) × (row_label d (aimed_row d a) ≡ Quantity k)) → (w : ℕ) → length d.columns + length d.marks ≤ w → w < labels d → ((table_of (layout_of d)).is_row w ≡ true) × (mark_by_index d w ≢ required) × (w ≡ (turn_aim d a).row → aim_stops a ≡ false)
rest_of d s a aimed own w h b = (
  ap (λ v. (table_of (layout_of d)).is_row v) (sym last) ∙ row_is (labels d) (layout_of d) (layout_sound d s) (length d.marks) there,
  λ z. let q : mark_by_index d (index_in d Objective) ≡ required = ap (mark_by_index d) is ∙ z in let o = mark_objective d in absurd (cc),
  λ z. stops (aim_stops a) refl z,
)
  where
    there : length d.marks < length d.rows
    there = let o = s.one_objective in omega arith

    is : index_in d Objective ≡ w
    is = let o = s.one_objective in omega arith

    last : index_in d (row_label d (length d.marks)) ≡ w
    last = ap (index_in d) (s.objective there) ∙ is

    stops : (b : Bool) → aim_stops a ≡ b → w ≡ (turn_aim d a).row → aim_stops a ≡ false
    stops false e z = e
    stops true e z =
        let q = own e in
        let k = quantity_of (length d.columns) (length d.marks) (length d.rows) q.0 (subst (λ v. IsLabel (length d.columns) (length d.marks) (length d.rows) v) q.1 (s.row_labels (aimed_row d a) aimed)) in
        let i : w ≡ index_in d (Quantity q.0) = z ∙ ap (index_in d) q.1 in
        let k0 = k.0 in
        let k1 = k.1 in
        absurd (omega arith)

pub turn_level : (d : Dictionary) → IsSound d → RequiredHold d → (a : Aim) → aimed_row d a < length d.rows → (aim_stops a ≡ true → (k : ℕ) × (row_label d (aimed_row d a) ≡ Quantity k)) → IsTurnLevel (labels d) (length d.columns + length d.marks) (mark_by_index d) (turn_aim d a) (table_of (layout_of d))
turn_level d s hold a aimed own = record {
  aimed = (layout_sound d s).row_below (aimed_row d a) aimed;
  sound = is_table (labels d) (layout_of d) (layout_sound d s);
  feasible = feasible_to d s hold;
  rest = rest_of d s a aimed own;
}
