-- The turns of the three steps: their pivots can be made, and keep what a step keeps.
use Rattle.std.proofs.Common.{◌≡◌, ◌≢◌, ℕ, zero, suc, ◌+◌, ◌<◌, ◌⊎◌, inl, inr, pos, ◌*ℤ◌, ◌≤ℤ◌, ◌<ℤ◌, Bool, true, false, cond, not, nat_lt, length, Option, Some, None, arith, refl, sym, ap, ap₂, subst, ◌∙◌}
use Rattle.std.proofs.lemmas.Bool.{and_parts, cases_eq, both_ways}
use Rattle.emp_algebra.specs.Vector.{is_zero}
use Rattle.emp_turns.specs.Choice.{Way, toward, MayMove, Required as required, IsFeasible, IsLevel as IsTurnLevel, IsExchange}
use Rattle.emp_turns.specs.Layout.{table_of}
use Rattle.emp_turns.proofs.Laws as TurnLaws
use Rattle.emp_turns.proofs.Layouts.{is_table, row_is, column_is, constant_is, layout_after, is_exchange}
use Rattle.emp_turns.proofs.Kept.{zero_leaves}
use Rattle.emp_dict.specs.declared.label.Label.{Label}
use Rattle.emp_dict.specs.declared.label.Label.TheVariants.{Quantity, Objective}
use Rattle.emp_dict.specs.declared.label.Mark.{Mark}
use Rattle.emp_dict.specs.declared.label.Mark.TheVariants.{Unasked, Required, Fixed}
use Rattle.emp_dict.specs.declared.label.Aim.{Aim}
use Rattle.emp_dict.specs.declared.label.Aim.TheVariants.{Least}
use Rattle.emp_dict.specs.Dictionary.{Dictionary, IsSound, cell_at, row_label, column_label, exchanged}
use Rattle.emp_dict.specs.Chosen.{labels, layout_of, index_in, mark_by_index, turn_aim, aimed_row, aimed_way, aim_stops}
use Rattle.emp_step.specs.Steps.{Look, over, turn, mark_of_label, is_fixed, is_loose, lesser, first_loose, raise_look, fix_look, best_look}
use Rattle.emp_step.proofs.Given.{PivotFits, layout_sound, pivot_sound, pivot_is}
use Rattle.emp_step.proofs.Marks.{fixed_index, required_label}
use Rattle.emp_step.proofs.Repeats.{by_look, next}
use Rattle.emp_step.proofs.Looks.{Moving, moving_fits, chose, MovesRow, LeavesRow, raise_turn, fix_turn, best_turn}
use Rattle.emp_step.proofs.After.{After, after_is, rows_count, columns_count}
use Rattle.emp_step.proofs.Feasible.{RequiredHold, feasible_to, feasible_from}
use Rattle.emp_step.proofs.Kept.{InStep, pivot_keeps, Leaves, turn_step, turn_level, marks_are}

-- ---- the loose column
pub loose_found : (d : Dictionary) (r m j : ℕ) → first_loose d r m ≡ Some j → (j < m) × (is_loose d r j ≡ true)
loose_found d r zero j e = absurd (cc)
loose_found d r (suc m) j e = go (is_loose d r m) refl (first_loose d r m) refl e (λ q. loose_found d r m j q)
  where
    wider : (j < m) × (is_loose d r j ≡ true) → (j < suc m) × (is_loose d r j ≡ true)
    wider p = (let b = p.0 in omega arith, p.1)

    by : (best : ℕ) (b : Bool) → is_loose d r m ≡ true → first_loose d r m ≡ Some best → cond b (Some m) (Some best) ≡ Some j → (first_loose d r m ≡ Some j → (j < m) × (is_loose d r j ≡ true)) → (j < suc m) × (is_loose d r j ≡ true)
    by best true q f h rest = let same : m ≡ j = cc in (omega arith, subst (λ x. is_loose d r x ≡ true) same q)
    by best false q f h rest = let same : best ≡ j = cc in wider (rest (f ∙ ap Some same))

    go : (b : Bool) → is_loose d r m ≡ b → (o : Option ℕ) → first_loose d r m ≡ o → lesser d m b o ≡ Some j → (first_loose d r m ≡ Some j → (j < m) × (is_loose d r j ≡ true)) → (j < suc m) × (is_loose d r j ≡ true)
    go false q o f h rest = wider (rest (f ∙ h))
    go true q None f h rest = let same : m ≡ j = cc in (omega arith, subst (λ x. is_loose d r x ≡ true) same q)
    go true q (Some best) f h rest = by best (nat_lt (index_in d (column_label d m)) (index_in d (column_label d best))) q f h rest

pub loose_none : (d : Dictionary) (r m : ℕ) → first_loose d r m ≡ None → (h : ℕ) → h < m → is_loose d r h ≡ false
loose_none d r zero e h l = absurd (omega arith)
loose_none d r (suc m) e h l = go (is_loose d r m) refl (first_loose d r m) refl e (λ q. loose_none d r m q)
  where
    by : (best : ℕ) (b : Bool) → cond b (Some m) (Some best) ≡ None → is_loose d r h ≡ false
    by best true q = absurd (cc)
    by best false q = absurd (cc)

    last : (h ≡ m) ⊎ (h ≢ m) → is_loose d r m ≡ false → ((i : ℕ) → i < m → is_loose d r i ≡ false) → is_loose d r h ≡ false
    last (inl z) q rest = ap (is_loose d r) z ∙ q
    last (inr n) q rest = rest h (omega arith)

    go : (b : Bool) → is_loose d r m ≡ b → (o : Option ℕ) → first_loose d r m ≡ o → lesser d m b o ≡ None → (first_loose d r m ≡ None → (i : ℕ) → i < m → is_loose d r i ≡ false) → is_loose d r h ≡ false
    go false q o f z rest = last (cases_eq h m) q (rest (f ∙ z))
    go true q None f z rest = absurd (cc)
    go true q (Some best) f z rest = by best (nat_lt (index_in d (column_label d m)) (index_in d (column_label d best))) z

not_fixed : (m : Mark) → not (is_fixed m) ≡ true → m ≢ Fixed
not_fixed Unasked e = λ z. absurd (cc)
not_fixed Required e = λ z. absurd (cc)
not_fixed Fixed e = absurd (cc)

pub loose_parts : (d : Dictionary) (r j : ℕ) → is_loose d r j ≡ true → (mark_of_label d (column_label d j) ≢ Fixed) × (cell_at d r j ≢ pos 0)
loose_parts d r j e =
    let p = and_parts (not (is_fixed (mark_of_label d (column_label d j)))) (not (is_zero (cell_at d r j))) e in
    (not_fixed (mark_of_label d (column_label d j)) p.0, λ z. let q : not (is_zero (cell_at d r j)) ≡ false = ap (λ c. not (is_zero c)) z in both_ways (not (is_zero (cell_at d r j))) q p.1)

-- ---- each turn's pivot can be made
pub leaving_fits : (k : ℕ) (d : Dictionary) (r j : ℕ) → LeavesRow k d r j → PivotFits d r j
leaving_fits k d r j l =
    let f = loose_found d r (length d.columns) j l.loose in
    record { row = l.row.below; column = f.0; quantity = λ z. let w = l.row.label in let t : Objective ≡ Quantity k = sym z ∙ w in absurd (cc); nonzero = (loose_parts d r j f.1).1 }

-- ---- a turn that moves a row keeps the step
-- frames: what no pivot changes
labels_same : (d e : Dictionary) (r j : ℕ) → After d e r j → labels e ≡ labels d
labels_same d e r j a = ap₂ (λ m n. m + n) (rows_count d e r j a) (columns_count d e r j a)

feasible_after : (d e : Dictionary) (r j : ℕ) → After d e r j → IsSound e → IsFeasible (labels d) (mark_by_index d) (table_of (layout_of e)) → RequiredHold e
feasible_after d e r j a s f =
    feasible_from e s (subst (λ m. IsFeasible (labels e) m (table_of (layout_of e))) (sym (marks_are d e (columns_count d e r j a) a.marks)) (subst (λ n. IsFeasible n (mark_by_index d) (table_of (layout_of e))) (sym (labels_same d e r j a)) f))

may_not : (d : Dictionary) (w : Label) (g : Way) → MayMove (mark_by_index d (index_in d w)) g → mark_of_label d w ≢ Fixed
may_not d w g m z = subst (λ t. MayMove t g) (fixed_index d w z) m

module _ (k : ℕ) (d e : Dictionary) (a : Aim) (r j : ℕ) (s : InStep k d) (m : Moving d a r j) (own : aim_stops a ≡ true → row_label d (aimed_row d a) ≡ Quantity k) (x : exchanged d r j ≡ Some e) where
  pub turned_level : IsTurnLevel (labels d) (length d.columns + length d.marks) (mark_by_index d) (turn_aim d a) (table_of (layout_of e)) × ((table_of (layout_of e)).is_row (turn_aim d a).row ≡ true → aim_stops a ≡ true → (toward (aimed_way a) *ℤ (table_of (layout_of e)).constant (turn_aim d a).row) ≤ℤ pos 0)
  turned_level =
      TurnLaws.steps_keep (labels d) (length d.columns + length d.marks) (mark_by_index d) (turn_aim d a) (table_of (layout_of d)) (table_of (layout_of e)) (turn_level d s.sound s.required a m.aimed m.own) (turn_step d a r j s.sound m e x)

  moving_leaves : Leaves k d r
  moving_leaves = let c = chose d a r j m.chose in go c.way c.choice.stops.below c.choice.stops.why
    where
      go : (g : Way) → r < length d.rows → ((mark_by_index d (index_in d (row_label d r)) ≡ required) × ((toward g *ℤ cell_at d r j) <ℤ pos 0)) ⊎ ((r ≡ aimed_row d a) × (aim_stops a ≡ true)) → Leaves k d r
      go g b (inl p) = inr (required_label d (row_label d r) (s.sound.row_labels r b) p.0)
      go g b (inr p) = inl (ap (row_label d) p.0 ∙ own p.1)

  moving_moves : mark_of_label d (column_label d j) ≢ Fixed
  moving_moves = let c = chose d a r j m.chose in may_not d (column_label d j) c.way c.choice.opens.moves

  pub moving_keeps : InStep k e
  moving_keeps =
      let f = moving_fits d a r j s.sound m in
      pivot_keeps k d e r j s f x moving_leaves moving_moves (feasible_after d e r j (after_is d e r j x) (pivot_sound d e r j s.sound f x) turned_level.0.feasible)

module _ (k : ℕ) (d e : Dictionary) (r j : ℕ) (s : InStep k d) (l : LeavesRow k d r j) (x : exchanged d r j ≡ Some e) where
  exchange_there : IsExchange (labels d) (table_of (layout_of d)) (index_in d (column_label d j)) (index_in d (row_label d r)) (table_of (layout_of e))
  exchange_there = is_exchange (labels d) (layout_of d) (layout_of e) r j (layout_sound d s.sound) (pivot_is d e r j s.sound (leaving_fits k d r j l) x)

  after_feasible : IsFeasible (labels d) (mark_by_index d) (table_of (layout_of e))
  after_feasible =
      let f = leaving_fits k d r j l in
      let h = layout_sound d s.sound in
      let p = pivot_is d e r j s.sound f x in
      zero_leaves (labels d) (mark_by_index d) (table_of (layout_of d)) (table_of (layout_of e)) (index_in d (column_label d j)) (index_in d (row_label d r)) (is_table (labels d) (layout_of d) h) (is_table (labels d) (layout_of e) (layout_after (labels d) (layout_of d) (layout_of e) r j h p)) exchange_there (h.column_below j f.column) (column_is (labels d) (layout_of d) h j f.column) (h.row_below r f.row) (row_is (labels d) (layout_of d) h r f.row) (constant_is (labels d) (layout_of d) h r f.row ∙ l.zero_there) (feasible_to d s.sound s.required)

  pub leaving_keeps : InStep k e
  leaving_keeps =
      let f = leaving_fits k d r j l in
      let p = loose_found d r (length d.columns) j l.loose in
      pivot_keeps k d e r j s f x (inl l.row.label) (loose_parts d r j p.1).0 (feasible_after d e r j (after_is d e r j x) (pivot_sound d e r j s.sound f x) after_feasible)

-- ---- the three looks
pub record Turned (look : Dictionary → Look) (d e : Dictionary) : Type 0 where
  pub row : ℕ
  pub column : ℕ
  pub is : look d ≡ turn row column
  pub made : exchanged d row column ≡ Some e

pub turned_of : (look : Dictionary → Look) (d e : Dictionary) → next look d ≡ Some e → Turned look d e
turned_of look d e h = go (look d) refl h
  where
    go : (l : Look) → look d ≡ l → by_look d l ≡ Some e → Turned look d e
    go (over o) q h = absurd (cc)
    go (turn r j) q h = record { row = r; column = j; is = q; made = h }

row_moves_keeps : (k : ℕ) (d e : Dictionary) (r j : ℕ) → InStep k d → MovesRow k d r j → exchanged d r j ≡ Some e → InStep k e
row_moves_keeps k d e r j s m x = moving_keeps k d e m.aim r j s m.moving (λ q. m.label) x

pub raise_keeps : (k : ℕ) (d e : Dictionary) → InStep k d → next (raise_look k) d ≡ Some e → InStep k e
raise_keeps k d e s h = let t = turned_of (raise_look k) d e h in row_moves_keeps k d e t.row t.column s (raise_turn k d t.row t.column t.is) t.made

pub fix_keeps : (k : ℕ) (d e : Dictionary) → InStep k d → next (fix_look k) d ≡ Some e → InStep k e
fix_keeps k d e s h = let t = turned_of (fix_look k) d e h in go t.row t.column t.made (fix_turn k d t.row t.column t.is)
  where
    go : (r j : ℕ) → exchanged d r j ≡ Some e → MovesRow k d r j ⊎ LeavesRow k d r j → InStep k e
    go r j x (inl m) = row_moves_keeps k d e r j s m x
    go r j x (inr l) = leaving_keeps k d e r j s l x

pub best_keeps : (k : ℕ) (d e : Dictionary) → InStep k d → length d.marks < length d.rows → next best_look d ≡ Some e → InStep k e
best_keeps k d e s there h = let t = turned_of best_look d e h in moving_keeps k d e Least t.row t.column s (best_turn d t.row t.column there t.is) (λ q. absurd (cc)) t.made

-- ---- what a caller of `pivot` needs
pub raise_fits : (k : ℕ) (d : Dictionary) (r j : ℕ) → IsSound d → raise_look k d ≡ turn r j → PivotFits d r j
raise_fits k d r j s h = let m = raise_turn k d r j h in moving_fits d m.aim r j s m.moving

pub fix_fits : (k : ℕ) (d : Dictionary) (r j : ℕ) → IsSound d → fix_look k d ≡ turn r j → PivotFits d r j
fix_fits k d r j s h = go (fix_turn k d r j h)
  where
    go : MovesRow k d r j ⊎ LeavesRow k d r j → PivotFits d r j
    go (inl m) = moving_fits d m.aim r j s m.moving
    go (inr l) = leaving_fits k d r j l

pub best_fits : (d : Dictionary) (r j : ℕ) → IsSound d → length d.marks < length d.rows → best_look d ≡ turn r j → PivotFits d r j
best_fits d r j s there h = moving_fits d Least r j s (best_turn d r j there h)
