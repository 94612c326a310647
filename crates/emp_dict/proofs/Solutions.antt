-- An exchange keeps the solutions, at any values of the labels.
use Rattle.std.proofs.Common.{◌≡◌, ◌≢◌, ◌↔◌, ◌⊎◌, inl, inr, ℕ, ◌<◌, ℤ, pos, ◌*ℤ◌, ◌<ℤ◌, false, List, map, length, set, get_or, Option, Some, None, arith, refl, sym, ap, ap₂, subst, ◌∙◌}
use Rattle.std.proofs.lemmas.Bool.{cases_eq}
use Rattle.std.proofs.lemmas.List.{get_or-map, map-set, length-map}
use Rattle.emp_algebra.specs.Vector.{cell, dot, is_zero}
use Rattle.emp_algebra.proofs.Order.{linear}
use Rattle.emp_line.specs.declared.line.Line.{Line}
use Rattle.emp_line.specs.Pivot.{no_line, turned, pivoted}
use Rattle.emp_line.proofs.Steps.{zero_no}
use Rattle.emp_line.proofs.Exchange.{defect, abs_pos, length-turned}
use Rattle.emp_line.proofs.Moves.{Moves, moved_is, turned_same, Pivots, pivoted_from_is}
use Rattle.emp_turns.specs.Table.{total}
use Rattle.emp_turns.specs.Layout.{RowsHold, IsRelabelled, IsPivot}
use Rattle.emp_turns.proofs.Totals.{total_same}
use Rattle.emp_turns.proofs.Layouts.{dot_is}
use Rattle.emp_dict.specs.declared.label.Label.{Label}
use Rattle.emp_dict.specs.declared.label.Label.TheVariants.{Objective}
use Rattle.emp_dict.specs.Dictionary.{Dictionary, IsSound, RowsTrue, line_at, cell_at, row_label, column_label, exchanged, with_lines}
use Rattle.emp_dict.specs.Chosen.{index, index_in, layout_of}
use Rattle.emp_dict.specs.Laws.{IsExchanged}
use Rattle.emp_dict.proofs.Soundness.{row_here, row_there, column_here, column_there, row_count, column_count, exchange_sound}

-- what the lines are, where the exchange gives a dictionary
pub record Exchanged (d : Dictionary) (r j : ℕ) (e : Dictionary) : Type 0 where
  pub lines : List Line
  pub pivot : pivoted d.lines r j ≡ Some lines
  pub is : record { lines = lines; rows = set d.rows r (column_label d j); columns = set d.columns j (row_label d r); marks = d.marks } ≡ e

pub exchanged_is : (d : Dictionary) (r j : ℕ) (e : Dictionary) → exchanged d r j ≡ Some e → Exchanged d r j e
exchanged_is d r j e h = go (pivoted d.lines r j) refl h
  where
    go : (o : Option (List Line)) → pivoted d.lines r j ≡ o → with_lines d r j o ≡ Some e → Exchanged d r j e
    go None q p = absurd (cc)
    go (Some ls) q p = record { lines = ls; pivot = q; is = let k : record { lines = ls; rows = set d.rows r (column_label d j); columns = set d.columns j (row_label d r); marks = d.marks } ≡ e = cc in k }

abbrev pub values_of : Dictionary → (Label → ℤ) → List ℤ
values_of d f = map (λ w. f w) d.columns

-- a row is true exactly where nothing is missing
abbrev pub off : Dictionary → ℤ → (Label → ℤ) → ℕ → ℤ
off d s f i = defect s (line_at d i) (f (row_label d i)) (values_of d f)

to_off : (d : Dictionary) (s : ℤ) (f : Label → ℤ) → RowsTrue d s f → (i : ℕ) → i < length d.rows → off d s f i ≡ pos 0
to_off d s f h i k = let e = h i k in omega (arith, linear)

from_off : (d : Dictionary) (s : ℤ) (f : Label → ℤ) → ((i : ℕ) → i < length d.rows → off d s f i ≡ pos 0) → RowsTrue d s f
from_off d s f h i k = let e = h i k in omega (arith, linear)

module _ (d : Dictionary) (r j : ℕ) (ls : List Line) (s : IsSound d) (row_in : r < length d.rows) (column_in : j < length d.columns) (quantity : row_label d r ≢ Objective) (nonzero : cell_at d r j ≢ pos 0) (e : pivoted d.lines r j ≡ Some ls) where
  abbrev u : Dictionary
  u = record { lines = ls; rows = set d.rows r (column_label d j); columns = set d.columns j (row_label d r); marks = d.marks }

  abbrev head : Line
  head = turned (line_at d r) j

  sound : IsSound u
  sound = exchange_sound d r j ls s row_in column_in quantity nonzero e

  other : is_zero (cell_at d r j) ≡ false
  other = zero_no (cell_at d r j) nonzero

  in_lines : (i : ℕ) → i < length d.rows → i < length d.lines
  in_lines i h = omega (arith, s.count)

  width : (i : ℕ) → i < length d.rows → length (line_at d i).cells ≡ length d.columns
  width i h = (s.lines i no_line (in_lines i h)).width

  v : Pivots 0 head r j d.lines ls
  v = pivoted_from_is 0 head r j d.lines ls e

  line_r : line_at u r ≡ head
  line_r = v.pivot r (in_lines r row_in) (omega arith)

  moves : (i : ℕ) → i < length d.rows → i ≢ r → Moves head j (line_at d i) (line_at u i)
  moves i l n =
      let w = width i l in
      moved_is head (line_at d i) (get_or ls i no_line) j (abs_pos (cell_at d r j) other) (s.lines i no_line (in_lines i l)).positive (length-turned (line_at d r) j ∙ (width r row_in ∙ sym w)) (omega arith) (v.others i (in_lines i l) (λ q. n (omega arith)))

  module _ (t : ℤ) (f : Label → ℤ) where
    abbrev ws : List ℤ
    ws = values_of d f

    in_row : j < length (line_at d r).cells
    in_row = omega (arith, width r row_in)

    in_ws : j < length ws
    in_ws = omega (arith, length-map d.columns (λ w. f w))

    values : values_of u f ≡ set ws j (f (row_label d r))
    values = map-set (λ w. f w) d.columns j (row_label d r)

    read : cell ws j ≡ f (column_label d j)
    read = get_or-map (λ w. f w) d.columns j Objective (pos 0) column_in

    step : (off d t f r ≡ pos 0) ↔ (defect t head (cell ws j) (set ws j (f (row_label d r))) ≡ pos 0)
    step = turned_same t (line_at d r) (f (row_label d r)) ws j other in_row in_ws

    at_head : off u t f r ≡ defect t head (cell ws j) (set ws j (f (row_label d r)))
    at_head = ap₂ (λ l w. defect t l (f w) (values_of u f)) line_r (row_here d r j ls s row_in column_in quantity nonzero e) ∙ ap₂ (λ y z. defect t head y z) (sym read) values

    at_rest : (i : ℕ) → i ≢ r → off u t f i ≡ defect t (line_at u i) (f (row_label d i)) (set ws j (f (row_label d r)))
    at_rest i n = ap₂ (λ w z. defect t (line_at u i) (f w) z) (row_there d r j ls s row_in column_in quantity nonzero e i n) values

    there : ((i : ℕ) → i < length d.rows → off d t f i ≡ pos 0) → (i : ℕ) → i < length d.rows → (i ≡ r) ⊎ (i ≢ r) → off u t f i ≡ pos 0
    there a i l (inl q) = subst (λ n. off u t f n ≡ pos 0) (sym q) (at_head ∙ step.0 (a r row_in))
    there a i l (inr n) = at_rest i n ∙ ((moves i l n).same t (f (row_label d i)) (f (row_label d r)) ws in_ws (step.0 (a r row_in))).0 (a i l)

    here : ((i : ℕ) → i < length d.rows → off u t f i ≡ pos 0) → (i : ℕ) → i < length d.rows → (i ≡ r) ⊎ (i ≢ r) → off d t f i ≡ pos 0
    here a i l (inl q) = subst (λ n. off d t f n ≡ pos 0) (sym q) (step.1 (sym at_head ∙ a r row_in))
    here a i l (inr n) = ((moves i l n).same t (f (row_label d i)) (f (row_label d r)) ws in_ws (sym at_head ∙ a r row_in)).1 (sym (at_rest i n) ∙ a i l)

    pub solutions_same : RowsTrue d t f ↔ RowsTrue u t f
    solutions_same = (
      λ a. from_off u t f (λ i l. there (to_off d t f a) i (omega (arith, row_count d r j ls s row_in column_in quantity nonzero e)) (cases_eq i r)),
      λ a. from_off d t f (λ i l. here (λ b m. to_off u t f a b (omega (arith, row_count d r j ls s row_in column_in quantity nonzero e))) i l (cases_eq i r)),
    )

pub exchanges_keep : (d e : Dictionary) (r j : ℕ) → IsExchanged d r j e → IsSound e × ((s : ℤ) (f : Label → ℤ) → RowsTrue d s f ↔ RowsTrue e s f)
exchanges_keep d e r j h =
    let x = exchanged_is d r j e h.gives in
    subst (λ u. IsSound u × ((s : ℤ) (f : Label → ℤ) → RowsTrue d s f ↔ RowsTrue u s f)) x.is
    (exchange_sound d r j x.lines h.sound h.row h.column h.quantity h.nonzero x.pivot, λ s f. solutions_same d r j x.lines h.sound h.row h.column h.quantity h.nonzero x.pivot s f)

-- ---- by places
-- what a line says, as a sum over places
sum_is : (d : Dictionary) (x : ℕ → ℤ) (i : ℕ) → IsSound d → i < length d.rows → dot (line_at d i).cells (values_of d (λ w. x (index_in d w))) ≡ total (length d.columns) (λ l. cell_at d i l *ℤ x (index_in d (column_label d l)))
sum_is d x i s k =
    let w : length (line_at d i).cells ≡ length d.columns = (s.lines i no_line (omega (arith, s.count))).width in
    dot_is (line_at d i).cells (values_of d (λ w. x (index_in d w))) (length d.columns) (omega arith)
    ∙ total_same (length d.columns) (λ l. cell_at d i l *ℤ cell (values_of d (λ w. x (index_in d w))) l) (λ l. cell_at d i l *ℤ x (index_in d (column_label d l)))
    (λ l b. ap (λ z. cell_at d i l *ℤ z) (get_or-map (λ w. x (index_in d w)) d.columns l Objective (pos 0) b))

to_true : (d : Dictionary) (t : ℤ) (x : ℕ → ℤ) → IsSound d → RowsHold (layout_of d) t x → RowsTrue d t (λ w. x (index_in d w))
to_true d t x s h i k = let e = h i k in let q = sum_is d x i s k in omega (arith, linear)

from_true : (d : Dictionary) (t : ℤ) (x : ℕ → ℤ) → IsSound d → RowsTrue d t (λ w. x (index_in d w)) → RowsHold (layout_of d) t x
from_true d t x s h i k = let e = h i k in let q = sum_is d x i s k in omega (arith, linear)

module _ (d : Dictionary) (r j : ℕ) (ls : List Line) (s : IsSound d) (row_in : r < length d.rows) (column_in : j < length d.columns) (quantity : row_label d r ≢ Objective) (nonzero : cell_at d r j ≢ pos 0) (e : pivoted d.lines r j ≡ Some ls) where
  abbrev after : Dictionary
  after = record { lines = ls; rows = set d.rows r (column_label d j); columns = set d.columns j (row_label d r); marks = d.marks }

  after_sound : IsSound after
  after_sound = exchange_sound d r j ls s row_in column_in quantity nonzero e

  -- the index of a label does not change
  index_same : (w : Label) → index_in after w ≡ index_in d w
  index_same w = ap (λ n. index n (length d.marks) w) (column_count d r j ls s row_in column_in quantity nonzero e)

  relabelled : IsRelabelled (layout_of d) r j (layout_of after)
  relabelled = record {
    rows = row_count d r j ls s row_in column_in quantity nonzero e;
    columns = column_count d r j ls s row_in column_in quantity nonzero e;
    row_in = row_in;
    column_in = column_in;
    row = index_same (row_label after r) ∙ ap (index_in d) (row_here d r j ls s row_in column_in quantity nonzero e);
    column = index_same (column_label after j) ∙ ap (index_in d) (column_here d r j ls s row_in column_in quantity nonzero e);
    rows_rest = λ i l n. index_same (row_label after i) ∙ ap (index_in d) (row_there d r j ls s row_in column_in quantity nonzero e i n);
    columns_rest = λ i l n. index_same (column_label after i) ∙ ap (index_in d) (column_there d r j ls s row_in column_in quantity nonzero e i n);
  }

  -- the values of labels are the same by both counts
  values_same : (t : ℤ) (x : ℕ → ℤ) → RowsTrue after t (λ w. x (index_in d w)) ↔ RowsTrue after t (λ w. x (index_in after w))
  values_same t x = (
    subst (λ n. RowsTrue after t (λ w. x (index n (length d.marks) w))) (sym (column_count d r j ls s row_in column_in quantity nonzero e)),
    subst (λ n. RowsTrue after t (λ w. x (index n (length d.marks) w))) (column_count d r j ls s row_in column_in quantity nonzero e),
  )

  same : (t : ℤ) (x : ℕ → ℤ) → RowsHold (layout_of d) t x ↔ RowsHold (layout_of after) t x
  same t x =
      let k = solutions_same d r j ls s row_in column_in quantity nonzero e t (λ w. x (index_in d w)) in (
        λ h. from_true after t x after_sound ((values_same t x).0 (k.0 (to_true d t x s h))),
        λ h. from_true d t x s (k.1 ((values_same t x).1 (to_true after t x after_sound h))),
      )

  positive : (i : ℕ) → i < length d.rows → pos 0 <ℤ (line_at after i).denom
  positive i h = (after_sound.lines i no_line (let c = row_count d r j ls s row_in column_in quantity nonzero e in omega (arith, after_sound.count))).positive

  pivot_is : IsPivot (layout_of d) r j (layout_of after)
  pivot_is = record { labels = relabelled; positive = positive; same = same }

pub exchange_is_pivot : (d e : Dictionary) (r j : ℕ) → IsExchanged d r j e → IsPivot (layout_of d) r j (layout_of e)
exchange_is_pivot d e r j h =
    let x = exchanged_is d r j e h.gives in
    subst (λ u. IsPivot (layout_of d) r j (layout_of u)) x.is (pivot_is d r j x.lines h.sound h.row h.column h.quantity h.nonzero x.pivot)
