-- An exchange keeps what every dictionary keeps.
use Rattle.std.proofs.Common.{◌≡◌, ◌≢◌, ◌⊎◌, inl, inr, ℕ, ◌-◌, ◌<◌, pos, true, ◌||◌, List, length, set, Some, arith, sym, ap, ap₂, subst, ◌∙◌, length-set, get_or-set_same}
use Rattle.std.specs.List.{All}
use Rattle.std.proofs.lemmas.Bool.{cases_eq}
use Rattle.std.proofs.lemmas.List.{get_or-set_other}
use Rattle.emp_line.specs.declared.line.Line.{Line}
use Rattle.emp_line.specs.Pivot.{no_line, turned, pivoted}
use Rattle.emp_line.specs.Lines.{IsLine}
use Rattle.emp_line.proofs.Sound.{turned_sound}
use Rattle.emp_line.proofs.Lowest.{pivoted_lowest}
use Rattle.emp_line.proofs.Kept.{pivoted_from_sound}
use Rattle.emp_dict.specs.declared.label.Label.{Label}
use Rattle.emp_dict.specs.declared.label.Label.TheVariants.{Objective}
use Rattle.emp_dict.specs.declared.label.Mark.{Mark}
use Rattle.emp_dict.specs.Dictionary.{Dictionary, IsSound, IsLabel, is_label, marked, stands, line_at, cell_at, row_label, column_label}
use Rattle.emp_dict.proofs.Labels.{stands_place, place_stands, or_cases, or_first, or_second}

-- ---- a mark
pub marked_sound : (d : Dictionary) (k : ℕ) (m : Mark) → IsSound d → IsSound (marked d k m)
marked_sound d k m s =
    let e : length (set d.marks (k - 1) m) ≡ length d.marks = length-set d.marks (k - 1) m in
    record {
      lines = s.lines;
      lowest = s.lowest;
      count = s.count;
      quantities = omega (arith, e, s.quantities);
      one_objective = omega (arith, e, s.one_objective);
      objective = λ h. ap (row_label d) e ∙ s.objective (omega (arith, e));
      row_labels = λ i h. ap (λ n. is_label (length d.columns) n (length d.rows) (row_label d i)) e ∙ s.row_labels i h;
      column_labels = λ j h. ap (λ n. is_label (length d.columns) n (length d.rows) (column_label d j)) e ∙ s.column_labels j h;
      rows_once = s.rows_once;
      columns_once = s.columns_once;
      apart = s.apart;
      complete = λ w h. s.complete w (sym (ap (λ n. is_label (length d.columns) n (length d.rows) w) e) ∙ h);
      few_bases = s.few_bases;
      few_quantities = omega (arith, e, s.few_quantities);
    }

-- ---- an exchange
module _ (d : Dictionary) (r j : ℕ) (ls : List Line) (s : IsSound d) (row_in : r < length d.rows) (column_in : j < length d.columns) (quantity : row_label d r ≢ Objective) (nonzero : cell_at d r j ≢ pos 0) (e : pivoted d.lines r j ≡ Some ls) where
  abbrev u : Dictionary
  u = record { lines = ls; rows = set d.rows r (column_label d j); columns = set d.columns j (row_label d r); marks = d.marks }

  pub row_here : row_label u r ≡ column_label d j
  row_here = get_or-set_same d.rows r (column_label d j) Objective row_in

  pub row_there : (i : ℕ) → i ≢ r → row_label u i ≡ row_label d i
  row_there i n = get_or-set_other d.rows r i (column_label d j) Objective n

  pub column_here : column_label u j ≡ row_label d r
  column_here = get_or-set_same d.columns j (row_label d r) Objective column_in

  pub column_there : (h : ℕ) → h ≢ j → column_label u h ≡ column_label d h
  column_there h n = get_or-set_other d.columns j h (row_label d r) Objective n

  pub row_count : length u.rows ≡ length d.rows
  row_count = length-set d.rows r (column_label d j)

  pub column_count : length u.columns ≡ length d.columns
  column_count = length-set d.columns j (row_label d r)

  kept : All (IsLine (length d.columns)) ls × (length ls ≡ length d.lines)
  kept =
      let w = length d.columns in
      let in_lines : r < length d.lines = omega (arith, s.count) in
      let t : IsLine (length d.columns) (turned (line_at d r) j) = turned_sound (length d.columns) (line_at d r) j (s.lines r no_line in_lines) column_in nonzero in
      pivoted_from_sound (length d.columns) 0 (turned (line_at d r) j) r j d.lines ls t s.lines e

  -- a label of d is one of u
  label_is : (w v : Label) → w ≡ v → IsLabel (length d.columns) (length d.marks) (length d.rows) v → IsLabel (length u.columns) (length u.marks) (length u.rows) w
  label_is w v q h = ap₂ (λ b n. is_label b (length d.marks) n w) column_count row_count ∙ (ap (is_label (length d.columns) (length d.marks) (length d.rows)) q ∙ h)

  row_is : (i : ℕ) → i < length d.rows → (i ≡ r) ⊎ (i ≢ r) → IsLabel (length u.columns) (length u.marks) (length u.rows) (row_label u i)
  row_is i l (inl q) = label_is (row_label u i) (column_label d j) (ap (row_label u) q ∙ row_here) (s.column_labels j column_in)
  row_is i l (inr n) = label_is (row_label u i) (row_label d i) (row_there i n) (s.row_labels i l)

  column_is : (h : ℕ) → h < length d.columns → (h ≡ j) ⊎ (h ≢ j) → IsLabel (length u.columns) (length u.marks) (length u.rows) (column_label u h)
  column_is h l (inl q) = label_is (column_label u h) (row_label d r) (ap (column_label u) q ∙ column_here) (s.row_labels r row_in)
  column_is h l (inr n) = label_is (column_label u h) (column_label d h) (column_there h n) (s.column_labels h l)

  rows_differ : (i h : ℕ) → i < length d.rows → h < length d.rows → row_label u i ≡ row_label u h → (i ≡ r) ⊎ (i ≢ r) → (h ≡ r) ⊎ (h ≢ r) → i ≡ h
  rows_differ i h li lh q (inl a) (inl b) = a ∙ sym b
  rows_differ i h li lh q (inl a) (inr b) = absurd (s.apart h j lh column_in (sym (row_there h b) ∙ (sym q ∙ (ap (row_label u) a ∙ row_here))))
  rows_differ i h li lh q (inr a) (inl b) = absurd (s.apart i j li column_in (sym (row_there i a) ∙ (q ∙ (ap (row_label u) b ∙ row_here))))
  rows_differ i h li lh q (inr a) (inr b) = s.rows_once i h li lh (sym (row_there i a) ∙ (q ∙ row_there h b))

  columns_differ : (i h : ℕ) → i < length d.columns → h < length d.columns → column_label u i ≡ column_label u h → (i ≡ j) ⊎ (i ≢ j) → (h ≡ j) ⊎ (h ≢ j) → i ≡ h
  columns_differ i h li lh q (inl a) (inl b) = a ∙ sym b
  columns_differ i h li lh q (inl a) (inr b) = absurd (s.apart r h row_in lh (sym column_here ∙ (ap (column_label u) (sym a) ∙ (q ∙ column_there h b))))
  columns_differ i h li lh q (inr a) (inl b) = absurd (s.apart r i row_in li (sym column_here ∙ (ap (column_label u) (sym b) ∙ (sym q ∙ column_there i a))))
  columns_differ i h li lh q (inr a) (inr b) = s.columns_once i h li lh (sym (column_there i a) ∙ (q ∙ column_there h b))

  parted : (i h : ℕ) → i < length d.rows → h < length d.columns → row_label u i ≡ column_label u h → (i ≡ r) ⊎ (i ≢ r) → (h ≡ j) ⊎ (h ≢ j) → ⊥
  parted i h li lh q (inl a) (inl b) = s.apart r j row_in column_in (sym column_here ∙ (ap (column_label u) (sym b) ∙ (sym q ∙ (ap (row_label u) a ∙ row_here))))
  parted i h li lh q (inl a) (inr b) = b (s.columns_once h j lh column_in (sym (column_there h b) ∙ (sym q ∙ (ap (row_label u) a ∙ row_here))))
  parted i h li lh q (inr a) (inl b) = a (s.rows_once i r li row_in (sym (row_there i a) ∙ (q ∙ (ap (column_label u) b ∙ column_here))))
  parted i h li lh q (inr a) (inr b) = s.apart i h li lh (sym (row_there i a) ∙ (q ∙ column_there h b))

  in_rows : (w : Label) (i : ℕ) → i < length d.rows → row_label u i ≡ w → (stands w u.rows || stands w u.columns) ≡ true
  in_rows w i l q = or_first (stands w u.rows) (stands w u.columns) (place_stands w u.rows i (omega (arith, row_count)) q)

  in_columns : (w : Label) (h : ℕ) → h < length d.columns → column_label u h ≡ w → (stands w u.rows || stands w u.columns) ≡ true
  in_columns w h l q = or_second (stands w u.rows) (stands w u.columns) (place_stands w u.columns h (omega (arith, column_count)) q)

  from_row : (w : Label) (i : ℕ) → i < length d.rows → row_label d i ≡ w → (i ≡ r) ⊎ (i ≢ r) → (stands w u.rows || stands w u.columns) ≡ true
  from_row w i l q (inl a) = in_columns w j column_in (column_here ∙ (ap (row_label d) (sym a) ∙ q))
  from_row w i l q (inr a) = in_rows w i l (row_there i a ∙ q)

  from_column : (w : Label) (h : ℕ) → h < length d.columns → column_label d h ≡ w → (h ≡ j) ⊎ (h ≢ j) → (stands w u.rows || stands w u.columns) ≡ true
  from_column w h l q (inl a) = in_rows w r row_in (row_here ∙ (ap (column_label d) (sym a) ∙ q))
  from_column w h l q (inr a) = in_columns w h l (column_there h a ∙ q)

  all_stand : (w : Label) → (stands w d.rows ≡ true) ⊎ (stands w d.columns ≡ true) → (stands w u.rows || stands w u.columns) ≡ true
  all_stand w (inl q) = let p = stands_place w d.rows q in from_row w p.at p.below p.is (cases_eq p.at r)
  all_stand w (inr q) = let p = stands_place w d.columns q in from_column w p.at p.below p.is (cases_eq p.at j)

  last_row : length d.marks < length d.rows → row_label u (length d.marks) ≡ Objective
  last_row l = row_there (length d.marks) (λ q. quantity (ap (row_label d) (sym q) ∙ s.objective l)) ∙ s.objective l

  pub exchange_sound : IsSound u
  exchange_sound = record {
    lines = subst (λ n. All (IsLine n) ls) (sym column_count) kept.0;
    lowest = pivoted_lowest (length d.columns) r j d.lines ls (omega (arith, s.count)) column_in s.lines nonzero s.lowest e;
    count = row_count ∙ (s.count ∙ sym kept.1);
    quantities = omega (arith, row_count, s.quantities);
    one_objective = omega (arith, row_count, s.one_objective);
    objective = λ l. last_row (omega (arith, row_count));
    row_labels = λ i l. row_is i (omega (arith, row_count)) (cases_eq i r);
    column_labels = λ h l. column_is h (omega (arith, column_count)) (cases_eq h j);
    rows_once = λ i h li lh q. rows_differ i h (omega (arith, row_count)) (omega (arith, row_count)) q (cases_eq i r) (cases_eq h r);
    columns_once = λ i h li lh q. columns_differ i h (omega (arith, column_count)) (omega (arith, column_count)) q (cases_eq i j) (cases_eq h j);
    apart = λ i h li lh q. parted i h (omega (arith, row_count)) (omega (arith, column_count)) q (cases_eq i r) (cases_eq h j);
    complete = λ w l. all_stand w (or_cases (stands w d.rows) (stands w d.columns) (s.complete w (sym (ap₂ (λ b n. is_label b (length d.marks) n w) column_count row_count) ∙ l)));
    few_bases = omega (arith, column_count, s.few_bases);
    few_quantities = s.few_quantities;
  }
