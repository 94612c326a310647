-- A dictionary after a pivot: its labels and marks, and the rows that stay.
use Rattle.std.proofs.Common.{◌≡◌, ◌≢◌, ℕ, ◌-◌, ◌<◌, pos, cond, List, length, get_or, set, Option, Some, None, arith, refl, sym, ap, ◌∙◌}
use Rattle.std.proofs.lemmas.List.{get_or-set_same, get_or-set_other, length-set}
use Rattle.emp_line.specs.declared.line.Line.{Line}
use Rattle.emp_algebra.specs.Vector.{is_zero}
use Rattle.emp_line.specs.Pivot.{turned, moved, factors, combined, combination_wide, reduced, pivoted}
use Rattle.emp_line.proofs.Moves.{Pivots, pivoted_from_is}
use Rattle.emp_dict.specs.declared.label.Label.TheVariants.{Objective}
use Rattle.emp_dict.specs.declared.label.Mark.TheVariants.{Unasked}
use Rattle.emp_dict.specs.Dictionary.{Dictionary, line_at, cell_at, row_label, column_label, mark_at, exchanged, with_lines}

pub record After (d e : Dictionary) (r j : ℕ) : Type 0 where
  pub rows : e.rows ≡ set d.rows r (column_label d j)
  pub columns : e.columns ≡ set d.columns j (row_label d r)
  pub marks : e.marks ≡ d.marks
  pub lines : pivoted d.lines r j ≡ Some e.lines

pub after_is : (d e : Dictionary) (r j : ℕ) → exchanged d r j ≡ Some e → After d e r j
after_is d e r j h = go (pivoted d.lines r j) refl h
  where
    go : (o : Option (List Line)) → pivoted d.lines r j ≡ o → with_lines d r j o ≡ Some e → After d e r j
    go None q h = absurd (cc)
    go (Some ls) q h =
        let same : record { lines = ls; rows = set d.rows r (column_label d j); columns = set d.columns j (row_label d r); marks = d.marks } ≡ e = cc in
        record { rows = sym (ap (λ x. x.rows) same); columns = sym (ap (λ x. x.columns) same); marks = sym (ap (λ x. x.marks) same); lines = q ∙ ap (λ x. Some x.lines) same }

module _ (d e : Dictionary) (r j : ℕ) (a : After d e r j) where
  pub rows_count : length e.rows ≡ length d.rows
  rows_count = ap length a.rows ∙ length-set d.rows r (column_label d j)

  pub columns_count : length e.columns ≡ length d.columns
  columns_count = ap length a.columns ∙ length-set d.columns j (row_label d r)

  pub mark_stays : (k : ℕ) → mark_at e k ≡ mark_at d k
  mark_stays k = ap (λ ms. get_or ms (k - 1) Unasked) a.marks

  pub row_here : r < length d.rows → row_label e r ≡ column_label d j
  row_here h = ap (λ ws. get_or ws r Objective) a.rows ∙ get_or-set_same d.rows r (column_label d j) Objective h

  pub row_other : (i : ℕ) → i ≢ r → row_label e i ≡ row_label d i
  row_other i n = ap (λ ws. get_or ws i Objective) a.rows ∙ get_or-set_other d.rows r i (column_label d j) Objective n

  pub column_here : j < length d.columns → column_label e j ≡ row_label d r
  column_here h = ap (λ ws. get_or ws j Objective) a.columns ∙ get_or-set_same d.columns j (row_label d r) Objective h

  pub column_other : (h : ℕ) → h ≢ j → column_label e h ≡ column_label d h
  column_other h n = ap (λ ws. get_or ws h Objective) a.columns ∙ get_or-set_other d.columns j h (row_label d r) Objective n

  -- a row without a cell in the column stays
  pub line_still : (i : ℕ) → i < length d.lines → i ≢ r → cell_at d i j ≡ pos 0 → line_at e i ≡ line_at d i
  line_still i h n z =
      let p : Pivots 0 (turned (line_at d r) j) r j d.lines e.lines = pivoted_from_is 0 (turned (line_at d r) j) r j d.lines e.lines a.lines in
      let m : moved (turned (line_at d r) j) j (line_at d i) ≡ Some (line_at e i) = p.others i h (λ q. n (omega arith)) in
      let s : moved (turned (line_at d r) j) j (line_at d i) ≡ Some (line_at d i) = ap (λ c. cond (is_zero c) (Some (line_at d i)) (cond (combination_wide (factors (turned (line_at d r) j).denom (cell_at d i j)) (line_at d i) (turned (line_at d r) j) j) None (Some (reduced (combined (factors (turned (line_at d r) j).denom (cell_at d i j)) (line_at d i) (turned (line_at d r) j) j))))) z in
      let both : Some (line_at e i) ≡ Some (line_at d i) = sym m ∙ s in
      cc
