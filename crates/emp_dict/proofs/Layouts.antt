-- A dictionary by places.
use Rattle.std.proofs.Common.{◌≡◌, ℕ, ◌+◌, ◌<◌, ◌≤◌, length, arith, refl, ap}
use Rattle.emp_line.specs.Pivot.{no_line}
use Rattle.emp_turns.specs.Layout.{IsLayout}
use Rattle.emp_dict.specs.declared.label.Label.{Label}
use Rattle.emp_dict.specs.declared.label.Label.TheVariants.{Base, Quantity, Objective}
use Rattle.emp_dict.specs.Dictionary.{Dictionary, IsSound, IsLabel, row_label, column_label}
use Rattle.emp_dict.specs.Chosen.{index, labels, layout_of}
use Rattle.emp_dict.proofs.Starts.{base_in, quantity_in, objective_in}

-- labels have different indices
pub index_once : (b q n : ℕ) (v w : Label) → IsLabel b q n v → IsLabel b q n w → index b q v ≡ index b q w → v ≡ w
index_once b q n (Base x) (Base y) h k e = let i = base_in b q n x h in let j = base_in b q n y k in ap Base (omega (arith, i.0, j.0))
index_once b q n (Base x) (Quantity y) h k e = let i = base_in b q n x h in absurd (omega (arith, i.0, i.1))
index_once b q n (Base x) Objective h k e = let i = base_in b q n x h in absurd (omega (arith, i.0, i.1))
index_once b q n (Quantity x) (Base y) h k e = let j = base_in b q n y k in absurd (omega (arith, j.0, j.1))
index_once b q n (Quantity x) (Quantity y) h k e = let i = quantity_in b q n x h in let j = quantity_in b q n y k in ap Quantity (omega (arith, i.0, j.0))
index_once b q n (Quantity x) Objective h k e = let i = quantity_in b q n x h in absurd (omega (arith, i.0, i.1))
index_once b q n Objective (Base y) h k e = let j = base_in b q n y k in absurd (omega (arith, j.0, j.1))
index_once b q n Objective (Quantity y) h k e = let j = quantity_in b q n y k in absurd (omega (arith, j.0, j.1))
index_once b q n Objective Objective h k e = refl

pub index_below : (b q n : ℕ) (w : Label) → q ≤ n → IsLabel b q n w → index b q w < n + b
index_below b q n (Base x) l h = let i = base_in b q n x h in omega (arith, i.0, i.1)
index_below b q n (Quantity x) l h = let i = quantity_in b q n x h in omega (arith, i.0, i.1)
index_below b q n Objective l h = let i = objective_in b q n h in omega arith

pub layout_is : (d : Dictionary) → IsSound d → IsLayout (labels d) (layout_of d)
layout_is d s = record {
  row_below = λ i h. index_below (length d.columns) (length d.marks) (length d.rows) (row_label d i) s.quantities (s.row_labels i h);
  column_below = λ j h. index_below (length d.columns) (length d.marks) (length d.rows) (column_label d j) s.quantities (s.column_labels j h);
  rows_once = λ i h a b e. s.rows_once i h a b (index_once (length d.columns) (length d.marks) (length d.rows) (row_label d i) (row_label d h) (s.row_labels i a) (s.row_labels h b) e);
  columns_once = λ i h a b e. s.columns_once i h a b (index_once (length d.columns) (length d.marks) (length d.rows) (column_label d i) (column_label d h) (s.column_labels i a) (s.column_labels h b) e);
  apart = λ i j a b e. s.apart i j a b (index_once (length d.columns) (length d.marks) (length d.rows) (row_label d i) (column_label d j) (s.row_labels i a) (s.column_labels j b) e);
  positive = λ i h. (s.lines i no_line (omega (arith, s.count))).positive;
}
