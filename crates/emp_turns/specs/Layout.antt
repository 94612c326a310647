-- A dictionary by places, as a program keeps it, and the table that it is.
use Rattle.std.specs.Prelude.{◌≡◌, ◌≢◌, ℕ, zero, suc, ◌<◌, ◌≤◌, ◌*◌, ◌⊎◌, ◌↔◌, ℤ, pos, neg_ℤ, ◌+ℤ◌, ◌*ℤ◌, ◌<ℤ◌, Bool, true, false, cond, ◌||◌, nat_eq, unsigned_abs}
use Rattle.emp_turns.specs.Table.{Table, total}
use Rattle.emp_turns.specs.Choice.{Mark, Required, Way, toward, MayMove, Aim}

-- rows and columns are counted; each place has its label
pub record Layout : Type 0 where
  pub rows : ℕ
  pub columns : ℕ
  pub row_label : ℕ → ℕ
  pub column_label : ℕ → ℕ
  pub denom : ℕ → ℤ
  pub constant : ℕ → ℤ
  pub cell : ℕ → ℕ → ℤ

-- some place below m has the label v
abbrev pub has_label : ℕ → (ℕ → ℕ) → ℕ → Bool
has_label zero f v = false
has_label (suc m) f v = nat_eq v (f m) || has_label m f v

-- what stands at the place below m with the label v, 0 where there is none
abbrev pub at_label : ℕ → (ℕ → ℕ) → (ℕ → ℤ) → ℕ → ℤ
at_label zero f a v = pos 0
at_label (suc m) f a v = cond (nat_eq v (f m)) (a m) (at_label m f a v)

unfoldable pub table_of : Layout → Table
table_of y = record {
  is_row = λ v. has_label y.rows y.row_label v;
  denom = λ v. at_label y.rows y.row_label y.denom v;
  constant = λ v. at_label y.rows y.row_label y.constant v;
  cell = λ v w. at_label y.columns y.column_label (λ j. at_label y.rows y.row_label (λ i. y.cell i j) v) w;
}

-- labels are below n and differ, denominators are above 0
pub record IsLayout (n : ℕ) (y : Layout) : Type 0 where
  pub row_below : (i : ℕ) → i < y.rows → y.row_label i < n
  pub column_below : (j : ℕ) → j < y.columns → y.column_label j < n
  pub rows_once : (i h : ℕ) → i < y.rows → h < y.rows → y.row_label i ≡ y.row_label h → i ≡ h
  pub columns_once : (j h : ℕ) → j < y.columns → h < y.columns → y.column_label j ≡ y.column_label h → j ≡ h
  pub apart : (i j : ℕ) → i < y.rows → j < y.columns → y.row_label i ≢ y.column_label j
  pub positive : (i : ℕ) → i < y.rows → pos 0 <ℤ y.denom i

-- each row is true of the values x over s
abbrev pub RowsHold : Layout → ℤ → (ℕ → ℤ) → Type 0
RowsHold y s x = (i : ℕ) → i < y.rows → y.denom i *ℤ x (y.row_label i) ≡ y.constant i *ℤ s +ℤ total y.columns (λ j. y.cell i j *ℤ x (y.column_label j))

-- row r and column j exchange their labels
pub record IsRelabelled (y : Layout) (r j : ℕ) (z : Layout) : Type 0 where
  pub rows : z.rows ≡ y.rows
  pub columns : z.columns ≡ y.columns
  pub row_in : r < y.rows
  pub column_in : j < y.columns
  pub row : z.row_label r ≡ y.column_label j
  pub column : z.column_label j ≡ y.row_label r
  pub rows_rest : (i : ℕ) → i < y.rows → i ≢ r → z.row_label i ≡ y.row_label i
  pub columns_rest : (h : ℕ) → h < y.columns → h ≢ j → z.column_label h ≡ y.column_label h

-- and the solutions stay
pub record IsPivot (y : Layout) (r j : ℕ) (z : Layout) : Type 0 where
  pub labels : IsRelabelled y r j z
  pub positive : (i : ℕ) → i < y.rows → pos 0 <ℤ z.denom i
  pub same : (s : ℤ) (x : ℕ → ℤ) → RowsHold y s x ↔ RowsHold z s x

-- the numbers of a pivot: f is the sign of the cell, and each other row i is `own i` times itself plus `other i` times the turned row, with
-- column j's label struck out, divided by `common i`
pub record IsTurned (y : Layout) (r j : ℕ) (f : ℤ) (own other common : ℕ → ℤ) (z : Layout) : Type 0 where
  pub square : f *ℤ f ≡ pos 1
  pub head : pos 0 <ℤ z.denom r
  pub denom : z.denom r ≡ f *ℤ y.cell r j
  pub constant : z.constant r ≡ neg_ℤ (f *ℤ y.constant r)
  pub cells : (l : ℕ) → l < y.columns → l ≢ j → z.cell r l ≡ neg_ℤ (f *ℤ y.cell r l)
  pub cell : z.cell r j ≡ f *ℤ y.denom r
  pub own_pos : (i : ℕ) → i < y.rows → i ≢ r → pos 0 <ℤ own i
  pub common_pos : (i : ℕ) → i < y.rows → i ≢ r → pos 0 <ℤ common i
  pub meets : (i : ℕ) → i < y.rows → i ≢ r → other i *ℤ z.denom r ≡ own i *ℤ y.cell i j
  pub other_denom : (i : ℕ) → i < y.rows → i ≢ r → common i *ℤ z.denom i ≡ own i *ℤ y.denom i
  pub other_constant : (i : ℕ) → i < y.rows → i ≢ r → common i *ℤ z.constant i ≡ own i *ℤ y.constant i +ℤ other i *ℤ z.constant r
  pub other_cells : (i l : ℕ) → i < y.rows → i ≢ r → l < y.columns → l ≢ j → common i *ℤ z.cell i l ≡ own i *ℤ y.cell i l +ℤ other i *ℤ z.cell r l
  pub other_cell : (i : ℕ) → i < y.rows → i ≢ r → common i *ℤ z.cell i j ≡ other i *ℤ z.cell r j

-- column j opens, where k is the place of the aimed row
pub record ColumnOpens (mark : ℕ → Mark) (aim : Aim) (y : Layout) (k j : ℕ) (g : Way) : Type 0 where
  pub below : j < y.columns
  pub moves : MayMove (mark (y.column_label j)) g
  pub helps : pos 0 <ℤ (toward aim.way *ℤ (toward g *ℤ y.cell k j))

-- row i stops column j
pub record RowStops (mark : ℕ → Mark) (aim : Aim) (y : Layout) (k j : ℕ) (g : Way) (i : ℕ) : Type 0 where
  pub below : i < y.rows
  pub why : ((mark (y.row_label i) ≡ Required) × ((toward g *ℤ y.cell i j) <ℤ pos 0)) ⊎ ((i ≡ k) × (aim.stops ≡ true))

abbrev pub ratio_at : Layout → ℕ → ℕ → ℕ → ℕ
ratio_at y j i h = unsigned_abs (y.constant i) * unsigned_abs (y.cell h j)

-- the choice by places: least labels decide
pub record IsChoice (mark : ℕ → Mark) (aim : Aim) (y : Layout) (k j : ℕ) (g : Way) (r : ℕ) : Type 0 where
  pub opens : ColumnOpens mark aim y k j g
  pub first : (h : ℕ) (o : Way) → ColumnOpens mark aim y k h o → y.column_label j ≤ y.column_label h
  pub stops : RowStops mark aim y k j g r
  pub nearest : (i : ℕ) → RowStops mark aim y k j g i → ratio_at y j r i ≤ ratio_at y j i r
  pub tie : (i : ℕ) → RowStops mark aim y k j g i → ratio_at y j r i ≡ ratio_at y j i r → y.row_label r ≤ y.row_label i
