-- A dictionary by places is a table, its pivots are exchanges, and its choice is the choice by labels.
use Rattle.std.proofs.Common.{◌≡◌, ◌≢◌, ◌↔◌, ℕ, zero, suc, ◌<◌, ◌≤◌, ◌*◌, ◌⊎◌, inl, inr, ℤ, pos, ◌+ℤ◌, ◌*ℤ◌, ◌<ℤ◌, unsigned_abs, true, false, cond, ◌||◌, List, [], ◌∷◌, length, arith, refl, sym, ap, ap₂, ◌∙◌, subst, nat_eq, negsuc, neg_ℤ, subst₂}
use lib.IntN.{zero-*ℤ, *ℤ-zero}
use Rattle.std.proofs.lemmas.Int.{ints}
use Rattle.std.proofs.lemmas.Bool.{cases_eq, cases_Bool, both_ways, eq-eqb, ne_eqb, or_cases, or_left, or_right, eqb-true}
use Rattle.emp_algebra.proofs.Ring.{lit, ◌⊕◌, ◌⊗◌, ring3, neg, ring2}
use Rattle.emp_algebra.proofs.Order.{linear}
use Rattle.emp_algebra.specs.Vector.{cell, dot}
use Rattle.emp_turns.specs.Table.{total, Holds, IsTable}
use Rattle.emp_turns.specs.Choice.{Mark, Required, Way, toward, Aim, Opens, Stops, IsChosen, IsExchange, ratio_by, Up, Down}
use Rattle.emp_turns.specs.Layout.{Layout, has_label, at_label, table_of, IsLayout, RowsHold, IsPivot, RowStops, IsChoice, ratio_at}
use Rattle.emp_turns.proofs.Totals.{total_same, total_add, total_zero, total_one}

-- ---- labels and places
pub record Place (m : ℕ) (f : ℕ → ℕ) (v : ℕ) : Type 0 where
  pub at : ℕ
  pub below : at < m
  pub is : f at ≡ v

pub place_of : (m : ℕ) (f : ℕ → ℕ) (v : ℕ) → has_label m f v ≡ true → Place m f v
place_of zero f v h = absurd (cc)
place_of (suc m) f v h = go (or_cases (nat_eq v (f m)) (has_label m f v) h) (λ k. place_of m f v k)
  where
    go : (nat_eq v (f m) ≡ true) ⊎ (has_label m f v ≡ true) → (has_label m f v ≡ true → Place m f v) → Place (suc m) f v
    go (inl e) rest = record { at = m; below = omega arith; is = sym (eqb-true v (f m) e) }
    go (inr e) rest = let p = rest e in record { at = p.at; below = omega (arith, p.below); is = p.is }

pub has_place : (m : ℕ) (f : ℕ → ℕ) (i : ℕ) → i < m → has_label m f (f i) ≡ true
has_place zero f i h = absurd (omega arith)
has_place (suc m) f i h = go (cases_eq i m) (λ k. has_place m f i k)
  where
    go : (i ≡ m) ⊎ (i ≢ m) → (i < m → has_label m f (f i) ≡ true) → (nat_eq (f i) (f m) || has_label m f (f i)) ≡ true
    go (inl e) rest = or_left (nat_eq (f i) (f m)) (has_label m f (f i)) (eq-eqb (f i) (f m) (ap f e))
    go (inr e) rest = or_right (nat_eq (f i) (f m)) (has_label m f (f i)) (rest (omega arith))

abbrev Once : ℕ → (ℕ → ℕ) → Type 0
Once m f = (i h : ℕ) → i < m → h < m → f i ≡ f h → i ≡ h

pub at_place : (m : ℕ) (f : ℕ → ℕ) (a : ℕ → ℤ) → Once m f → (i : ℕ) → i < m → at_label m f a (f i) ≡ a i
at_place zero f a once i h = absurd (omega arith)
at_place (suc m) f a once i h = go (cases_eq i m) (λ k. at_place m f a (λ b c p q. once b c (omega arith) (omega arith)) i k)
  where
    go : (i ≡ m) ⊎ (i ≢ m) → (i < m → at_label m f a (f i) ≡ a i) → cond (nat_eq (f i) (f m)) (a m) (at_label m f a (f i)) ≡ a i
    go (inl e) rest = ap (λ b. cond b (a m) (at_label m f a (f i))) (eq-eqb (f i) (f m) (ap f e)) ∙ ap a (sym e)
    go (inr e) rest = ap (λ b. cond b (a m) (at_label m f a (f i))) (ne_eqb (f i) (f m) (λ q. e (once i m h (omega arith) q))) ∙ rest (omega arith)

pub at_none : (m : ℕ) (f : ℕ → ℕ) (a : ℕ → ℤ) (v : ℕ) → ((i : ℕ) → i < m → f i ≢ v) → at_label m f a v ≡ pos 0
at_none zero f a v h = refl
at_none (suc m) f a v h = ap (λ b. cond b (a m) (at_label m f a v)) (ne_eqb v (f m) (λ e. h m (omega arith) (sym e))) ∙ at_none m f a v (λ i k. h i (omega arith))

-- a sum over labels is one over places
total_at : (n c : ℕ) (f : ℕ → ℕ) (a x : ℕ → ℤ) → Once c f → ((j : ℕ) → j < c → f j < n) → total n (λ w. at_label c f a w *ℤ x w) ≡ total c (λ j. a j *ℤ x (f j))
total_at n zero f a x once below = total_zero n (λ w. pos 0 *ℤ x w) (λ w h. zero-*ℤ (x w))
total_at n (suc c) f a x once below =
    total_same n (λ w. at_label (suc c) f a w *ℤ x w) (λ w. at_label c f a w *ℤ x w +ℤ cond (nat_eq w (f c)) (a c *ℤ x w) (pos 0)) (λ w h. split w (cases_eq w (f c)))
    ∙ (total_add n (λ w. at_label c f a w *ℤ x w) (λ w. cond (nat_eq w (f c)) (a c *ℤ x w) (pos 0))
    ∙ ap₂ (λ y z. y +ℤ z) (total_at n c f a x (λ b d p q. once b d (omega arith) (omega arith)) (λ j h. below j (omega arith)))
    (total_one n (λ w. cond (nat_eq w (f c)) (a c *ℤ x w) (pos 0)) (f c) (below c (omega arith)) (λ w h ne. ap (λ b. cond b (a c *ℤ x w) (pos 0)) (ne_eqb w (f c) ne)) ∙ ap (λ b. cond b (a c *ℤ x (f c)) (pos 0)) (eq-eqb (f c) (f c) refl)))
  where
    split : (w : ℕ) → (w ≡ f c) ⊎ (w ≢ f c) → cond (nat_eq w (f c)) (a c) (at_label c f a w) *ℤ x w ≡ at_label c f a w *ℤ x w +ℤ cond (nat_eq w (f c)) (a c *ℤ x w) (pos 0)
    split w (inl e) =
        let t = eq-eqb w (f c) e in
        let z : at_label c f a w ≡ pos 0 = at_none c f a w (λ i h q. absurd (let k = once i c (omega arith) (omega arith) (q ∙ e) in omega arith)) in
        ap (λ b. cond b (a c) (at_label c f a w) *ℤ x w) t ∙ sym (ap₂ (λ b y. y *ℤ x w +ℤ cond b (a c *ℤ x w) (pos 0)) t z ∙ ring3 (λ a x z. lit (pos 0) ⊗ x ⊕ a ⊗ x) (λ a x z. a ⊗ x) refl (a c) (x w) (pos 0))
    split w (inr e) =
        let t = ne_eqb w (f c) e in
        ap (λ b. cond b (a c) (at_label c f a w) *ℤ x w) t ∙ sym (ap (λ b. at_label c f a w *ℤ x w +ℤ cond b (a c *ℤ x w) (pos 0)) t ∙ ring3 (λ a x z. a ⊗ x ⊕ lit (pos 0)) (λ a x z. a ⊗ x) refl (at_label c f a w) (x w) (pos 0))

-- the dot product of two lists as a sum over places
total_front : (n : ℕ) (f : ℕ → ℤ) → total (suc n) f ≡ f 0 +ℤ total n (λ i. f (suc i))
total_front zero f = omega (arith, ints)
total_front (suc n) f = let e = total_front n f in omega (arith, linear)

pub dot_is : (r xs : List ℤ) (n : ℕ) → length r ≤ n → dot r xs ≡ total n (λ j. cell r j *ℤ cell xs j)
dot_is [] xs n h = sym (total_zero n (λ j. pos 0 *ℤ cell xs j) (λ j l. zero-*ℤ (cell xs j)))
dot_is (a ∷ r) [] n h = sym (total_zero n (λ j. cell (a ∷ r) j *ℤ pos 0) (λ j l. *ℤ-zero (cell (a ∷ r) j)))
dot_is (a ∷ r) (x ∷ xs) zero h = absurd (omega arith)
dot_is (a ∷ r) (x ∷ xs) (suc n) h = ap (λ z. a *ℤ x +ℤ z) (dot_is r xs n (omega arith)) ∙ sym (total_front n (λ j. cell (a ∷ r) j *ℤ cell (x ∷ xs) j))

-- ---- what the table of a dictionary says
module _ (n : ℕ) (y : Layout) (h : IsLayout n y) where
  pub row_is : (i : ℕ) → i < y.rows → (table_of y).is_row (y.row_label i) ≡ true
  unfolding table_of
  row_is i k = has_place y.rows y.row_label i k

  pub row_place : (v : ℕ) → (table_of y).is_row v ≡ true → Place y.rows y.row_label v
  unfolding table_of
  row_place v r = place_of y.rows y.row_label v r

  pub column_is : (j : ℕ) → j < y.columns → (table_of y).is_row (y.column_label j) ≡ false
  column_is j k = go (cases_Bool ((table_of y).is_row (y.column_label j)))
    where
      go : ((table_of y).is_row (y.column_label j) ≡ true) ⊎ ((table_of y).is_row (y.column_label j) ≡ false) → (table_of y).is_row (y.column_label j) ≡ false
      go (inl e) = let p = row_place (y.column_label j) e in absurd (h.apart p.at j p.below k p.is)
      go (inr e) = e

  pub denom_is : (i : ℕ) → i < y.rows → (table_of y).denom (y.row_label i) ≡ y.denom i
  unfolding table_of
  denom_is i k = at_place y.rows y.row_label y.denom h.rows_once i k

  pub constant_is : (i : ℕ) → i < y.rows → (table_of y).constant (y.row_label i) ≡ y.constant i
  unfolding table_of
  constant_is i k = at_place y.rows y.row_label y.constant h.rows_once i k

  pub cell_is : (i j : ℕ) → i < y.rows → j < y.columns → (table_of y).cell (y.row_label i) (y.column_label j) ≡ y.cell i j
  unfolding table_of
  cell_is i j k l =
      at_place y.columns y.column_label (λ b. at_label y.rows y.row_label (λ a. y.cell a b) (y.row_label i)) h.columns_once j l ∙ at_place y.rows y.row_label (λ a. y.cell a j) h.rows_once i k

  -- a label of no column has cells 0
  pub cell_none : (v w : ℕ) → ((j : ℕ) → j < y.columns → y.column_label j ≢ w) → (table_of y).cell v w ≡ pos 0
  unfolding table_of
  cell_none v w none = at_none y.columns y.column_label (λ b. at_label y.rows y.row_label (λ a. y.cell a b) v) w none

  sum_is : (x : ℕ → ℤ) (i : ℕ) → i < y.rows → total n (λ w. (table_of y).cell (y.row_label i) w *ℤ x w) ≡ total y.columns (λ j. y.cell i j *ℤ x (y.column_label j))
  unfolding table_of
  sum_is x i k =
      total_at n y.columns y.column_label (λ b. at_label y.rows y.row_label (λ a. y.cell a b) (y.row_label i)) x h.columns_once h.column_below
      ∙ total_same y.columns (λ j. at_label y.rows y.row_label (λ a. y.cell a j) (y.row_label i) *ℤ x (y.column_label j)) (λ j. y.cell i j *ℤ x (y.column_label j)) (λ j l. ap (λ z. z *ℤ x (y.column_label j)) (at_place y.rows y.row_label (λ a. y.cell a j) h.rows_once i k))

  pub is_table : IsTable n (table_of y)
  is_table = record {
    positive = λ v b r. let p = row_place v r in subst (λ w. pos 0 <ℤ (table_of y).denom w) p.is (rw (denom_is p.at p.below) (h.positive p.at p.below));
    columns = λ v w b c r q. cell_none v w (λ j l e. let p = row_place w q in h.apart p.at j p.below l (p.is ∙ sym e));
  }

  pub holds_is : (s : ℤ) (x : ℕ → ℤ) → Holds n (table_of y) s x ↔ RowsHold y s x
  holds_is s x = (forth, back)
    where
      forth : Holds n (table_of y) s x → RowsHold y s x
      forth f i k =
          ap (λ d. d *ℤ x (y.row_label i)) (sym (denom_is i k)) ∙ (f (y.row_label i) (h.row_below i k) (row_is i k) ∙ ap₂ (λ c z. c *ℤ s +ℤ z) (constant_is i k) (sum_is x i k))

      at_row : RowsHold y s x → (i : ℕ) → i < y.rows → (table_of y).denom (y.row_label i) *ℤ x (y.row_label i) ≡ (table_of y).constant (y.row_label i) *ℤ s +ℤ total n (λ w. (table_of y).cell (y.row_label i) w *ℤ x w)
      at_row f i k = ap (λ d. d *ℤ x (y.row_label i)) (denom_is i k) ∙ (f i k ∙ sym (ap₂ (λ c z. c *ℤ s +ℤ z) (constant_is i k) (sum_is x i k)))

      back : RowsHold y s x → Holds n (table_of y) s x
      back f v b r = let p = row_place v r in subst (λ u. (table_of y).denom u *ℤ x u ≡ (table_of y).constant u *ℤ s +ℤ total n (λ w. (table_of y).cell u w *ℤ x w)) p.is (at_row f p.at p.below)

-- ---- a pivot is an exchange
pub layout_after : (n : ℕ) (y z : Layout) (r j : ℕ) → IsLayout n y → IsPivot y r j z → IsLayout n z
layout_after n y z r j h p = record {
  row_below = λ i k. row_below i (omega (arith, p.labels.rows)) (cases_eq i r);
  column_below = λ b k. column_below b (omega (arith, p.labels.columns)) (cases_eq b j);
  rows_once = λ i b k l e. rows_once i b (omega (arith, p.labels.rows)) (omega (arith, p.labels.rows)) e (cases_eq i r) (cases_eq b r);
  columns_once = λ i b k l e. columns_once i b (omega (arith, p.labels.columns)) (omega (arith, p.labels.columns)) e (cases_eq i j) (cases_eq b j);
  apart = λ i b k l e. apart i b (omega (arith, p.labels.rows)) (omega (arith, p.labels.columns)) e (cases_eq i r) (cases_eq b j);
  positive = λ i k. p.positive i (omega (arith, p.labels.rows));
}
  where
    row_below : (i : ℕ) → i < y.rows → (i ≡ r) ⊎ (i ≢ r) → z.row_label i < n
    row_below i k (inl q) = subst (λ v. v < n) (sym (ap z.row_label q ∙ p.labels.row)) (h.column_below j p.labels.column_in)
    row_below i k (inr q) = subst (λ v. v < n) (sym (p.labels.rows_rest i k q)) (h.row_below i k)

    column_below : (b : ℕ) → b < y.columns → (b ≡ j) ⊎ (b ≢ j) → z.column_label b < n
    column_below b k (inl q) = subst (λ v. v < n) (sym (ap z.column_label q ∙ p.labels.column)) (h.row_below r p.labels.row_in)
    column_below b k (inr q) = subst (λ v. v < n) (sym (p.labels.columns_rest b k q)) (h.column_below b k)

    rows_once : (i b : ℕ) → i < y.rows → b < y.rows → z.row_label i ≡ z.row_label b → (i ≡ r) ⊎ (i ≢ r) → (b ≡ r) ⊎ (b ≢ r) → i ≡ b
    rows_once i b k l e (inl q) (inl s) = q ∙ sym s
    rows_once i b k l e (inl q) (inr s) = absurd (h.apart b j l p.labels.column_in (sym (p.labels.rows_rest b l s) ∙ (sym e ∙ (ap z.row_label q ∙ p.labels.row))))
    rows_once i b k l e (inr q) (inl s) = absurd (h.apart i j k p.labels.column_in (sym (p.labels.rows_rest i k q) ∙ (e ∙ (ap z.row_label s ∙ p.labels.row))))
    rows_once i b k l e (inr q) (inr s) = h.rows_once i b k l (sym (p.labels.rows_rest i k q) ∙ (e ∙ p.labels.rows_rest b l s))

    columns_once : (i b : ℕ) → i < y.columns → b < y.columns → z.column_label i ≡ z.column_label b → (i ≡ j) ⊎ (i ≢ j) → (b ≡ j) ⊎ (b ≢ j) → i ≡ b
    columns_once i b k l e (inl q) (inl s) = q ∙ sym s
    columns_once i b k l e (inl q) (inr s) = absurd (h.apart r b p.labels.row_in l (sym (ap z.column_label q ∙ p.labels.column) ∙ (e ∙ p.labels.columns_rest b l s)))
    columns_once i b k l e (inr q) (inl s) = absurd (h.apart r i p.labels.row_in k (sym (ap z.column_label s ∙ p.labels.column) ∙ (sym e ∙ p.labels.columns_rest i k q)))
    columns_once i b k l e (inr q) (inr s) = h.columns_once i b k l (sym (p.labels.columns_rest i k q) ∙ (e ∙ p.labels.columns_rest b l s))

    apart : (i b : ℕ) → i < y.rows → b < y.columns → z.row_label i ≡ z.column_label b → (i ≡ r) ⊎ (i ≢ r) → (b ≡ j) ⊎ (b ≢ j) → ⊥
    apart i b k l e (inl q) (inl s) = h.apart r j p.labels.row_in p.labels.column_in (sym (ap z.column_label s ∙ p.labels.column) ∙ (sym e ∙ (ap z.row_label q ∙ p.labels.row)))
    apart i b k l e (inl q) (inr s) = s (h.columns_once b j l p.labels.column_in (sym (p.labels.columns_rest b l s) ∙ (sym e ∙ (ap z.row_label q ∙ p.labels.row))))
    apart i b k l e (inr q) (inl s) = q (h.rows_once i r k p.labels.row_in (sym (p.labels.rows_rest i k q) ∙ (e ∙ (ap z.column_label s ∙ p.labels.column))))
    apart i b k l e (inr q) (inr s) = h.apart i b k l (sym (p.labels.rows_rest i k q) ∙ (e ∙ p.labels.columns_rest b l s))

pub is_exchange : (n : ℕ) (y z : Layout) (r j : ℕ) → IsLayout n y → IsPivot y r j z → IsExchange n (table_of y) (y.column_label j) (y.row_label r) (table_of z)
is_exchange n y z r j h p =
    let a = layout_after n y z r j h p in
    record {
      entered = subst (λ v. (table_of z).is_row v ≡ true) p.labels.row (row_is n z a r (omega (arith, p.labels.rows, p.labels.row_in)));
      left = subst (λ v. (table_of z).is_row v ≡ false) p.labels.column (column_is n z a j (omega (arith, p.labels.columns, p.labels.column_in)));
      others = λ w b ne nl. others a w ne nl (cases_Bool ((table_of z).is_row w)) (cases_Bool ((table_of y).is_row w));
      same = λ s x. (λ f. (holds_is n z a s x).1 ((p.same s x).0 ((holds_is n y h s x).0 f)), λ f. (holds_is n y h s x).1 ((p.same s x).1 ((holds_is n z a s x).0 f)));
    }
  where
    -- a row of one that is not exchanged is a row of the other
    forth : IsLayout n z → (w : ℕ) → w ≢ y.row_label r → (table_of y).is_row w ≡ true → (table_of z).is_row w ≡ true
    forth a w nl e =
        let i = row_place n y h w e in
        let k = i.below in
        let ne : i.at ≢ r = λ q. nl (sym i.is ∙ ap y.row_label q) in
        subst (λ v. (table_of z).is_row v ≡ true) (p.labels.rows_rest i.at k ne ∙ i.is) (row_is n z a i.at (omega (arith, p.labels.rows)))

    back : IsLayout n z → (w : ℕ) → w ≢ y.column_label j → (table_of z).is_row w ≡ true → (table_of y).is_row w ≡ true
    back a w ne e =
        let i = row_place n z a w e in
        let k : i.at < y.rows = let l = i.below in omega (arith, p.labels.rows) in
        let nr : i.at ≢ r = λ q. ne (sym i.is ∙ (ap z.row_label q ∙ p.labels.row)) in
        subst (λ v. (table_of y).is_row v ≡ true) (sym (p.labels.rows_rest i.at k nr) ∙ i.is) (row_is n y h i.at k)

    others : IsLayout n z → (w : ℕ) → w ≢ y.column_label j → w ≢ y.row_label r → ((table_of z).is_row w ≡ true) ⊎ ((table_of z).is_row w ≡ false) → ((table_of y).is_row w ≡ true) ⊎ ((table_of y).is_row w ≡ false) → (table_of z).is_row w ≡ (table_of y).is_row w
    others a w ne nl (inl e) d = e ∙ sym (back a w ne e)
    others a w ne nl (inr e) (inl d) = forth a w nl d ∙ sym d
    others a w ne nl (inr e) (inr d) = e ∙ sym d

-- ---- the choice by places is the choice by labels
pub is_chosen : (n : ℕ) (mark : ℕ → Mark) (aim : Aim) (y : Layout) (k j : ℕ) (g : Way) (r : ℕ) → IsLayout n y → k < y.rows → y.row_label k ≡ aim.row → IsChoice mark aim y k j g r → IsChosen n mark aim (table_of y) (y.column_label j) g (y.row_label r)
is_chosen n mark aim y k j g r h lk is c = record {
  opens = record { below = h.column_below j c.opens.below; column = column_is n y h j c.opens.below; moves = c.opens.moves; helps = subst (λ z. pos 0 <ℤ (toward aim.way *ℤ (toward g *ℤ z))) (sym (aimed j c.opens.below)) c.opens.helps };
  first = λ w o q. first w o q (cases_Bool (has_label y.columns y.column_label w));
  stops = record { below = h.row_below r c.stops.below; row = row_is n y h r c.stops.below; why = up c.stops.why };
  nearest = λ v q.
      let p = row_place n y h v q.row in
      subst (λ u. ratio_by (table_of y) (y.column_label j) (y.row_label r) u ≤ ratio_by (table_of y) (y.column_label j) u (y.row_label r)) p.is (rw (ratio r p.at c.stops.below p.below, ratio p.at r p.below c.stops.below) (c.nearest p.at (down v q p)));
  tie = λ v q e.
      let p = row_place n y h v q.row in
      let e' = subst (λ u. ratio_by (table_of y) (y.column_label j) (y.row_label r) u ≡ ratio_by (table_of y) (y.column_label j) u (y.row_label r)) (sym p.is) e in
      subst (λ u. y.row_label r ≤ u) p.is (c.tie p.at (down v q p) (sym (ratio r p.at c.stops.below p.below) ∙ (e' ∙ ratio p.at r p.below c.stops.below)));
}
  where
    aimed : (b : ℕ) → b < y.columns → (table_of y).cell aim.row (y.column_label b) ≡ y.cell k b
    aimed b l = ap (λ v. (table_of y).cell v (y.column_label b)) (sym is) ∙ cell_is n y h k b lk l

    ratio : (i b : ℕ) → i < y.rows → b < y.rows → ratio_by (table_of y) (y.column_label j) (y.row_label i) (y.row_label b) ≡ ratio_at y j i b
    ratio i b p q = ap₂ (λ u v. unsigned_abs u * unsigned_abs v) (constant_is n y h i p) (cell_is n y h b j q c.opens.below)

    up : ((mark (y.row_label r) ≡ Required) × ((toward g *ℤ y.cell r j) <ℤ pos 0)) ⊎ ((r ≡ k) × (aim.stops ≡ true)) → ((mark (y.row_label r) ≡ Required) × ((toward g *ℤ (table_of y).cell (y.row_label r) (y.column_label j)) <ℤ pos 0)) ⊎ ((y.row_label r ≡ aim.row) × (aim.stops ≡ true))
    up (inl q) = inl (q.0, subst (λ z. (toward g *ℤ z) <ℤ pos 0) (sym (cell_is n y h r j c.stops.below c.opens.below)) q.1)
    up (inr q) = inr (ap y.row_label q.0 ∙ is, q.1)

    down : (v : ℕ) → Stops n mark aim (table_of y) (y.column_label j) g v → (p : Place y.rows y.row_label v) → RowStops mark aim y k j g p.at
    down v q p = record { below = p.below; why = go q.why }
      where
        go : ((mark v ≡ Required) × ((toward g *ℤ (table_of y).cell v (y.column_label j)) <ℤ pos 0)) ⊎ ((v ≡ aim.row) × (aim.stops ≡ true)) → ((mark (y.row_label p.at) ≡ Required) × ((toward g *ℤ y.cell p.at j) <ℤ pos 0)) ⊎ ((p.at ≡ k) × (aim.stops ≡ true))
        go (inl a) = inl (ap mark p.is ∙ a.0, subst (λ z. (toward g *ℤ z) <ℤ pos 0) (ap (λ u. (table_of y).cell u (y.column_label j)) (sym p.is) ∙ cell_is n y h p.at j p.below c.opens.below) a.1)
        go (inr a) = inr (h.rows_once p.at k p.below lk (p.is ∙ (a.0 ∙ sym is)), a.1)

    first : (w : ℕ) (o : Way) → Opens n mark aim (table_of y) w o → (has_label y.columns y.column_label w ≡ true) ⊎ (has_label y.columns y.column_label w ≡ false) → y.column_label j ≤ w
    first w o q (inl e) =
        let p = place_of y.columns y.column_label w e in
        let at : Opens n mark aim (table_of y) (y.column_label p.at) o = subst (λ v. Opens n mark aim (table_of y) v o) (sym p.is) q in
        subst (λ v. y.column_label j ≤ v) p.is (c.first p.at o (record { below = p.below; moves = at.moves; helps = subst (λ z. pos 0 <ℤ (toward aim.way *ℤ (toward o *ℤ z))) (aimed p.at p.below) at.helps }))
    first w o q (inr e) =
        let z : (table_of y).cell aim.row w ≡ pos 0 = cell_none n y h aim.row w (λ b l s. both_ways (has_label y.columns y.column_label w) e (ap (has_label y.columns y.column_label) (sym s) ∙ has_place y.columns y.column_label b l)) in
        let none : toward aim.way *ℤ (toward o *ℤ (table_of y).cell aim.row w) ≡ pos 0 = ap (λ c. toward aim.way *ℤ (toward o *ℤ c)) z ∙ ring3 (λ r o z. r ⊗ (o ⊗ lit (pos 0))) (λ r o z. lit (pos 0)) refl (toward aim.way) (toward o) (pos 0) in
        let helps = q.helps in
        absurd (omega (arith, linear))

-- there is one choice at most
one_way : (r : ℤ) (a : ℤ) (g o : Way) → pos 0 <ℤ (r *ℤ (toward g *ℤ a)) → pos 0 <ℤ (r *ℤ (toward o *ℤ a)) → g ≡ o
one_way r a Up Up h k = refl
one_way r a Down Down h k = refl
one_way r a Up Down h k = let e : r *ℤ (negsuc 0 *ℤ a) ≡ neg_ℤ (r *ℤ (pos 1 *ℤ a)) = ring2 (λ r a. r ⊗ (lit (negsuc 0) ⊗ a)) (λ r a. neg (r ⊗ (lit (pos 1) ⊗ a))) refl r a in absurd (omega (arith, linear))
one_way r a Down Up h k = let e : r *ℤ (negsuc 0 *ℤ a) ≡ neg_ℤ (r *ℤ (pos 1 *ℤ a)) = ring2 (λ r a. r ⊗ (lit (negsuc 0) ⊗ a)) (λ r a. neg (r ⊗ (lit (pos 1) ⊗ a))) refl r a in absurd (omega (arith, linear))

pub one_choice : (n : ℕ) (mark : ℕ → Mark) (aim : Aim) (y : Layout) (k : ℕ) → IsLayout n y → (j : ℕ) (g : Way) (r : ℕ) (h : ℕ) (o : Way) (i : ℕ) → IsChoice mark aim y k j g r → IsChoice mark aim y k h o i → (j ≡ h) × (g ≡ o) × (r ≡ i)
one_choice n mark aim y k l j g r h o i c d =
    let column : j ≡ h = l.columns_once j h c.opens.below d.opens.below (omega (arith, c.first h o d.opens, d.first j g c.opens)) in
    let way : g ≡ o = one_way (toward aim.way) (y.cell k h) g o (subst (λ b. pos 0 <ℤ (toward aim.way *ℤ (toward g *ℤ y.cell k b))) column c.opens.helps) d.opens.helps in
    let e : IsChoice mark aim y k j g i = subst₂ (λ b w. IsChoice mark aim y k b w i) (sym column) (sym way) d in
    let near = c.nearest i e.stops in
    let near' = e.nearest r c.stops in
    let low = c.tie i e.stops (omega arith) in
    let low' = e.tie r c.stops (omega arith) in
    (column, way, l.rows_once r i c.stops.below e.stops.below (omega arith))
