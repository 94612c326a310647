-- A pivot's numbers keep the solutions.
use Rattle.std.proofs.Common.{◌≡◌, ◌≢◌, ◌↔◌, ℕ, ◌<◌, ◌⊎◌, inl, inr, ℤ, pos, neg_ℤ, ◌+ℤ◌, ◌-ℤ◌, ◌*ℤ◌, ◌<ℤ◌, [], ◌∷◌, arith, refl, sym, ap, ap₂, ◌∙◌, subst}
use lib.IntN.{zero-*ℤ, *ℤ-zero}
use Rattle.std.proofs.lemmas.Bool.{cases_eq}
use Rattle.emp_algebra.proofs.Laws.{mul_pos}
use Rattle.emp_algebra.proofs.Ring.{var, lit, neg, ◌⊕◌, ◌⊖◌, ◌⊗◌, by_ring, ring2, ring3}
use Rattle.emp_algebra.proofs.Order.{linear, cancel_right}
use Rattle.emp_turns.specs.Table.{total}
use Rattle.emp_turns.specs.Layout.{Layout, RowsHold, IsRelabelled, IsPivot, IsTurned}
use Rattle.emp_turns.proofs.Totals.{total_scale, total_add, total_change}
use Rattle.emp_turns.proofs.Signs.{lt_cancel_right}

zero_from_multiple : (k z : ℤ) → pos 0 <ℤ k → k *ℤ z ≡ pos 0 → z ≡ pos 0
zero_from_multiple k z h e = cancel_right z (pos 0) k (ring2 (λ k z. z ⊗ k) (λ k z. k ⊗ z) refl k z ∙ (e ∙ sym (zero-*ℤ k))) h

difference_zero : (a b : ℤ) → a ≡ b → a -ℤ b ≡ pos 0
difference_zero a b e = omega (arith, linear)

same_from_difference : (a b : ℤ) → a -ℤ b ≡ pos 0 → a ≡ b
same_from_difference a b e = omega (arith, linear)

module _ (y z : Layout) (r j : ℕ) (f : ℤ) (own other common : ℕ → ℤ) (labels : IsRelabelled y r j z) (t : IsTurned y r j f own other common z) where
  positive : ((i : ℕ) → i < y.rows → pos 0 <ℤ y.denom i) → (i : ℕ) → i < y.rows → pos 0 <ℤ z.denom i
  positive h i k = go (cases_eq i r)
    where
      go : (i ≡ r) ⊎ (i ≢ r) → pos 0 <ℤ z.denom i
      go (inl e) = subst (λ a. pos 0 <ℤ z.denom a) (sym e) t.head
      go (inr n) =
          let p = mul_pos (own i) (y.denom i) (t.own_pos i k n) (h i k) in
          let c = t.common_pos i k n in
          lt_cancel_right (pos 0) (z.denom i) (common i) (rw (zero-*ℤ (common i)) (subst (λ a. pos 0 <ℤ a) (sym (t.other_denom i k n) ∙ ring2 (λ a b. a ⊗ b) (λ a b. b ⊗ a) refl (common i) (z.denom i)) p)) (omega (arith, linear))

  module _ (s : ℤ) (x : ℕ → ℤ) where
    abbrev in_y : ℕ → ℤ
    in_y i = total y.columns (λ l. y.cell i l *ℤ x (y.column_label l))

    abbrev in_z : ℕ → ℤ
    in_z i = total y.columns (λ l. z.cell i l *ℤ x (z.column_label l))

    -- how far a row is from being true
    abbrev off_y : ℕ → ℤ
    off_y i = y.denom i *ℤ x (y.row_label i) -ℤ (y.constant i *ℤ s +ℤ in_y i)

    abbrev off_z : ℕ → ℤ
    off_z i = z.denom i *ℤ x (z.row_label i) -ℤ (z.constant i *ℤ s +ℤ in_z i)

    turned_sum : in_z r ≡ neg_ℤ f *ℤ in_y r +ℤ (f *ℤ y.denom r *ℤ x (y.row_label r) -ℤ neg_ℤ f *ℤ (y.cell r j *ℤ x (y.column_label j)))
    turned_sum =
        total_change y.columns (λ l. neg_ℤ f *ℤ (y.cell r l *ℤ x (y.column_label l))) (λ l. z.cell r l *ℤ x (z.column_label l)) j labels.column_in (λ l k n. ap₂ (λ a w. a *ℤ x w) (t.cells l k n) (labels.columns_rest l k n) ∙ ring3 (λ f a x. neg (f ⊗ a) ⊗ x) (λ f a x. neg f ⊗ (a ⊗ x)) refl f (y.cell r l) (x (y.column_label l)))
        ∙ ap₂ (λ a b. a +ℤ (b -ℤ neg_ℤ f *ℤ (y.cell r j *ℤ x (y.column_label j)))) (total_scale y.columns (neg_ℤ f) (λ l. y.cell r l *ℤ x (y.column_label l))) (ap₂ (λ a w. a *ℤ x w) t.cell labels.column)

    -- the row of the pivot is the same row but for its sign
    turned_off : off_z r ≡ neg_ℤ f *ℤ off_y r
    turned_off =
        ap₂ (λ a b. a -ℤ b) (ap₂ (λ d w. d *ℤ x w) t.denom labels.row) (ap₂ (λ c b. c *ℤ s +ℤ b) t.constant turned_sum)
        ∙ by_ring (f ∷ y.cell r j ∷ x (y.column_label j) ∷ y.constant r ∷ s ∷ in_y r ∷ y.denom r ∷ x (y.row_label r) ∷ [])
        (var 0 ⊗ var 1 ⊗ var 2 ⊖ (neg (var 0 ⊗ var 3) ⊗ var 4 ⊕ (neg (var 0) ⊗ var 5 ⊕ (var 0 ⊗ var 6 ⊗ var 7 ⊖ neg (var 0) ⊗ (var 1 ⊗ var 2)))))
        (neg (var 0) ⊗ (var 6 ⊗ var 7 ⊖ (var 3 ⊗ var 4 ⊕ var 5)))
        refl

    other_sum : (i : ℕ) → i < y.rows → i ≢ r → common i *ℤ in_z i ≡ own i *ℤ in_y i +ℤ other i *ℤ in_z r -ℤ own i *ℤ (y.cell i j *ℤ x (y.column_label j))
    other_sum i k n =
        sym (total_scale y.columns (common i) (λ l. z.cell i l *ℤ x (z.column_label l)))
        ∙ (total_change y.columns (λ l. own i *ℤ (y.cell i l *ℤ x (y.column_label l)) +ℤ other i *ℤ (z.cell r l *ℤ x (z.column_label l))) (λ l. common i *ℤ (z.cell i l *ℤ x (z.column_label l))) j labels.column_in off
        ∙ ap₂ (λ a b. a +ℤ (b -ℤ (own i *ℤ (y.cell i j *ℤ x (y.column_label j)) +ℤ other i *ℤ (z.cell r j *ℤ x (z.column_label j)))))
        (total_add y.columns (λ l. own i *ℤ (y.cell i l *ℤ x (y.column_label l))) (λ l. other i *ℤ (z.cell r l *ℤ x (z.column_label l))) ∙ ap₂ (λ a b. a +ℤ b) (total_scale y.columns (own i) (λ l. y.cell i l *ℤ x (y.column_label l))) (total_scale y.columns (other i) (λ l. z.cell r l *ℤ x (z.column_label l))))
        (ring3 (λ c a w. c ⊗ (a ⊗ w)) (λ c a w. c ⊗ a ⊗ w) refl (common i) (z.cell i j) (x (z.column_label j)) ∙ ap (λ a. a *ℤ x (z.column_label j)) (t.other_cell i k n))
        ∙ by_ring ((own i *ℤ in_y i) ∷ (other i *ℤ in_z r) ∷ other i ∷ z.cell r j ∷ x (z.column_label j) ∷ (own i *ℤ (y.cell i j *ℤ x (y.column_label j))) ∷ []) (var 0 ⊕ var 1 ⊕ (var 2 ⊗ var 3 ⊗ var 4 ⊖ (var 5 ⊕ var 2 ⊗ (var 3 ⊗ var 4)))) (var 0 ⊕ var 1 ⊖ var 5) refl)
      where
        off : (l : ℕ) → l < y.columns → l ≢ j → common i *ℤ (z.cell i l *ℤ x (z.column_label l)) ≡ own i *ℤ (y.cell i l *ℤ x (y.column_label l)) +ℤ other i *ℤ (z.cell r l *ℤ x (z.column_label l))
        off l b m =
            ring3 (λ c a w. c ⊗ (a ⊗ w)) (λ c a w. c ⊗ a ⊗ w) refl (common i) (z.cell i l) (x (z.column_label l))
            ∙ (ap (λ a. a *ℤ x (z.column_label l)) (t.other_cells i l k n b m)
            ∙ (by_ring (own i ∷ y.cell i l ∷ other i ∷ z.cell r l ∷ x (z.column_label l) ∷ []) ((var 0 ⊗ var 1 ⊕ var 2 ⊗ var 3) ⊗ var 4) (var 0 ⊗ (var 1 ⊗ var 4) ⊕ var 2 ⊗ (var 3 ⊗ var 4)) refl
            ∙ ap (λ w. own i *ℤ (y.cell i l *ℤ x w) +ℤ other i *ℤ (z.cell r l *ℤ x (z.column_label l))) (labels.columns_rest l b m)))

    -- each other row is the same but for a factor above 0, where the row of the pivot is true
    other_off : (i : ℕ) → i < y.rows → i ≢ r → off_z r ≡ pos 0 → common i *ℤ off_z i ≡ own i *ℤ off_y i
    other_off i k n e =
        let row : z.denom r *ℤ x (y.column_label j) ≡ z.constant r *ℤ s +ℤ in_z r = ap (λ w. z.denom r *ℤ x w) (sym labels.row) ∙ same_from_difference (z.denom r *ℤ x (z.row_label r)) (z.constant r *ℤ s +ℤ in_z r) e in
        let met : own i *ℤ (y.cell i j *ℤ x (y.column_label j)) ≡ other i *ℤ (z.constant r *ℤ s +ℤ in_z r) =
        ring3 (λ o a w. o ⊗ (a ⊗ w)) (λ o a w. o ⊗ a ⊗ w) refl (own i) (y.cell i j) (x (y.column_label j)) ∙ (ap (λ a. a *ℤ x (y.column_label j)) (sym (t.meets i k n)) ∙ (ring3 (λ o a w. o ⊗ a ⊗ w) (λ o a w. o ⊗ (a ⊗ w)) refl (other i) (z.denom r) (x (y.column_label j)) ∙ ap (λ a. other i *ℤ a) row)) in
        by_ring (common i ∷ z.denom i ∷ x (z.row_label i) ∷ z.constant i ∷ s ∷ in_z i ∷ []) (var 0 ⊗ (var 1 ⊗ var 2 ⊖ (var 3 ⊗ var 4 ⊕ var 5))) (var 0 ⊗ var 1 ⊗ var 2 ⊖ (var 0 ⊗ var 3 ⊗ var 4 ⊕ var 0 ⊗ var 5)) refl
        ∙ (ap₂ (λ a b. a -ℤ b) (ap₂ (λ a w. a *ℤ x w) (t.other_denom i k n) (labels.rows_rest i k n)) (ap₂ (λ a b. a *ℤ s +ℤ b) (t.other_constant i k n) (other_sum i k n ∙ ap (λ a. own i *ℤ in_y i +ℤ other i *ℤ in_z r -ℤ a) met))
        ∙ by_ring (own i ∷ y.denom i ∷ x (y.row_label i) ∷ y.constant i ∷ other i ∷ z.constant r ∷ s ∷ in_y i ∷ in_z r ∷ []) (var 0 ⊗ var 1 ⊗ var 2 ⊖ ((var 0 ⊗ var 3 ⊕ var 4 ⊗ var 5) ⊗ var 6 ⊕ (var 0 ⊗ var 7 ⊕ var 4 ⊗ var 8 ⊖ var 4 ⊗ (var 5 ⊗ var 6 ⊕ var 8)))) (var 0 ⊗ (var 1 ⊗ var 2 ⊖ (var 3 ⊗ var 6 ⊕ var 7))) refl)

    off_there : off_y r ≡ pos 0 → off_z r ≡ pos 0
    off_there e = turned_off ∙ (ap (λ a. neg_ℤ f *ℤ a) e ∙ *ℤ-zero (neg_ℤ f))

    off_here : off_z r ≡ pos 0 → off_y r ≡ pos 0
    off_here e =
        ring2 (λ a b. a) (λ a b. lit (pos 1) ⊗ a) refl (off_y r) s
        ∙ (ap (λ a. a *ℤ off_y r) (sym t.square)
        ∙ (ring2 (λ f a. f ⊗ f ⊗ a) (λ f a. neg f ⊗ (neg f ⊗ a)) refl f (off_y r)
        ∙ (ap (λ a. neg_ℤ f *ℤ a) (sym turned_off ∙ e) ∙ *ℤ-zero (neg_ℤ f))))

    there : ((i : ℕ) → i < y.rows → off_y i ≡ pos 0) → (i : ℕ) → i < y.rows → off_z i ≡ pos 0
    there h i k = go (cases_eq i r)
      where
        go : (i ≡ r) ⊎ (i ≢ r) → off_z i ≡ pos 0
        go (inl e) = subst (λ a. off_z a ≡ pos 0) (sym e) (off_there (h r labels.row_in))
        go (inr n) = zero_from_multiple (common i) (off_z i) (t.common_pos i k n) (other_off i k n (off_there (h r labels.row_in)) ∙ (ap (λ a. own i *ℤ a) (h i k) ∙ *ℤ-zero (own i)))

    here : ((i : ℕ) → i < y.rows → off_z i ≡ pos 0) → (i : ℕ) → i < y.rows → off_y i ≡ pos 0
    here h i k = go (cases_eq i r)
      where
        go : (i ≡ r) ⊎ (i ≢ r) → off_y i ≡ pos 0
        go (inl e) = subst (λ a. off_y a ≡ pos 0) (sym e) (off_here (h r labels.row_in))
        go (inr n) = zero_from_multiple (own i) (off_y i) (t.own_pos i k n) (sym (other_off i k n (h r labels.row_in)) ∙ (ap (λ a. common i *ℤ a) (h i k) ∙ *ℤ-zero (common i)))

    same : RowsHold y s x ↔ RowsHold z s x
    same = (
      λ h i k.
          let b : i < y.rows = omega (arith, labels.rows) in
          subst (λ c. z.denom i *ℤ x (z.row_label i) ≡ z.constant i *ℤ s +ℤ total c (λ l. z.cell i l *ℤ x (z.column_label l))) (sym labels.columns) (same_from_difference (z.denom i *ℤ x (z.row_label i)) (z.constant i *ℤ s +ℤ in_z i) (there (λ a l. difference_zero (y.denom a *ℤ x (y.row_label a)) (y.constant a *ℤ s +ℤ in_y a) (h a l)) i b)),
      λ h i k.
          same_from_difference (y.denom i *ℤ x (y.row_label i)) (y.constant i *ℤ s +ℤ in_y i)
          (here (λ a l. difference_zero (z.denom a *ℤ x (z.row_label a)) (z.constant a *ℤ s +ℤ in_z a) (subst (λ c. z.denom a *ℤ x (z.row_label a) ≡ z.constant a *ℤ s +ℤ total c (λ l. z.cell a l *ℤ x (z.column_label l))) labels.columns (h a (omega (arith, labels.rows))))) i k),
    )

  pub is_pivot : ((i : ℕ) → i < y.rows → pos 0 <ℤ y.denom i) → IsPivot y r j z
  is_pivot h = record { labels = labels; positive = positive h; same = same }
