-- What a table says: values for the columns give values that meet it, and the rows at values that are 0 on the columns.
use Rattle.std.proofs.Common.{◌≡◌, ◌≢◌, ℕ, ◌<◌, ◌⊎◌, inl, inr, ℤ, pos, ◌+ℤ◌, ◌*ℤ◌, ◌<ℤ◌, true, false, cond, [], ◌∷◌, arith, refl, sym, ap, ◌∙◌, subst}
use lib.IntN.{zero-*ℤ, *ℤ-zero}
use Rattle.std.proofs.lemmas.Int.{ints}
use Rattle.std.proofs.lemmas.Bool.{cases_Bool, cond-true, cond-false, cond_both}
use Rattle.emp_algebra.proofs.Ring.{var, lit, ◌⊕◌, ◌⊗◌, by_ring, ring3}
use Rattle.emp_turns.specs.Table.{Table, total, Holds, IsTable}
use Rattle.emp_turns.proofs.Totals.{total_same, total_scale, total_one, product, product_without, product_pos, product_is}

-- a multiple of the values x over s on the columns, and what the rows then are
pub record Filled (n : ℕ) (t : Table) (s : ℤ) (x : ℕ → ℤ) : Type 0 where
  pub by : ℤ
  pub value : ℕ → ℤ
  pub positive : pos 0 <ℤ by
  pub holds : Holds n t (by *ℤ s) value
  pub columns : (w : ℕ) → w < n → t.is_row w ≡ false → value w ≡ by *ℤ x w

module _ (n : ℕ) (t : Table) (h : IsTable n t) where
  -- the denominator of a row, and 1 at a column
  abbrev pub divisor : ℕ → ℤ
  divisor v = cond (t.is_row v) (t.denom v) (pos 1)

  abbrev pub row_sum : ℤ → (ℕ → ℤ) → ℕ → ℤ
  row_sum s x v = t.constant v *ℤ s +ℤ total n (λ w. t.cell v w *ℤ x w)

  abbrev pub filling : ℤ → (ℕ → ℤ) → ℕ → ℤ
  filling s x v = cond (t.is_row v) (product_without n divisor v *ℤ row_sum s x v) (product n divisor *ℤ x v)

  divisor_pos : (v : ℕ) → v < n → pos 0 <ℤ divisor v
  divisor_pos v k = cond_both (t.is_row v) (t.denom v) (pos 1) (λ z. pos 0 <ℤ z) (λ e. h.positive v k e) (λ e. omega (arith, ints))

  filling_term : (s : ℤ) (x : ℕ → ℤ) (v w : ℕ) → v < n → w < n → t.is_row v ≡ true → t.cell v w *ℤ filling s x w ≡ product n divisor *ℤ (t.cell v w *ℤ x w)
  filling_term s x v w k l r = go (cases_Bool (t.is_row w))
    where
      go : (t.is_row w ≡ true) ⊎ (t.is_row w ≡ false) → t.cell v w *ℤ filling s x w ≡ product n divisor *ℤ (t.cell v w *ℤ x w)
      go (inl e) =
          let z : t.cell v w ≡ pos 0 = h.columns v w k l r e in
          subst (λ a. a *ℤ filling s x w ≡ product n divisor *ℤ (a *ℤ x w)) (sym z) (ring3 (λ a b c. lit (pos 0) ⊗ a) (λ a b c. b ⊗ (lit (pos 0) ⊗ c)) refl (filling s x w) (product n divisor) (x w))
      go (inr e) =
          ap (λ z. t.cell v w *ℤ z) (cond-false (t.is_row w) (product_without n divisor w *ℤ row_sum s x w) (product n divisor *ℤ x w) e) ∙ ring3 (λ a b c. a ⊗ (b ⊗ c)) (λ a b c. b ⊗ (a ⊗ c)) refl (t.cell v w) (product n divisor) (x w)

  filling_holds : (s : ℤ) (x : ℕ → ℤ) → Holds n t (product n divisor *ℤ s) (filling s x)
  filling_holds s x v k r =
      let value : filling s x v ≡ product_without n divisor v *ℤ row_sum s x v = cond-true (t.is_row v) (product_without n divisor v *ℤ row_sum s x v) (product n divisor *ℤ x v) r in
      let own : divisor v ≡ t.denom v = cond-true (t.is_row v) (t.denom v) (pos 1) r in
      let whole : t.denom v *ℤ product_without n divisor v ≡ product n divisor = ap (λ z. z *ℤ product_without n divisor v) (sym own) ∙ product_is n divisor v k in
      let sum : total n (λ w. t.cell v w *ℤ filling s x w) ≡ product n divisor *ℤ total n (λ w. t.cell v w *ℤ x w) = total_same n (λ w. t.cell v w *ℤ filling s x w) (λ w. product n divisor *ℤ (t.cell v w *ℤ x w)) (λ w l. filling_term s x v w k l r) ∙ total_scale n (product n divisor) (λ w. t.cell v w *ℤ x w) in
      ap (λ z. t.denom v *ℤ z) value ∙ (ring3 (λ a b c. a ⊗ (b ⊗ c)) (λ a b c. a ⊗ b ⊗ c) refl (t.denom v) (product_without n divisor v) (row_sum s x v) ∙ (ap (λ z. z *ℤ row_sum s x v) whole ∙ (by_ring (product n divisor ∷ t.constant v ∷ s ∷ total n (λ w. t.cell v w *ℤ x w) ∷ []) (var 0 ⊗ (var 1 ⊗ var 2 ⊕ var 3)) (var 1 ⊗ (var 0 ⊗ var 2) ⊕ var 0 ⊗ var 3) refl ∙ ap (λ z. t.constant v *ℤ (product n divisor *ℤ s) +ℤ z) (sym sum))))

  pub fill : (s : ℤ) (x : ℕ → ℤ) → Filled n t s x
  fill s x = record {
    by = product n divisor;
    value = filling s x;
    positive = product_pos n divisor divisor_pos;
    holds = filling_holds s x;
    columns = λ w l e. cond-false (t.is_row w) (product_without n divisor w *ℤ row_sum s x w) (product n divisor *ℤ x w) e;
  }

  -- a row where the column e alone is not 0
  pub row_moved : (s : ℤ) (y : ℕ → ℤ) (e : ℕ) → Holds n t s y → e < n → ((w : ℕ) → w < n → t.is_row w ≡ false → w ≢ e → y w ≡ pos 0) → (v : ℕ) → v < n → t.is_row v ≡ true → t.denom v *ℤ y v ≡ t.constant v *ℤ s +ℤ t.cell v e *ℤ y e
  row_moved s y e holds le still v k r = holds v k r ∙ ap (λ z. t.constant v *ℤ s +ℤ z) (total_one n (λ w. t.cell v w *ℤ y w) e le (λ w l ne. go w l ne (cases_Bool (t.is_row w))))
    where
      go : (w : ℕ) → w < n → w ≢ e → (t.is_row w ≡ true) ⊎ (t.is_row w ≡ false) → t.cell v w *ℤ y w ≡ pos 0
      go w l ne (inl q) = ap (λ z. z *ℤ y w) (h.columns v w k l r q) ∙ zero-*ℤ (y w)
      go w l ne (inr q) = ap (λ z. t.cell v w *ℤ z) (still w l q ne) ∙ *ℤ-zero (t.cell v w)

  -- a row where all columns are 0
  pub row_still : (s : ℤ) (y : ℕ → ℤ) → Holds n t s y → ((w : ℕ) → w < n → t.is_row w ≡ false → y w ≡ pos 0) → (v : ℕ) → v < n → t.is_row v ≡ true → t.denom v *ℤ y v ≡ t.constant v *ℤ s
  row_still s y holds still v k r =
      row_moved s y v holds k (λ w l q ne. still w l q) v k r ∙ (ap (λ z. t.constant v *ℤ s +ℤ z *ℤ y v) (h.columns v v k k r r) ∙ ring3 (λ a b c. a ⊗ b ⊕ lit (pos 0) ⊗ c) (λ a b c. a ⊗ b) refl (t.constant v) s (y v))
