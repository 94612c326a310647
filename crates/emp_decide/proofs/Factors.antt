-- The factors of a row, and the combination that they make.
use Rattle.std.proofs.Common.{◌≡◌, ◌≢◌, ℕ, zero, suc, ◌-◌, ◌<◌, ◌≤◌, ◌⊎◌, inl, inr, ℤ, pos, ◌+ℤ◌, ◌-ℤ◌, ◌*ℤ◌, List, [], ◌∷◌, length, replicate, arith, refl, sym, ap, ap₂, subst, ◌∙◌}
use Rattle.std.proofs.lemmas.List.{length-set, length-replicate, get_or-set_same, get_or-set_other}
use Rattle.std.proofs.lemmas.Bool.{cases_eq}
use Rattle.emp_algebra.proofs.Ring.{var, lit, ◌⊕◌, ◌⊖◌, ◌⊗◌, by_ring}
use Rattle.emp_algebra.proofs.Vectors.{dot-set_cell}
use Rattle.emp_algebra.specs.Vector.{cell, dot}
use Rattle.emp_turns.specs.Table.{total}
use Rattle.emp_dict.specs.declared.label.Label.{Label}
use Rattle.emp_dict.specs.declared.label.Label.TheVariants.{Base, Quantity, Objective}
use Rattle.emp_dict.specs.Dictionary.{Dictionary, cell_at, row_label, column_label}
use Rattle.emp_decide.specs.Reads.{put, spread, factors}
use Rattle.emp_decide.specs.Rows.{HasPlace}

-- the value of a quantity, and 0 for what is none
abbrev pub quantity_value : (Label → ℤ) → Label → ℤ
quantity_value f (Base b) = pos 0
quantity_value f (Quantity k) = f (Quantity k)
quantity_value f Objective = pos 0

-- the label's place in the list has 0
abbrev pub Empty : List ℤ → Label → Type 0
Empty fs (Base b) = Unit {0}
Empty fs (Quantity k) = cell fs (k - 1) ≡ pos 0
Empty fs Objective = Unit {0}

pub length-put : (w : Label) (z : ℤ) (fs : List ℤ) → length (put w z fs) ≡ length fs
length-put (Base b) z fs = refl
length-put (Quantity k) z fs = length-set fs (k - 1) z
length-put Objective z fs = refl

pub length-spread : (d : Dictionary) (r : ℕ) (across : ℤ) (m : ℕ) (fs : List ℤ) → length (spread d r across m fs) ≡ length fs
length-spread d r across zero fs = refl
length-spread d r across (suc m) fs = length-put (column_label d m) (across *ℤ cell_at d r m) (spread d r across m fs) ∙ length-spread d r across m fs

pub length-factors : (d : Dictionary) (r : ℕ) (own across : ℤ) → length (factors d r own across) ≡ length d.marks
length-factors d r own across =
    length-spread d r across (length d.columns) (put (row_label d r) own (replicate (length d.marks) (pos 0))) ∙ (length-put (row_label d r) own (replicate (length d.marks) (pos 0)) ∙ length-replicate (length d.marks) (pos 0))

-- ---- the combination
module _ (f : Label → ℤ) (vs : List ℤ) (are : (k : ℕ) → 0 < k → k ≤ length vs → cell vs (k - 1) ≡ f (Quantity k)) where
  dot-put : (w : Label) (z : ℤ) (fs : List ℤ) → length fs ≡ length vs → HasPlace (length vs) w → Empty fs w → dot (put w z fs) vs ≡ dot fs vs +ℤ z *ℤ quantity_value f w
  dot-put (Base b) z fs l h e = by_ring (dot fs vs ∷ z ∷ []) (var 0) (var 0 ⊕ var 1 ⊗ lit (pos 0)) refl
  dot-put (Quantity k) z fs l h e =
      let h0 = h.0 in
      let h1 = h.1 in
      dot-set_cell fs vs (k - 1) z (omega arith) ∙ ap₂ (λ a b. dot fs vs +ℤ a *ℤ b) (ap (λ y. z -ℤ y) e ∙ by_ring (z ∷ []) (var 0 ⊖ lit (pos 0)) (var 0) refl) (are k h.0 h.1)
  dot-put Objective z fs l h e = by_ring (dot fs vs ∷ z ∷ []) (var 0) (var 0 ⊕ var 1 ⊗ lit (pos 0)) refl

  pub dot-spread : (d : Dictionary) (r : ℕ) (across : ℤ) (m : ℕ) (fs : List ℤ) → length fs ≡ length vs → ((j : ℕ) → j < m → HasPlace (length vs) (column_label d j)) → ((j : ℕ) → j < m → Empty (spread d r across j fs) (column_label d j)) → dot (spread d r across m fs) vs ≡ dot fs vs +ℤ across *ℤ total m (λ j. cell_at d r j *ℤ quantity_value f (column_label d j))
  dot-spread d r across zero fs l fit empty = by_ring (dot fs vs ∷ across ∷ []) (var 0) (var 0 ⊕ var 1 ⊗ lit (pos 0)) refl
  dot-spread d r across (suc m) fs l fit empty =
      dot-put (column_label d m) (across *ℤ cell_at d r m) (spread d r across m fs) (length-spread d r across m fs ∙ l) (fit m (omega arith)) (empty m (omega arith))
      ∙ (ap (λ y. y +ℤ across *ℤ cell_at d r m *ℤ quantity_value f (column_label d m)) (dot-spread d r across m fs l (λ j b. fit j (omega arith)) (λ j b. empty j (omega arith)))
      ∙ by_ring (dot fs vs ∷ across ∷ total m (λ j. cell_at d r j *ℤ quantity_value f (column_label d j)) ∷ cell_at d r m ∷ quantity_value f (column_label d m) ∷ [])
      (var 0 ⊕ var 1 ⊗ var 2 ⊕ var 1 ⊗ var 3 ⊗ var 4)
      (var 0 ⊕ var 1 ⊗ (var 2 ⊕ var 3 ⊗ var 4))
      refl)

  pub dot-put_zeros : (w : Label) (z : ℤ) (fs : List ℤ) → length fs ≡ length vs → HasPlace (length vs) w → Empty fs w → dot fs vs ≡ pos 0 → dot (put w z fs) vs ≡ z *ℤ quantity_value f w
  dot-put_zeros w z fs l h e none = dot-put w z fs l h e ∙ (ap (λ y. y +ℤ z *ℤ quantity_value f w) none ∙ by_ring ((z *ℤ quantity_value f w) ∷ []) (lit (pos 0) ⊕ var 0) (var 0) refl)

-- ---- the factor of one quantity
pub cell_put_none : (w : Label) (z : ℤ) (fs : List ℤ) (k : ℕ) → 0 < k → w ≢ Quantity k → HasPlace (length fs) w → cell (put w z fs) (k - 1) ≡ cell fs (k - 1)
cell_put_none (Base b) z fs k h n fit = refl
cell_put_none (Quantity q) z fs k h n fit = let f0 = fit.0 in get_or-set_other fs (q - 1) (k - 1) z (pos 0) (λ e. n (ap Quantity (omega arith)))
cell_put_none Objective z fs k h n fit = refl

pub cell_put : (w : Label) (z : ℤ) (fs : List ℤ) (k : ℕ) → w ≡ Quantity k → 0 < k → k ≤ length fs → cell (put w z fs) (k - 1) ≡ z
cell_put w z fs k e h l = ap (λ v. cell (put v z fs) (k - 1)) e ∙ get_or-set_same fs (k - 1) z (pos 0) (omega arith)

pub cell_spread_none : (d : Dictionary) (r : ℕ) (across : ℤ) (m : ℕ) (fs : List ℤ) (k : ℕ) → 0 < k → ((j : ℕ) → j < m → HasPlace (length fs) (column_label d j)) → ((j : ℕ) → j < m → column_label d j ≢ Quantity k) → cell (spread d r across m fs) (k - 1) ≡ cell fs (k - 1)
cell_spread_none d r across zero fs k h fit none = refl
cell_spread_none d r across (suc m) fs k h fit none =
    cell_put_none (column_label d m) (across *ℤ cell_at d r m) (spread d r across m fs) k h (none m (omega arith)) (subst (λ n. HasPlace n (column_label d m)) (sym (length-spread d r across m fs)) (fit m (omega arith)))
    ∙ cell_spread_none d r across m fs k h (λ j b. fit j (omega arith)) (λ j b. none j (omega arith))

pub cell_spread : (d : Dictionary) (r : ℕ) (across : ℤ) (m : ℕ) (fs : List ℤ) (k h : ℕ) → 0 < k → k ≤ length fs → ((j : ℕ) → j < m → HasPlace (length fs) (column_label d j)) → h < m → column_label d h ≡ Quantity k → ((j : ℕ) → j < m → column_label d j ≡ Quantity k → j ≡ h) → cell (spread d r across m fs) (k - 1) ≡ across *ℤ cell_at d r h
cell_spread d r across zero fs k h above within fit below label once = absurd (omega arith)
cell_spread d r across (suc m) fs k h above within fit below label once = go (cases_eq h m) (λ b. cell_spread d r across m fs k h above within (λ j l. fit j (omega arith)) b label (λ j l. once j (omega arith)))
  where
    go : (h ≡ m) ⊎ (h ≢ m) → (h < m → cell (spread d r across m fs) (k - 1) ≡ across *ℤ cell_at d r h) → cell (spread d r across (suc m) fs) (k - 1) ≡ across *ℤ cell_at d r h
    go (inl e) rest =
        cell_put (column_label d m) (across *ℤ cell_at d r m) (spread d r across m fs) k (ap (column_label d) (sym e) ∙ label) above (let l = length-spread d r across m fs in omega arith)
        ∙ ap (λ j. across *ℤ cell_at d r j) (sym e)
    go (inr n) rest =
        cell_put_none (column_label d m) (across *ℤ cell_at d r m) (spread d r across m fs) k above (λ e. n (sym (once m (omega arith) e))) (subst (λ l. HasPlace l (column_label d m)) (sym (length-spread d r across m fs)) (fit m (omega arith)))
        ∙ rest (omega arith)
