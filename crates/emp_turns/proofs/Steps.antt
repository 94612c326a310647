-- One exchange: how the aimed row's value moves, and which points stay.
use Rattle.std.proofs.Common.{◌≡◌, ◌≢◌, ℕ, ◌<◌, ◌⊎◌, inl, inr, ℤ, pos, ◌+ℤ◌, ◌*ℤ◌, ◌≤ℤ◌, ◌<ℤ◌, true, false, cond, eqb, [], ◌∷◌, arith, refl, sym, ap, ◌∙◌, subst}
use lib.IntN.{zero-*ℤ, *ℤ-zero}
use Rattle.std.proofs.lemmas.Int.{ints}
use Rattle.std.proofs.lemmas.Bool.{cases_eq, both_ways, eq-eqb, ne_eqb}
use Rattle.emp_algebra.proofs.Ring.{lit, ◌⊕◌, ◌⊗◌, ring3, var, by_ring}
use Rattle.emp_algebra.proofs.Order.{cancel_right}
use Rattle.emp_turns.specs.Table.{Table, Holds, IsTable}
use Rattle.emp_turns.specs.Choice.{Mark, Required, Way, toward, Aim, IsChosen, IsExchange}
use Rattle.emp_turns.proofs.Signs.{toward_square, slide_nonneg, slide_pos, rise_nonneg, rise_pos}
use Rattle.emp_turns.proofs.Systems.{Filled, fill, row_moved, row_still}

-- ---- the direction of a column: it moves, the other columns stay
pub record Direction (n : ℕ) (t : Table) (e : ℕ) (g : Way) : Type 0 where
  pub by : ℤ
  pub value : ℕ → ℤ
  pub positive : pos 0 <ℤ by
  pub holds : Holds n t (pos 0) value
  pub own : value e ≡ by *ℤ toward g
  pub still : (w : ℕ) → w < n → t.is_row w ≡ false → w ≢ e → value w ≡ pos 0
  pub rows : (v : ℕ) → v < n → t.is_row v ≡ true → t.denom v *ℤ value v ≡ by *ℤ (toward g *ℤ t.cell v e)

pub direction : (n : ℕ) (t : Table) (e : ℕ) (g : Way) → IsTable n t → e < n → t.is_row e ≡ false → Direction n t e g
direction n t e g h l c =
    let f : Filled n t (pos 0) (λ w. cond (eqb w e) (toward g) (pos 0)) = fill n t h (pos 0) (λ w. cond (eqb w e) (toward g) (pos 0)) in
    let holds : Holds n t (pos 0) f.value = subst (λ s. Holds n t s f.value) (*ℤ-zero f.by) f.holds in
    let own : f.value e ≡ f.by *ℤ toward g = f.columns e l c ∙ ap (λ b. f.by *ℤ cond b (toward g) (pos 0)) (eq-eqb e e refl) in
    let still = λ (w : ℕ) (k : w < n) (q : t.is_row w ≡ false) (ne : w ≢ e). f.columns w k q ∙ (ap (λ b. f.by *ℤ cond b (toward g) (pos 0)) (ne_eqb w e ne) ∙ *ℤ-zero f.by) in
    record {
      by = f.by;
      value = f.value;
      positive = f.positive;
      holds = holds;
      own = own;
      still = still;
      rows = λ v k r.
          row_moved n t h (pos 0) f.value e holds l still v k r ∙ (ap (λ z. t.constant v *ℤ pos 0 +ℤ t.cell v e *ℤ z) own ∙ by_ring (t.constant v ∷ t.cell v e ∷ f.by ∷ toward g ∷ []) (var 0 ⊗ lit (pos 0) ⊕ var 1 ⊗ (var 2 ⊗ var 3)) (var 2 ⊗ (var 3 ⊗ var 1)) refl);
    }

-- ---- a point that is 0 on the columns stays so, where the row that leaves has the value 0
pub still_after : (n : ℕ) (t : Table) (e l : ℕ) (u : Table) → IsTable n t → IsExchange n t e l u → l < n → t.is_row l ≡ true → t.constant l ≡ pos 0 → (s : ℤ) (y : ℕ → ℤ) → Holds n t s y → ((w : ℕ) → w < n → t.is_row w ≡ false → y w ≡ pos 0) → (w : ℕ) → w < n → u.is_row w ≡ false → y w ≡ pos 0
still_after n t e l u h x k r z s y holds still w b c = go (cases_eq w l)
  where
    go : (w ≡ l) ⊎ (w ≢ l) → y w ≡ pos 0
    go (inl q) =
        let own : t.denom l *ℤ y l ≡ pos 0 = row_still n t h s y holds still l k r ∙ (ap (λ c. c *ℤ s) z ∙ zero-*ℤ s) in
        ap y q ∙ cancel_right (y l) (pos 0) (t.denom l) (ring3 (λ a b c. a ⊗ b) (λ a b c. b ⊗ a) refl (y l) (t.denom l) (pos 0) ∙ (own ∙ sym (zero-*ℤ (t.denom l)))) (h.positive l k r)
    go (inr q) =
        let ne : w ≢ e = λ p. both_ways (u.is_row w) c (ap u.is_row p ∙ x.entered) in
        still w b (sym (x.others w b ne q) ∙ c)

-- ---- the point of the table after the exchange, as the table before it sees it
module _ (n : ℕ) (mark : ℕ → Mark) (aim : Aim) (t u : Table) (e l : ℕ) (g : Way) (ht : IsTable n t) (hu : IsTable n u) (chosen : IsChosen n mark aim t e g l) (x : IsExchange n t e l u) where
  pub record Point : Type 0 where
    pub scale : ℤ
    pub value : ℕ → ℤ
    pub positive : pos 0 <ℤ scale
    pub after : (v : ℕ) → v < n → u.is_row v ≡ true → u.denom v *ℤ value v ≡ u.constant v *ℤ scale
    pub before : (v : ℕ) → v < n → t.is_row v ≡ true → t.denom v *ℤ value v ≡ t.constant v *ℤ scale +ℤ t.cell v e *ℤ value e
    pub leaves : t.constant l *ℤ scale +ℤ t.cell l e *ℤ value e ≡ pos 0

  pub point : Point
  point =
      let f : Filled n u (pos 1) (λ w. pos 0) = fill n u hu (pos 1) (λ w. pos 0) in
      let still_u = λ (w : ℕ) (k : w < n) (c : u.is_row w ≡ false). f.columns w k c ∙ *ℤ-zero f.by in
      let holds : Holds n t (f.by *ℤ pos 1) f.value = (x.same (f.by *ℤ pos 1) f.value).1 f.holds in
      let before = row_moved n t ht (f.by *ℤ pos 1) f.value e holds chosen.opens.below (still_t f.value still_u) in
      record {
        scale = f.by *ℤ pos 1;
        value = f.value;
        positive = let p = f.positive in omega (arith, ints);
        after = row_still n u hu (f.by *ℤ pos 1) f.value f.holds still_u;
        before = before;
        leaves = sym (before l chosen.stops.below chosen.stops.row) ∙ (ap (λ z. t.denom l *ℤ z) (still_u l chosen.stops.below x.left) ∙ *ℤ-zero (t.denom l));
      }
    where
      still_t : (y : ℕ → ℤ) → ((w : ℕ) → w < n → u.is_row w ≡ false → y w ≡ pos 0) → (w : ℕ) → w < n → t.is_row w ≡ false → w ≢ e → y w ≡ pos 0
      still_t y still w k c ne =
          let nl : w ≢ l = λ p. both_ways (t.is_row w) c (ap t.is_row p ∙ chosen.stops.row) in
          still w k (x.others w k ne nl ∙ c)

-- ---- the aimed row
module _ (n : ℕ) (mark : ℕ → Mark) (aim : Aim) (t u : Table) (e l : ℕ) (g : Way) (ht : IsTable n t) (hu : IsTable n u) (chosen : IsChosen n mark aim t e g l) (x : IsExchange n t e l u) (other : l ≢ aim.row) where
  -- the row that leaves is that of a Required quantity, and falls
  pub falls : (mark l ≡ Required) × ((toward g *ℤ t.cell l e) <ℤ pos 0)
  falls = go chosen.stops.why
    where
      go : ((mark l ≡ Required) × ((toward g *ℤ t.cell l e) <ℤ pos 0)) ⊎ ((l ≡ aim.row) × (aim.stops ≡ true)) → (mark l ≡ Required) × ((toward g *ℤ t.cell l e) <ℤ pos 0)
      go (inl q) = q
      go (inr q) = absurd (other q.0)

  pub risen : t.is_row aim.row ≡ true → u.is_row aim.row ≡ true → aim.row < n → pos 0 ≤ℤ t.constant l → (toward aim.way *ℤ t.constant aim.row *ℤ u.denom aim.row) ≤ℤ (toward aim.way *ℤ u.constant aim.row *ℤ t.denom aim.row)
  risen rt ru k c =
      let p = point n mark aim t u e l g ht hu chosen x in
      rise_nonneg (toward aim.way) (toward g) (t.cell aim.row e) (p.value e) (t.constant aim.row) p.scale (t.denom aim.row) (p.value aim.row) (u.denom aim.row) (u.constant aim.row) (toward_square g) (p.before aim.row k rt) (p.after aim.row k ru) p.positive (hu.positive aim.row k ru) chosen.opens.helps (slide_nonneg (toward g) (t.cell l e) (p.value e) (t.constant l) p.scale (toward_square g) falls.1 c p.positive p.leaves)

  pub risen_more : t.is_row aim.row ≡ true → u.is_row aim.row ≡ true → aim.row < n → pos 0 <ℤ t.constant l → (toward aim.way *ℤ t.constant aim.row *ℤ u.denom aim.row) <ℤ (toward aim.way *ℤ u.constant aim.row *ℤ t.denom aim.row)
  risen_more rt ru k c =
      let p = point n mark aim t u e l g ht hu chosen x in
      rise_pos (toward aim.way) (toward g) (t.cell aim.row e) (p.value e) (t.constant aim.row) p.scale (t.denom aim.row) (p.value aim.row) (u.denom aim.row) (u.constant aim.row) (toward_square g) (p.before aim.row k rt) (p.after aim.row k ru) p.positive (hu.positive aim.row k ru) chosen.opens.helps (slide_pos (toward g) (t.cell l e) (p.value e) (t.constant l) p.scale (toward_square g) falls.1 c p.positive p.leaves)
