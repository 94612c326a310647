-- A chosen exchange keeps Required quantities at least 0, and takes the aimed one to 0 at most.
use Rattle.std.proofs.Common.{◌≡◌, ◌≢◌, ℕ, ◌*◌, ◌<◌, ◌≤◌, ◌⊎◌, inl, inr, ℤ, pos, negsuc, neg_ℤ, ◌+ℤ◌, ◌-ℤ◌, ◌*ℤ◌, ◌≤ℤ◌, ◌<ℤ◌, unsigned_abs, true, false, [], ◌∷◌, arith, refl, sym, ap, ap₂, ◌∙◌, subst}
use lib.IntN.{zero-*ℤ, *ℤ-zero}
use Rattle.std.proofs.lemmas.Int.{ints, unsigned_abs-mul}
use Rattle.std.proofs.lemmas.Bool.{cases_eq, both_ways}
use Rattle.emp_algebra.proofs.Laws.{mul_nonneg}
use Rattle.emp_algebra.proofs.Ring.{var, lit, neg, ◌⊕◌, ◌⊖◌, ◌⊗◌, by_ring, ring2, ring3}
use Rattle.emp_algebra.proofs.Order.{linear, le_cancel_right, le_or_lt}
use Rattle.emp_turns.specs.Table.{Table, IsTable}
use Rattle.emp_turns.specs.Choice.{Mark, Required, Way, Up, Down, toward, Aim, IsChosen, IsExchange, IsFeasible}
use Rattle.emp_turns.proofs.Signs.{toward_square, only_up, slide, slide_nonneg}
use Rattle.emp_turns.proofs.Systems.{Filled, fill, row_still}
use Rattle.emp_turns.proofs.Steps.{Point, point, still_after}

-- ---- absolute values
abbrev abs : ℤ → ℤ
abs z = pos (unsigned_abs z)

abs_nonneg : (z : ℤ) → pos 0 ≤ℤ z → abs z ≡ z
abs_nonneg (pos a) h = refl
abs_nonneg (negsuc a) h = absurd h.le

abs_nonpos : (z : ℤ) → z ≤ℤ pos 0 → abs z ≡ neg_ℤ z
abs_nonpos (pos a) h = omega (arith, ints)
abs_nonpos (negsuc a) h = refl

abs_toward : (g : Way) (z : ℤ) → abs (toward g *ℤ z) ≡ abs z
abs_toward Up z = ap pos (unsigned_abs-mul (pos 1) z ∙ omega arith)
abs_toward Down z = ap pos (unsigned_abs-mul (negsuc 0) z ∙ omega arith)

abs_times : (a b : ℤ) → abs a *ℤ abs b ≡ pos (unsigned_abs a * unsigned_abs b)
abs_times a b = omega (arith, ints)

le_abs : (a b c d : ℤ) → unsigned_abs a * unsigned_abs b ≤ unsigned_abs c * unsigned_abs d → (abs a *ℤ abs b) ≤ℤ (abs c *ℤ abs d)
le_abs a b c d h = rw (abs_times a b, abs_times c d) (omega (arith, ints))

-- a value c with the cell -b falls to no less than 0 where the column goes f, and f a = l p
lands : (c b f p l a : ℤ) → pos 0 <ℤ a → pos 0 <ℤ p → f *ℤ a ≡ l *ℤ p → (l *ℤ b) ≤ℤ (c *ℤ a) → pos 0 ≤ℤ (c *ℤ p -ℤ b *ℤ f)
lands c b f p l a pa pp e h =
    let k : pos 0 ≤ℤ ((c *ℤ a -ℤ l *ℤ b) *ℤ p) = mul_nonneg (c *ℤ a -ℤ l *ℤ b) p (omega (arith, linear)) (omega (arith, linear)) in
    let q : (c *ℤ p -ℤ b *ℤ f) *ℤ a ≡ (c *ℤ a -ℤ l *ℤ b) *ℤ p = by_ring (c ∷ p ∷ b ∷ f ∷ a ∷ []) ((var 0 ⊗ var 1 ⊖ var 2 ⊗ var 3) ⊗ var 4) (var 0 ⊗ var 4 ⊗ var 1 ⊖ var 2 ⊗ (var 3 ⊗ var 4)) refl ∙ (ap (λ z. c *ℤ a *ℤ p -ℤ b *ℤ z) e ∙ by_ring (c ∷ a ∷ p ∷ b ∷ l ∷ []) (var 0 ⊗ var 1 ⊗ var 2 ⊖ var 3 ⊗ (var 4 ⊗ var 2)) ((var 0 ⊗ var 1 ⊖ var 4 ⊗ var 3) ⊗ var 2) refl) in
    le_cancel_right (pos 0) (c *ℤ p -ℤ b *ℤ f) a (rw (zero-*ℤ a, q) k) pa

-- the sign of a value from its row
of_row_nonneg : (d y c p : ℤ) → pos 0 <ℤ d → pos 0 <ℤ p → d *ℤ y ≡ c *ℤ p → pos 0 ≤ℤ y → pos 0 ≤ℤ c
of_row_nonneg d y c p pd pp e h = le_cancel_right (pos 0) c p (rw (zero-*ℤ p, sym e) (mul_nonneg d y (omega (arith, linear)) h)) pp

to_row_nonneg : (d y z : ℤ) → pos 0 <ℤ d → d *ℤ y ≡ z → pos 0 ≤ℤ z → pos 0 ≤ℤ y
to_row_nonneg d y z pd e h = le_cancel_right (pos 0) y d (rw (zero-*ℤ d) (subst (λ u. pos 0 ≤ℤ u) (sym e ∙ ring2 (λ d y. d ⊗ y) (λ d y. y ⊗ d) refl d y) h)) pd

squared : (g a y : ℤ) → g *ℤ g ≡ pos 1 → a *ℤ y ≡ (g *ℤ a) *ℤ (g *ℤ y)
squared g a y e = ring2 (λ a y. a ⊗ y) (λ a y. lit (pos 1) ⊗ (a ⊗ y)) refl a y ∙ (ap (λ z. z *ℤ (a *ℤ y)) (sym e) ∙ ring3 (λ g a y. g ⊗ g ⊗ (a ⊗ y)) (λ g a y. (g ⊗ a) ⊗ (g ⊗ y)) refl g a y)

slide_aim : (r g a y c p : ℤ) → g *ℤ g ≡ pos 1 → c *ℤ p +ℤ a *ℤ y ≡ pos 0 → (g *ℤ y) *ℤ (r *ℤ (g *ℤ a)) ≡ neg_ℤ (r *ℤ c) *ℤ p
slide_aim r g a y c p square e =
    by_ring (r ∷ g ∷ a ∷ y ∷ c ∷ p ∷ []) ((var 1 ⊗ var 3) ⊗ (var 0 ⊗ (var 1 ⊗ var 2))) (var 1 ⊗ var 1 ⊗ (var 0 ⊗ (var 4 ⊗ var 5 ⊕ var 2 ⊗ var 3 ⊖ var 4 ⊗ var 5))) refl ∙ (ap₂ (λ u v. u *ℤ (r *ℤ (v -ℤ c *ℤ p))) square e ∙ ring3 (λ r c p. lit (pos 1) ⊗ (r ⊗ (lit (pos 0) ⊖ c ⊗ p))) (λ r c p. neg (r ⊗ c) ⊗ p) refl r c p)

abs_both : (r g : Way) (a : ℤ) → pos 0 ≤ℤ (toward r *ℤ (toward g *ℤ a)) → abs a ≡ toward r *ℤ (toward g *ℤ a)
abs_both r g a h = sym (abs_toward r (toward g *ℤ a) ∙ abs_toward g a) ∙ abs_nonneg (toward r *ℤ (toward g *ℤ a)) h

module _ (n : ℕ) (mark : ℕ → Mark) (aim : Aim) (t u : Table) (e l : ℕ) (g : Way) (ht : IsTable n t) (hu : IsTable n u) (chosen : IsChosen n mark aim t e g l) (x : IsExchange n t e l u) (feasible : IsFeasible n mark t) (short : aim.stops ≡ true → (toward aim.way *ℤ t.constant aim.row) ≤ℤ pos 0) where
  -- how far the column goes
  record Goes (p : ℤ) (y : ℤ) : Type 0 where
    nonneg : pos 0 ≤ℤ (toward g *ℤ y)
    far : (toward g *ℤ y) *ℤ abs (t.cell l e) ≡ abs (t.constant l) *ℤ p
    cell : pos 0 <ℤ abs (t.cell l e)

  goes : (p : Point n mark aim t u e l g ht hu chosen x) → Goes p.scale (p.value e)
  goes p = go chosen.stops.why
    where
      go : ((mark l ≡ Required) × ((toward g *ℤ t.cell l e) <ℤ pos 0)) ⊎ ((l ≡ aim.row) × (aim.stops ≡ true)) → Goes p.scale (p.value e)
      go (inl q) =
          let c = feasible l chosen.stops.below chosen.stops.row q.0 in
          let size : abs (t.cell l e) ≡ neg_ℤ (toward g *ℤ t.cell l e) = sym (abs_toward g (t.cell l e)) ∙ abs_nonpos (toward g *ℤ t.cell l e) (let z = q.1 in omega (arith, linear)) in
          record {
            nonneg = slide_nonneg (toward g) (t.cell l e) (p.value e) (t.constant l) p.scale (toward_square g) q.1 c p.positive p.leaves;
            far = ap (λ z. (toward g *ℤ p.value e) *ℤ z) size ∙ (slide (toward g) (t.cell l e) (p.value e) (t.constant l) p.scale (toward_square g) p.leaves ∙ ap (λ z. z *ℤ p.scale) (sym (abs_nonneg (t.constant l) c)));
            cell = let z = q.1 in rw size (omega (arith, linear));
          }
      go (inr q) =
          let helps : pos 0 <ℤ (toward aim.way *ℤ (toward g *ℤ t.cell l e)) = subst (λ k. pos 0 <ℤ (toward aim.way *ℤ (toward g *ℤ t.cell k e))) (sym q.0) chosen.opens.helps in
          let c : (toward aim.way *ℤ t.constant l) ≤ℤ pos 0 = subst (λ k. (toward aim.way *ℤ t.constant k) ≤ℤ pos 0) (sym q.0) (short q.1) in
          let size : abs (t.cell l e) ≡ toward aim.way *ℤ (toward g *ℤ t.cell l e) = abs_both aim.way g (t.cell l e) (omega (arith, linear)) in
          let fall : abs (t.constant l) ≡ neg_ℤ (toward aim.way *ℤ t.constant l) = sym (abs_toward aim.way (t.constant l)) ∙ abs_nonpos (toward aim.way *ℤ t.constant l) c in
          let far = slide_aim (toward aim.way) (toward g) (t.cell l e) (p.value e) (t.constant l) p.scale (toward_square g) p.leaves in
          record {
            nonneg = to_row_nonneg (toward aim.way *ℤ (toward g *ℤ t.cell l e)) (toward g *ℤ p.value e) (neg_ℤ (toward aim.way *ℤ t.constant l) *ℤ p.scale) helps (ring2 (λ a b. a ⊗ b) (λ a b. b ⊗ a) refl (toward aim.way *ℤ (toward g *ℤ t.cell l e)) (toward g *ℤ p.value e) ∙ far) (mul_nonneg (neg_ℤ (toward aim.way *ℤ t.constant l)) p.scale (omega (arith, linear)) (let k = p.positive in omega (arith, linear)));
            far = ap (λ z. (toward g *ℤ p.value e) *ℤ z) size ∙ (far ∙ ap (λ z. z *ℤ p.scale) (sym fall));
            cell = rw size helps;
          }

  -- ---- Required quantities
  value_nonneg : (p : Point n mark aim t u e l g ht hu chosen x) (v : ℕ) → v < n → u.is_row v ≡ true → mark v ≡ Required → pos 0 ≤ℤ p.value v
  value_nonneg p v b r q = go (cases_eq v e)
    where
      -- a row that the table before has, too
      old : t.is_row v ≡ true → (pos 0 ≤ℤ (toward g *ℤ t.cell v e)) ⊎ ((toward g *ℤ t.cell v e) <ℤ pos 0) → pos 0 ≤ℤ p.value v
      old rt (inl k) =
          to_row_nonneg (t.denom v) (p.value v) (t.constant v *ℤ p.scale +ℤ (toward g *ℤ t.cell v e) *ℤ (toward g *ℤ p.value e)) (ht.positive v b rt)
          (p.before v b rt ∙ ap (λ z. t.constant v *ℤ p.scale +ℤ z) (squared (toward g) (t.cell v e) (p.value e) (toward_square g)))
          (omega (arith, linear, mul_nonneg (t.constant v) p.scale (feasible v b rt q) (let z = p.positive in omega (arith, linear)), mul_nonneg (toward g *ℤ t.cell v e) (toward g *ℤ p.value e) k (goes p).nonneg))
      old rt (inr k) =
          let c = feasible v b rt q in
          let near = le_abs (t.constant l) (t.cell v e) (t.constant v) (t.cell l e) (chosen.nearest v (record { below = b; row = rt; why = inl (q, k) })) in
          let size : abs (t.cell v e) ≡ neg_ℤ (toward g *ℤ t.cell v e) = sym (abs_toward g (t.cell v e)) ∙ abs_nonpos (toward g *ℤ t.cell v e) (omega (arith, linear)) in
          let near' : (abs (t.constant l) *ℤ neg_ℤ (toward g *ℤ t.cell v e)) ≤ℤ (t.constant v *ℤ abs (t.cell l e)) = subst (λ z. (abs (t.constant l) *ℤ z) ≤ℤ (t.constant v *ℤ abs (t.cell l e))) size (subst (λ z. (abs (t.constant l) *ℤ abs (t.cell v e)) ≤ℤ (z *ℤ abs (t.cell l e))) (abs_nonneg (t.constant v) c) near) in
          let move = goes p in
          to_row_nonneg (t.denom v) (p.value v) (t.constant v *ℤ p.scale -ℤ neg_ℤ (toward g *ℤ t.cell v e) *ℤ (toward g *ℤ p.value e)) (ht.positive v b rt)
          (p.before v b rt ∙ (ap (λ z. t.constant v *ℤ p.scale +ℤ z) (squared (toward g) (t.cell v e) (p.value e) (toward_square g)) ∙ ring3 (λ a c y. a ⊕ c ⊗ y) (λ a c y. a ⊖ neg c ⊗ y) refl (t.constant v *ℤ p.scale) (toward g *ℤ t.cell v e) (toward g *ℤ p.value e)))
          (lands (t.constant v) (neg_ℤ (toward g *ℤ t.cell v e)) (toward g *ℤ p.value e) p.scale (abs (t.constant l)) (abs (t.cell l e)) move.cell p.positive move.far near')

      go : (v ≡ e) ⊎ (v ≢ e) → pos 0 ≤ℤ p.value v
      go (inl is) =
          let up : g ≡ Up = only_up (mark e) g (ap mark (sym is) ∙ q) chosen.opens.moves in
          let k : pos 0 ≤ℤ (pos 1 *ℤ p.value e) = subst (λ h. pos 0 ≤ℤ (toward h *ℤ p.value e)) up (goes p).nonneg in
          subst (λ w. pos 0 ≤ℤ p.value w) (sym is) (omega (arith, ints))
      go (inr ne) =
          let nl : v ≢ l = λ k. both_ways (u.is_row v) (ap u.is_row k ∙ x.left) r in
          old (sym (x.others v b ne nl) ∙ r) (le_or_lt (pos 0) (toward g *ℤ t.cell v e))

  pub feasible_after : IsFeasible n mark u
  feasible_after v b r q =
      let p = point n mark aim t u e l g ht hu chosen x in
      of_row_nonneg (u.denom v) (p.value v) (u.constant v) p.scale (hu.positive v b r) p.positive (p.after v b r) (value_nonneg p v b r q)

  -- ---- the aimed quantity does not pass 0
  pub short_after : aim.row < n → t.is_row aim.row ≡ true → u.is_row aim.row ≡ true → aim.stops ≡ true → (toward aim.way *ℤ u.constant aim.row) ≤ℤ pos 0
  short_after b rt ru stops =
      let p = point n mark aim t u e l g ht hu chosen x in
      let move = goes p in
      let c = short stops in
      let near = le_abs (t.constant l) (t.cell aim.row e) (t.constant aim.row) (t.cell l e) (chosen.nearest aim.row (record { below = b; row = rt; why = inr (refl, stops) })) in
      let helps = chosen.opens.helps in
      let size : abs (t.cell aim.row e) ≡ toward aim.way *ℤ (toward g *ℤ t.cell aim.row e) = abs_both aim.way g (t.cell aim.row e) (omega (arith, linear)) in
      let fall : abs (t.constant aim.row) ≡ neg_ℤ (toward aim.way *ℤ t.constant aim.row) = sym (abs_toward aim.way (t.constant aim.row)) ∙ abs_nonpos (toward aim.way *ℤ t.constant aim.row) c in
      let near' : (abs (t.constant l) *ℤ (toward aim.way *ℤ (toward g *ℤ t.cell aim.row e))) ≤ℤ (neg_ℤ (toward aim.way *ℤ t.constant aim.row) *ℤ abs (t.cell l e)) = subst (λ z. (abs (t.constant l) *ℤ z) ≤ℤ (neg_ℤ (toward aim.way *ℤ t.constant aim.row) *ℤ abs (t.cell l e))) size (subst (λ z. (abs (t.constant l) *ℤ abs (t.cell aim.row e)) ≤ℤ (z *ℤ abs (t.cell l e))) fall near) in
      let land = lands (neg_ℤ (toward aim.way *ℤ t.constant aim.row)) (toward aim.way *ℤ (toward g *ℤ t.cell aim.row e)) (toward g *ℤ p.value e) p.scale (abs (t.constant l)) (abs (t.cell l e)) move.cell p.positive move.far near' in
      let row : t.denom aim.row *ℤ neg_ℤ (toward aim.way *ℤ p.value aim.row) ≡ neg_ℤ (toward aim.way *ℤ t.constant aim.row) *ℤ p.scale -ℤ (toward aim.way *ℤ (toward g *ℤ t.cell aim.row e)) *ℤ (toward g *ℤ p.value e) =
      ring3 (λ d r y. d ⊗ neg (r ⊗ y)) (λ d r y. neg (r ⊗ (d ⊗ y))) refl (t.denom aim.row) (toward aim.way) (p.value aim.row) ∙ (ap (λ z. neg_ℤ (toward aim.way *ℤ z)) (p.before aim.row b rt ∙ ap (λ z. t.constant aim.row *ℤ p.scale +ℤ z) (squared (toward g) (t.cell aim.row e) (p.value e) (toward_square g))) ∙ by_ring (toward aim.way ∷ t.constant aim.row ∷ p.scale ∷ (toward g *ℤ t.cell aim.row e) ∷ (toward g *ℤ p.value e) ∷ []) (neg (var 0 ⊗ (var 1 ⊗ var 2 ⊕ var 3 ⊗ var 4))) (neg (var 0 ⊗ var 1) ⊗ var 2 ⊖ (var 0 ⊗ var 3) ⊗ var 4) refl) in
      let value : pos 0 ≤ℤ neg_ℤ (toward aim.way *ℤ p.value aim.row) = to_row_nonneg (t.denom aim.row) (neg_ℤ (toward aim.way *ℤ p.value aim.row)) (neg_ℤ (toward aim.way *ℤ t.constant aim.row) *ℤ p.scale -ℤ (toward aim.way *ℤ (toward g *ℤ t.cell aim.row e)) *ℤ (toward g *ℤ p.value e)) (ht.positive aim.row b rt) row land in
      let after : u.denom aim.row *ℤ neg_ℤ (toward aim.way *ℤ p.value aim.row) ≡ neg_ℤ (toward aim.way *ℤ u.constant aim.row) *ℤ p.scale =
      ring3 (λ d r y. d ⊗ neg (r ⊗ y)) (λ d r y. neg (r ⊗ (d ⊗ y))) refl (u.denom aim.row) (toward aim.way) (p.value aim.row) ∙ (ap (λ z. neg_ℤ (toward aim.way *ℤ z)) (p.after aim.row b ru) ∙ ring3 (λ r c s. neg (r ⊗ (c ⊗ s))) (λ r c s. neg (r ⊗ c) ⊗ s) refl (toward aim.way) (u.constant aim.row) p.scale) in
      let low = of_row_nonneg (u.denom aim.row) (neg_ℤ (toward aim.way *ℤ p.value aim.row)) (neg_ℤ (toward aim.way *ℤ u.constant aim.row)) p.scale (hu.positive aim.row b ru) p.positive after value in
      omega (arith, linear)

-- ---- an exchange whose leaving row has the value 0 changes no value
pub zero_leaves : (n : ℕ) (mark : ℕ → Mark) (t u : Table) (e l : ℕ) → IsTable n t → IsTable n u → IsExchange n t e l u → e < n → t.is_row e ≡ false → l < n → t.is_row l ≡ true → t.constant l ≡ pos 0 → IsFeasible n mark t → IsFeasible n mark u
zero_leaves n mark t u e l ht hu x in_e column in_l row zero_there feasible v below here asked = go (cases_eq v e)
  where
    f : Filled n t (pos 1) (λ w. pos 0)
    f = fill n t ht (pos 1) (λ w. pos 0)

    s : ℤ
    s = f.by *ℤ pos 1

    s_pos : pos 0 <ℤ s
    s_pos = let p = f.positive in omega (arith, ints)

    still_t : (w : ℕ) → w < n → t.is_row w ≡ false → f.value w ≡ pos 0
    still_t w k c = f.columns w k c ∙ *ℤ-zero f.by

    after : u.denom v *ℤ f.value v ≡ u.constant v *ℤ s
    after = row_still n u hu s f.value ((x.same s f.value).0 f.holds) (still_after n t e l u ht x in_l row zero_there s f.value f.holds still_t) v below here

    value_nonneg : v ≢ e → pos 0 ≤ℤ f.value v
    value_nonneg ne =
        let nl : v ≢ l = λ k. both_ways (u.is_row v) (ap u.is_row k ∙ x.left) here in
        let r : t.is_row v ≡ true = sym (x.others v below ne nl) ∙ here in
        to_row_nonneg (t.denom v) (f.value v) (t.constant v *ℤ s) (ht.positive v below r) (row_still n t ht s f.value f.holds still_t v below r) (mul_nonneg (t.constant v) s (feasible v below r asked) (let p = s_pos in omega (arith, ints)))

    go : (v ≡ e) ⊎ (v ≢ e) → pos 0 ≤ℤ u.constant v
    go (inl q) = of_row_nonneg (u.denom v) (f.value v) (u.constant v) s (hu.positive v below here) s_pos after (let z : f.value v ≡ pos 0 = ap f.value q ∙ still_t e in_e column in omega (arith, ints))
    go (inr q) = of_row_nonneg (u.denom v) (f.value v) (u.constant v) s (hu.positive v below here) s_pos after (value_nonneg q)
