-- No run comes back to its first columns. The greatest label that leaves does so in one table and enters in another.
-- The direction of the column that enters in the first, put into the aimed row of the second, gives a positive number as a sum
-- of numbers that are at most 0.
use Rattle.std.proofs.Common.{◌≡◌, ◌≢◌, ℕ, suc, ◌*◌, ◌<◌, ◌≤◌, ◌⊎◌, inl, inr, ℤ, pos, neg_ℤ, ◌*ℤ◌, ◌≤ℤ◌, ◌<ℤ◌, unsigned_abs, true, false, arith, refl, sym, ap, ◌∙◌, subst}
use lib.IntN.{zero-*ℤ, *ℤ-zero}
use Rattle.std.proofs.lemmas.Int.{ints}
use Rattle.std.proofs.lemmas.Bool.{cases_eq, cases_Bool, both_ways}
use Rattle.emp_algebra.proofs.Laws.{mul_pos, mul_nonneg, one-*ℤ}
use Rattle.emp_algebra.proofs.Ring.{lit, neg, ◌⊕◌, ◌⊗◌, ring2, ring3}
use Rattle.emp_algebra.proofs.Order.{linear, le_or_lt}
use Rattle.emp_turns.specs.Table.{Table, total, Holds, IsTable}
use Rattle.emp_turns.specs.Choice.{Mark, Required, Up, toward, MayMove, Aim, Opens}
use Rattle.emp_turns.proofs.Totals.{total_nonpos}
use Rattle.emp_turns.proofs.Signs.{only_up, lt_cancel_right}
use Rattle.emp_turns.proofs.Steps.{Direction, direction}
use Rattle.emp_turns.proofs.Runs.{Cycle, open_aim, falling, leaves_below, from_first, to_first, constant_zero, stays, stays_column, Enters, comes_back, Greatest, greatest, Leaves, leaves_or_not}

-- ---- signs
-- a number that is above 0 when it is multiplied with one above 0
of_multiple_pos : (d z p : ℤ) → pos 0 <ℤ d → d *ℤ z ≡ p → pos 0 <ℤ p → pos 0 <ℤ z
of_multiple_pos d z p h e k = lt_cancel_right (pos 0) z d (rw (zero-*ℤ d) (subst (λ u. pos 0 <ℤ u) (sym e ∙ ring2 (λ d z. d ⊗ z) (λ d z. z ⊗ d) refl d z) k)) (omega (arith, linear))

of_multiple_neg : (d z p : ℤ) → pos 0 <ℤ d → d *ℤ z ≡ p → p <ℤ pos 0 → z <ℤ pos 0
of_multiple_neg d z p h e k = lt_cancel_right z (pos 0) d (rw (zero-*ℤ d) (subst (λ u. u <ℤ pos 0) (sym e ∙ ring2 (λ d z. d ⊗ z) (λ d z. z ⊗ d) refl d z) k)) (omega (arith, linear))

neg_of_pos_times : (b a : ℤ) → pos 0 <ℤ b → a <ℤ pos 0 → (b *ℤ a) <ℤ pos 0
neg_of_pos_times b a h k =
    let p : pos 0 <ℤ (b *ℤ neg_ℤ a) = mul_pos b (neg_ℤ a) h (omega (arith, linear)) in
    let e : b *ℤ neg_ℤ a ≡ neg_ℤ (b *ℤ a) = ring2 (λ b a. b ⊗ neg a) (λ b a. neg (b ⊗ a)) refl b a in
    omega (arith, linear)

nonneg_times_nonpos : (b a : ℤ) → pos 0 ≤ℤ b → a ≤ℤ pos 0 → (b *ℤ a) ≤ℤ pos 0
nonneg_times_nonpos b a h k =
    let p : pos 0 ≤ℤ (b *ℤ neg_ℤ a) = mul_nonneg b (neg_ℤ a) h (omega (arith, linear)) in
    let e : b *ℤ neg_ℤ a ≡ neg_ℤ (b *ℤ a) = ring2 (λ b a. b ⊗ neg a) (λ b a. neg (b ⊗ a)) refl b a in
    omega (arith, linear)

-- r a z is at most 0
opposed : (r a z : ℤ) → pos 0 ≤ℤ (r *ℤ a) → z ≤ℤ pos 0 → (r *ℤ (a *ℤ z)) ≤ℤ pos 0
opposed r a z h k = rw (ring3 (λ r a z. r ⊗ (a ⊗ z)) (λ r a z. r ⊗ a ⊗ z) refl r a z) (nonneg_times_nonpos (r *ℤ a) z h k)

opposed_other : (r a z : ℤ) → (r *ℤ a) ≤ℤ pos 0 → pos 0 ≤ℤ z → (r *ℤ (a *ℤ z)) ≤ℤ pos 0
opposed_other r a z h k = rw (ring3 (λ r a z. r ⊗ (a ⊗ z)) (λ r a z. z ⊗ (r ⊗ a)) refl r a z) (nonneg_times_nonpos z (r *ℤ a) k h)

nothing : (r a z : ℤ) → a *ℤ z ≡ pos 0 → (r *ℤ (a *ℤ z)) ≤ℤ pos 0
nothing r a z e = rw (e, *ℤ-zero r) (omega (arith, ints))

module _ {n : ℕ} {mark : ℕ → Mark} {aim : Aim} {table : ℕ → Table} {m : ℕ} (cycle : Cycle n mark aim table m) where
  -- the greatest label that leaves, where it leaves and where it enters
  last : Greatest cycle m
  last = greatest cycle m cycle.some

  entry : Enters cycle (cycle.run.leaving last.at)
  entry = comes_back cycle last.at last.below

  -- the first is the table that it leaves, the second the one that it enters
  abbrev out : Table
  out = table last.at

  abbrev into : Table
  into = table entry.at

  abbrev moved : ℕ
  moved = cycle.run.entering last.at

  opens : Opens n mark aim out moved (cycle.run.way last.at)
  opens = (cycle.run.chosen last.at last.below).opens

  out_sound : IsTable n out
  out_sound = cycle.run.tables last.at (let k = last.below in omega arith)

  into_sound : IsTable n into
  into_sound = cycle.run.tables entry.at (let k = entry.below in omega arith)

  out_in : last.at ≤ m
  out_in = let k = last.below in omega arith

  into_in : entry.at ≤ m
  into_in = let k = entry.below in omega arith

  way : Direction n out moved (cycle.run.way last.at)
  way = direction n out moved (cycle.run.way last.at) out_sound opens.below opens.column

  way_holds : Holds n into (pos 0) way.value
  way_holds = from_first cycle entry.at into_in (pos 0) way.value (to_first cycle last.at out_in (pos 0) way.value way.holds)

  -- the aimed row moves the right way
  aimed_moves : pos 0 <ℤ (toward aim.way *ℤ way.value aim.row)
  aimed_moves =
      let row = way.rows aim.row cycle.run.aimed (open_aim cycle last.at out_in) in
      of_multiple_pos (out.denom aim.row) (toward aim.way *ℤ way.value aim.row) (way.by *ℤ (toward aim.way *ℤ (toward (cycle.run.way last.at) *ℤ out.cell aim.row moved))) (out_sound.positive aim.row cycle.run.aimed (open_aim cycle last.at out_in))
      (ring3 (λ d r z. d ⊗ (r ⊗ z)) (λ d r z. r ⊗ (d ⊗ z)) refl (out.denom aim.row) (toward aim.way) (way.value aim.row) ∙ (ap (λ z. toward aim.way *ℤ z) row ∙ ring3 (λ r b a. r ⊗ (b ⊗ a)) (λ r b a. b ⊗ (r ⊗ a)) refl (toward aim.way) way.by (toward (cycle.run.way last.at) *ℤ out.cell aim.row moved)))
      (mul_pos way.by (toward aim.way *ℤ (toward (cycle.run.way last.at) *ℤ out.cell aim.row moved)) way.positive opens.helps)

  -- so the sum over the columns of the other table is above 0
  sum_moves : pos 0 <ℤ (toward aim.way *ℤ total n (λ w. into.cell aim.row w *ℤ way.value w))
  sum_moves =
      let r = open_aim cycle entry.at into_in in
      let row : into.denom aim.row *ℤ way.value aim.row ≡ total n (λ w. into.cell aim.row w *ℤ way.value w) = way_holds aim.row cycle.run.aimed r ∙ ring2 (λ c t. c ⊗ lit (pos 0) ⊕ t) (λ c t. t) refl (into.constant aim.row) (total n (λ w. into.cell aim.row w *ℤ way.value w)) in
      subst (λ z. pos 0 <ℤ z)
      (ring3 (λ d r z. d ⊗ (r ⊗ z)) (λ d r z. r ⊗ (d ⊗ z)) refl (into.denom aim.row) (toward aim.way) (way.value aim.row) ∙ ap (λ z. toward aim.way *ℤ z) row)
      (mul_pos (into.denom aim.row) (toward aim.way *ℤ way.value aim.row) (into_sound.positive aim.row cycle.run.aimed r) aimed_moves)

  -- ---- but each term is at most 0
  abbrev Term : ℕ → Type 0
  Term w = (toward aim.way *ℤ (into.cell aim.row w *ℤ way.value w)) ≤ℤ pos 0

  -- a Required label that moves down is a row that stops the column, and is not the least
  down_is_greatest : (w : ℕ) → w < n → into.is_row w ≡ false → mark w ≡ Required → way.value w <ℤ pos 0 → cycle.run.leaving last.at ≤ w
  down_is_greatest w b c e z = go (cases_Bool (out.is_row w)) (cases_eq w moved)
    where
      go : (out.is_row w ≡ true) ⊎ (out.is_row w ≡ false) → (w ≡ moved) ⊎ (w ≢ moved) → cycle.run.leaving last.at ≤ w
      go (inr q) (inr ne) = let same = way.still w b q ne in absurd (omega (arith, linear))
      go (inr q) (inl is) =
          let up : cycle.run.way last.at ≡ Up = only_up (mark moved) (cycle.run.way last.at) (ap mark (sym is) ∙ e) opens.moves in
          let own : way.value w ≡ way.by *ℤ pos 1 = ap way.value is ∙ (way.own ∙ ap (λ g. way.by *ℤ toward g) up) in
          let p = way.positive in
          absurd (omega (arith, ints))
      go (inl q) same =
          let row = way.rows w b q in
          let falls : (toward (cycle.run.way last.at) *ℤ out.cell w moved) <ℤ pos 0 =
          of_multiple_neg way.by (toward (cycle.run.way last.at) *ℤ out.cell w moved) (out.denom w *ℤ way.value w) way.positive (sym row) (neg_of_pos_times (out.denom w) (way.value w) (out_sound.positive w b q) z) in
          let here : out.constant (cycle.run.leaving last.at) ≡ pos 0 = stays cycle last.at last.below in
          let there : out.constant w ≡ pos 0 = constant_zero cycle last.at entry.at out_in into_in w b q c in
          (cycle.run.chosen last.at last.below).tie w (record { below = b; row = q; why = inl (e, falls) }) (ap (λ z. unsigned_abs z * unsigned_abs (out.cell w moved)) here ∙ (omega arith ∙ ap (λ z. unsigned_abs z * unsigned_abs (out.cell (cycle.run.leaving last.at) moved)) (sym there)))

  greatest_falls : way.value (cycle.run.leaving last.at) <ℤ pos 0
  greatest_falls =
      let b = leaves_below cycle last.at last.below in
      let r = (cycle.run.chosen last.at last.below).stops.row in
      of_multiple_neg (out.denom (cycle.run.leaving last.at)) (way.value (cycle.run.leaving last.at)) (way.by *ℤ (toward (cycle.run.way last.at) *ℤ out.cell (cycle.run.leaving last.at) moved)) (out_sound.positive (cycle.run.leaving last.at) b r) (way.rows (cycle.run.leaving last.at) b r) (neg_of_pos_times way.by (toward (cycle.run.way last.at) *ℤ out.cell (cycle.run.leaving last.at) moved) way.positive (falling cycle last.at last.below).1)

  -- the label that leaves last opens the other table
  greatest_helps : pos 0 ≤ℤ (toward aim.way *ℤ into.cell aim.row (cycle.run.leaving last.at))
  greatest_helps =
      let o = (cycle.run.chosen entry.at entry.below).opens in
      let e : mark (cycle.run.entering entry.at) ≡ Required = ap mark entry.is ∙ (falling cycle last.at last.below).0 in
      let up : cycle.run.way entry.at ≡ Up = only_up (mark (cycle.run.entering entry.at)) (cycle.run.way entry.at) e o.moves in
      let h : pos 0 <ℤ (toward aim.way *ℤ (pos 1 *ℤ into.cell aim.row (cycle.run.leaving last.at))) = subst (λ w. pos 0 <ℤ (toward aim.way *ℤ (pos 1 *ℤ into.cell aim.row w))) entry.is (subst (λ g. pos 0 <ℤ (toward aim.way *ℤ (toward g *ℤ into.cell aim.row (cycle.run.entering entry.at)))) up o.helps) in
      let k : pos 1 *ℤ into.cell aim.row (cycle.run.leaving last.at) ≡ into.cell aim.row (cycle.run.leaving last.at) = one-*ℤ (into.cell aim.row (cycle.run.leaving last.at)) in
      let h' = subst (λ z. pos 0 <ℤ (toward aim.way *ℤ z)) k h in
      omega (arith, linear)

  -- a lesser one does not
  lesser_helps_not : (w : ℕ) → w < n → into.is_row w ≡ false → mark w ≡ Required → w < cycle.run.leaving last.at → (toward aim.way *ℤ into.cell aim.row w) ≤ℤ pos 0
  lesser_helps_not w b c e l = go (le_or_lt (toward aim.way *ℤ into.cell aim.row w) (pos 0))
    where
      go : ((toward aim.way *ℤ into.cell aim.row w) ≤ℤ pos 0) ⊎ (pos 0 <ℤ (toward aim.way *ℤ into.cell aim.row w)) → (toward aim.way *ℤ into.cell aim.row w) ≤ℤ pos 0
      go (inl q) = q
      go (inr q) =
          let h : pos 0 <ℤ (toward aim.way *ℤ (pos 1 *ℤ into.cell aim.row w)) = subst (λ z. pos 0 <ℤ (toward aim.way *ℤ z)) (sym (one-*ℤ (into.cell aim.row w))) q in
          let first = (cycle.run.chosen entry.at entry.below).first w Up (record { below = b; column = c; moves = subst (λ k. MayMove k Up) (sym e) tt; helps = h }) in
          let is = entry.is in
          absurd (omega arith)

  term : (w : ℕ) → w < n → Term w
  term w b = go (cases_Bool (into.is_row w)) (leaves_or_not cycle m w)
    where
      lesser : into.is_row w ≡ false → mark w ≡ Required → w < cycle.run.leaving last.at → (way.value w <ℤ pos 0) ⊎ (pos 0 ≤ℤ way.value w) → Term w
      lesser c e l (inl z) = absurd (let k = down_is_greatest w b c e z in omega arith)
      lesser c e l (inr z) = opposed_other (toward aim.way) (into.cell aim.row w) (way.value w) (lesser_helps_not w b c e l) z

      comes : (a : ℕ) → a < m → cycle.run.leaving a ≡ w → into.is_row w ≡ false → (w ≡ cycle.run.leaving last.at) ⊎ (w ≢ cycle.run.leaving last.at) → Term w
      comes a l is c (inl q) = subst Term (sym q) (opposed (toward aim.way) (into.cell aim.row (cycle.run.leaving last.at)) (way.value (cycle.run.leaving last.at)) greatest_helps (let k = greatest_falls in omega (arith, linear)))
      comes a l is c (inr q) =
          let most : cycle.run.leaving a ≤ cycle.run.leaving last.at = last.most a l in
          lesser c (ap mark (sym is) ∙ (falling cycle a l).0) (omega arith) (flip (le_or_lt (pos 0) (way.value w)))
        where
          flip : (pos 0 ≤ℤ way.value w) ⊎ (way.value w <ℤ pos 0) → (way.value w <ℤ pos 0) ⊎ (pos 0 ≤ℤ way.value w)
          flip (inl p) = inr p
          flip (inr p) = inl p

      never : into.is_row w ≡ false → ((a : ℕ) → a < m → cycle.run.leaving a ≢ w) → Term w
      never c h =
          let column = stays_column cycle w b h entry.at last.at into_in out_in c in
          let after = stays_column cycle w b h entry.at (suc last.at) into_in (let k = last.below in omega arith) c in
          let ne : w ≢ moved = λ q. both_ways ((table (suc last.at)).is_row w) after (ap (table (suc last.at)).is_row q ∙ (cycle.run.exchanges last.at last.below).entered) in
          nothing (toward aim.way) (into.cell aim.row w) (way.value w) (ap (λ z. into.cell aim.row w *ℤ z) (way.still w b column ne) ∙ *ℤ-zero (into.cell aim.row w))

      go : (into.is_row w ≡ true) ⊎ (into.is_row w ≡ false) → Leaves cycle m w ⊎ ((a : ℕ) → a < m → cycle.run.leaving a ≢ w) → Term w
      go (inl r) x =
          nothing (toward aim.way) (into.cell aim.row w) (way.value w) (ap (λ z. z *ℤ way.value w) (into_sound.columns aim.row w cycle.run.aimed b (open_aim cycle entry.at into_in) r) ∙ zero-*ℤ (way.value w))
      go (inr c) (inl x) = comes x.at x.below x.is c (cases_eq w (cycle.run.leaving last.at))
      go (inr c) (inr h) = never c h

  pub comes_not_back : ⊥
  comes_not_back =
      let low = total_nonpos n (toward aim.way) (λ w. into.cell aim.row w *ℤ way.value w) term in
      let high = sum_moves in
      absurd (omega (arith, linear))
