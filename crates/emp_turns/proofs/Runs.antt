-- A run that comes back to its first columns: no exchange in it moves the point, and what leaves comes back.
use Rattle.std.proofs.Common.{◌≡◌, ◌≢◌, ℕ, zero, suc, ◌<◌, ◌≤◌, ◌⊎◌, inl, inr, ℤ, pos, ◌*ℤ◌, ◌≤ℤ◌, ◌<ℤ◌, true, false, [], ◌∷◌, arith, refl, sym, ap, ◌∙◌, subst}
use lib.IntN.{zero-*ℤ, *ℤ-zero}
use Rattle.std.proofs.lemmas.Int.{ints}
use Rattle.std.proofs.lemmas.Bool.{cases_eq, cases_lt, cases_Bool, both_ways}
use Rattle.emp_algebra.proofs.Ring.{var, ◌⊗◌, by_ring}
use Rattle.emp_algebra.proofs.Order.{linear, cancel_right, le_or_lt}
use Rattle.emp_turns.specs.Table.{Table, Holds, IsTable}
use Rattle.emp_turns.specs.Choice.{Mark, Required, Way, toward, Aim, IsChosen, IsExchange, IsFeasible, SameColumns}
use Rattle.emp_turns.proofs.Signs.{fraction_le_trans, fraction_lt_le}
use Rattle.emp_turns.proofs.Systems.{Filled, fill, row_still}
use Rattle.emp_turns.proofs.Steps.{still_after, falls, risen, risen_more}

-- m turns of the loop from table 0 to table m, with what enters and leaves at each
pub record Run (n : ℕ) (mark : ℕ → Mark) (aim : Aim) (table : ℕ → Table) (m : ℕ) : Type 0 where
  pub aimed : aim.row < n
  pub entering : ℕ → ℕ
  pub way : ℕ → Way
  pub leaving : ℕ → ℕ
  pub tables : (i : ℕ) → i ≤ m → IsTable n (table i)
  pub feasible : (i : ℕ) → i < m → IsFeasible n mark (table i)
  pub open_aim : (i : ℕ) → i < m → (table i).is_row aim.row ≡ true
  pub chosen : (i : ℕ) → i < m → IsChosen n mark aim (table i) (entering i) (way i) (leaving i)
  pub exchanges : (i : ℕ) → i < m → IsExchange n (table i) (entering i) (leaving i) (table (suc i))

-- a run that comes back to its first columns
pub record Cycle (n : ℕ) (mark : ℕ → Mark) (aim : Aim) (table : ℕ → Table) (m : ℕ) : Type 0 where
  pub run : Run n mark aim table m
  pub back : SameColumns n (table 0) (table m)
  pub some : 0 < m

module _ {n : ℕ} {mark : ℕ → Mark} {aim : Aim} {table : ℕ → Table} {m : ℕ} (cycle : Cycle n mark aim table m) where
  -- ---- the aimed label is a row, and does not leave
  pub open_aim : (i : ℕ) → i ≤ m → (table i).is_row aim.row ≡ true
  open_aim i k = go (cases_lt i m)
    where
      go : (i < m) ⊎ (m ≤ i) → (table i).is_row aim.row ≡ true
      go (inl l) = cycle.run.open_aim i l
      go (inr l) = let e : m ≡ i = omega arith in ap (λ a. (table a).is_row aim.row) (sym e) ∙ (sym (cycle.back aim.row cycle.run.aimed) ∙ cycle.run.open_aim 0 cycle.some)

  pub not_aim : (i : ℕ) → i < m → cycle.run.leaving i ≢ aim.row
  not_aim i k q = both_ways ((table (suc i)).is_row aim.row) (ap (table (suc i)).is_row (sym q) ∙ (cycle.run.exchanges i k).left) (open_aim (suc i) (omega arith))

  pub falling : (i : ℕ) → i < m → (mark (cycle.run.leaving i) ≡ Required) × ((toward (cycle.run.way i) *ℤ (table i).cell (cycle.run.leaving i) (cycle.run.entering i)) <ℤ pos 0)
  falling i k = falls n mark aim (table i) (table (suc i)) (cycle.run.entering i) (cycle.run.leaving i) (cycle.run.way i) (cycle.run.tables i (omega arith)) (cycle.run.tables (suc i) (omega arith)) (cycle.run.chosen i k) (cycle.run.exchanges i k) (not_aim i k)

  pub leaves_below : (i : ℕ) → i < m → cycle.run.leaving i < n
  leaves_below i k = (cycle.run.chosen i k).stops.below

  pub nonneg : (i : ℕ) → i < m → pos 0 ≤ℤ (table i).constant (cycle.run.leaving i)
  nonneg i k = cycle.run.feasible i k (cycle.run.leaving i) (leaves_below i k) (cycle.run.chosen i k).stops.row (falling i k).0

  -- ---- the aimed value, as top over bottom, never goes back
  abbrev pub top : ℕ → ℤ
  top i = toward aim.way *ℤ (table i).constant aim.row

  abbrev pub bottom : ℕ → ℤ
  bottom i = (table i).denom aim.row

  bottom_pos : (i : ℕ) → i ≤ m → pos 0 <ℤ bottom i
  bottom_pos i k = (cycle.run.tables i k).positive aim.row cycle.run.aimed (open_aim i k)

  climbs : (i j : ℕ) → i ≤ j → j ≤ m → (top i *ℤ bottom j) ≤ℤ (top j *ℤ bottom i)
  climbs i zero h k = let e : zero ≡ i = omega arith in subst (λ a. (top a *ℤ bottom 0) ≤ℤ (top 0 *ℤ bottom a)) e (omega (arith, linear))
  climbs i (suc j) h k = go (cases_lt j i) (λ l. climbs i j l (omega arith))
    where
      go : (j < i) ⊎ (i ≤ j) → (i ≤ j → (top i *ℤ bottom j) ≤ℤ (top j *ℤ bottom i)) → (top i *ℤ bottom (suc j)) ≤ℤ (top (suc j) *ℤ bottom i)
      go (inl l) rest = let e : suc j ≡ i = omega arith in subst (λ a. (top a *ℤ bottom (suc j)) ≤ℤ (top (suc j) *ℤ bottom a)) e (omega (arith, linear))
      go (inr l) rest =
          fraction_le_trans (top i) (bottom i) (top j) (bottom j) (top (suc j)) (bottom (suc j)) (bottom_pos i (omega arith)) (bottom_pos j (omega arith)) (bottom_pos (suc j) k) (rest l)
          (risen n mark aim (table j) (table (suc j)) (cycle.run.entering j) (cycle.run.leaving j) (cycle.run.way j) (cycle.run.tables j (omega arith)) (cycle.run.tables (suc j) k) (cycle.run.chosen j (omega arith)) (cycle.run.exchanges j (omega arith)) (not_aim j (omega arith)) (open_aim j (omega arith)) (open_aim (suc j) k) cycle.run.aimed (nonneg j (omega arith)))

  -- ---- one point for all tables
  pub from_first : (i : ℕ) → i ≤ m → (s : ℤ) (y : ℕ → ℤ) → Holds n (table 0) s y → Holds n (table i) s y
  from_first zero k s y h = h
  from_first (suc i) k s y h = ((cycle.run.exchanges i (omega arith)).same s y).0 (from_first i (omega arith) s y h)

  pub to_first : (i : ℕ) → i ≤ m → (s : ℤ) (y : ℕ → ℤ) → Holds n (table i) s y → Holds n (table 0) s y
  to_first zero k s y h = h
  to_first (suc i) k s y h = to_first i (omega arith) s y (((cycle.run.exchanges i (omega arith)).same s y).1 h)

  origin : Filled n (table 0) (pos 1) (λ w. pos 0)
  origin = fill n (table 0) (cycle.run.tables 0 (omega arith)) (pos 1) (λ w. pos 0)

  abbrev scale : ℤ
  scale = origin.by *ℤ pos 1

  scale_pos : pos 0 <ℤ scale
  scale_pos = let p = origin.positive in omega (arith, ints)

  first_still : (w : ℕ) → w < n → (table 0).is_row w ≡ false → origin.value w ≡ pos 0
  first_still w k c = origin.columns w k c ∙ *ℤ-zero origin.by

  -- the aimed value at the end is that at the start
  level : top m *ℤ bottom 0 ≡ top 0 *ℤ bottom m
  level =
      let first : bottom 0 *ℤ origin.value aim.row ≡ (table 0).constant aim.row *ℤ scale = row_still n (table 0) (cycle.run.tables 0 (omega arith)) scale origin.value origin.holds first_still aim.row cycle.run.aimed (open_aim 0 (omega arith)) in
      let last : bottom m *ℤ origin.value aim.row ≡ (table m).constant aim.row *ℤ scale =
      row_still n (table m) (cycle.run.tables m (omega arith)) scale origin.value (from_first m (omega arith) scale origin.value origin.holds) (λ w k c. first_still w k (cycle.back w k ∙ c)) aim.row cycle.run.aimed (open_aim m (omega arith)) in
      cancel_right (top m *ℤ bottom 0) (top 0 *ℤ bottom m) scale (across (toward aim.way) ((table m).constant aim.row) (bottom 0) ((table 0).constant aim.row) (bottom m) (origin.value aim.row) scale first last) scale_pos
    where
      across : (r c d c' d' x p : ℤ) → d *ℤ x ≡ c' *ℤ p → d' *ℤ x ≡ c *ℤ p → r *ℤ c *ℤ d *ℤ p ≡ r *ℤ c' *ℤ d' *ℤ p
      across r c d c' d' x p e f =
          let g : r *ℤ c *ℤ d *ℤ p ≡ r *ℤ d *ℤ (c *ℤ p) = by_ring (r ∷ c ∷ d ∷ p ∷ []) (var 0 ⊗ var 1 ⊗ var 2 ⊗ var 3) (var 0 ⊗ var 2 ⊗ (var 1 ⊗ var 3)) refl in
          let h : r *ℤ c' *ℤ d' *ℤ p ≡ r *ℤ d' *ℤ (c' *ℤ p) = by_ring (r ∷ c' ∷ d' ∷ p ∷ []) (var 0 ⊗ var 1 ⊗ var 2 ⊗ var 3) (var 0 ⊗ var 2 ⊗ (var 1 ⊗ var 3)) refl in
          let k : r *ℤ d *ℤ (d' *ℤ x) ≡ r *ℤ d' *ℤ (d *ℤ x) = by_ring (r ∷ d ∷ d' ∷ x ∷ []) (var 0 ⊗ var 1 ⊗ (var 2 ⊗ var 3)) (var 0 ⊗ var 2 ⊗ (var 1 ⊗ var 3)) refl in
          g ∙ (ap (λ z. r *ℤ d *ℤ z) (sym f) ∙ (k ∙ (ap (λ z. r *ℤ d' *ℤ z) e ∙ sym h)))

  -- no exchange moves the point
  pub stays : (i : ℕ) → i < m → (table i).constant (cycle.run.leaving i) ≡ pos 0
  stays i k = go (le_or_lt ((table i).constant (cycle.run.leaving i)) (pos 0))
    where
      go : ((table i).constant (cycle.run.leaving i) ≤ℤ pos 0) ⊎ (pos 0 <ℤ (table i).constant (cycle.run.leaving i)) → (table i).constant (cycle.run.leaving i) ≡ pos 0
      go (inl l) = let c = nonneg i k in omega (arith, linear)
      go (inr l) =
          let more : (top i *ℤ bottom (suc i)) <ℤ (top (suc i) *ℤ bottom i) = risen_more n mark aim (table i) (table (suc i)) (cycle.run.entering i) (cycle.run.leaving i) (cycle.run.way i) (cycle.run.tables i (omega arith)) (cycle.run.tables (suc i) (omega arith)) (cycle.run.chosen i k) (cycle.run.exchanges i k) (not_aim i k) (open_aim i (omega arith)) (open_aim (suc i) (omega arith)) cycle.run.aimed l in
          let to_end : (top i *ℤ bottom m) <ℤ (top m *ℤ bottom i) = fraction_lt_le (top i) (bottom i) (top (suc i)) (bottom (suc i)) (top m) (bottom m) (bottom_pos i (omega arith)) (bottom_pos (suc i) (omega arith)) (bottom_pos m (omega arith)) more (climbs (suc i) m (omega arith) (omega arith)) in
          let to_start : (top i *ℤ bottom 0) <ℤ (top 0 *ℤ bottom i) = fraction_lt_le (top i) (bottom i) (top m) (bottom m) (top 0) (bottom 0) (bottom_pos i (omega arith)) (bottom_pos m (omega arith)) (bottom_pos 0 (omega arith)) to_end (let q = level in omega (arith, linear)) in
          absurd (omega (arith, linear, climbs 0 i (omega arith) (omega arith)))

  still : (i : ℕ) → i ≤ m → (w : ℕ) → w < n → (table i).is_row w ≡ false → origin.value w ≡ pos 0
  still zero k = first_still
  still (suc i) k =
      still_after n (table i) (cycle.run.entering i) (cycle.run.leaving i) (table (suc i)) (cycle.run.tables i (omega arith)) (cycle.run.exchanges i (omega arith)) (leaves_below i (omega arith)) (cycle.run.chosen i (omega arith)).stops.row (stays i (omega arith)) scale origin.value (from_first i (omega arith) scale origin.value origin.holds) (still i (omega arith))

  -- what is a column of one table has the value 0 in each
  pub constant_zero : (i j : ℕ) → i ≤ m → j ≤ m → (w : ℕ) → w < n → (table i).is_row w ≡ true → (table j).is_row w ≡ false → (table i).constant w ≡ pos 0
  constant_zero i j ki kj w b r c =
      let z : origin.value w ≡ pos 0 = still j kj w b c in
      let own : (table i).denom w *ℤ origin.value w ≡ (table i).constant w *ℤ scale = row_still n (table i) (cycle.run.tables i ki) scale origin.value (from_first i ki scale origin.value origin.holds) (still i ki) w b r in
      cancel_right ((table i).constant w) (pos 0) scale (sym own ∙ (ap (λ a. (table i).denom w *ℤ a) z ∙ (*ℤ-zero ((table i).denom w) ∙ sym (zero-*ℤ scale)))) scale_pos

  -- ---- which labels come and go
  unmoved : (i : ℕ) → i < m → (w : ℕ) → w < n → w ≢ cycle.run.entering i → w ≢ cycle.run.leaving i → (table (suc i)).is_row w ≡ (table i).is_row w
  unmoved i k = (cycle.run.exchanges i k).others

  -- a label that never leaves stays a row
  stays_row : (w : ℕ) → w < n → ((a : ℕ) → a < m → cycle.run.leaving a ≢ w) → (i j : ℕ) → i ≤ j → j ≤ m → (table i).is_row w ≡ true → (table j).is_row w ≡ true
  stays_row w b never i zero h k r = let e : i ≡ zero = omega arith in subst (λ a. (table a).is_row w ≡ true) e r
  stays_row w b never i (suc j) h k r = go (cases_lt j i) (cases_eq w (cycle.run.entering j)) (λ l. stays_row w b never i j l (omega arith) r)
    where
      go : (j < i) ⊎ (i ≤ j) → (w ≡ cycle.run.entering j) ⊎ (w ≢ cycle.run.entering j) → (i ≤ j → (table j).is_row w ≡ true) → (table (suc j)).is_row w ≡ true
      go (inl l) q rest = let e : i ≡ suc j = omega arith in subst (λ a. (table a).is_row w ≡ true) e r
      go (inr l) (inl q) rest = ap (table (suc j)).is_row q ∙ (cycle.run.exchanges j (omega arith)).entered
      go (inr l) (inr q) rest = unmoved j (omega arith) w b q (λ p. never j (omega arith) (sym p)) ∙ rest l

  -- and where it is a column once, it is one in each table
  pub stays_column : (w : ℕ) → w < n → ((a : ℕ) → a < m → cycle.run.leaving a ≢ w) → (j i : ℕ) → j ≤ m → i ≤ m → (table j).is_row w ≡ false → (table i).is_row w ≡ false
  stays_column w b never j i kj ki c = go (cases_Bool ((table i).is_row w))
    where
      go : ((table i).is_row w ≡ true) ⊎ ((table i).is_row w ≡ false) → (table i).is_row w ≡ false
      go (inr q) = q
      go (inl q) = absurd (both_ways ((table j).is_row w) c (stays_row w b never 0 j (omega arith) kj (cycle.back w b ∙ stays_row w b never i m ki (omega arith) q)))

  pub record Enters (w : ℕ) : Type 0 where
    pub at : ℕ
    pub below : at < m
    pub is : cycle.run.entering at ≡ w

  -- a label that is a column first and a row later enters
  enters_between : (w : ℕ) → w < n → (i j : ℕ) → i ≤ j → j ≤ m → (table i).is_row w ≡ false → (table j).is_row w ≡ true → Enters w
  enters_between w b i zero h k c r = let e : i ≡ zero = omega arith in absurd (both_ways ((table zero).is_row w) (subst (λ a. (table a).is_row w ≡ false) e c) r)
  enters_between w b i (suc j) h k c r = go (cases_lt j i) (cases_Bool ((table j).is_row w)) (cases_eq w (cycle.run.entering j)) (cases_eq w (cycle.run.leaving j)) (λ l. enters_between w b i j l (omega arith) c)
    where
      go : (j < i) ⊎ (i ≤ j) → ((table j).is_row w ≡ true) ⊎ ((table j).is_row w ≡ false) → (w ≡ cycle.run.entering j) ⊎ (w ≢ cycle.run.entering j) → (w ≡ cycle.run.leaving j) ⊎ (w ≢ cycle.run.leaving j) → (i ≤ j → (table j).is_row w ≡ true → Enters w) → Enters w
      go (inl l) d p q rest = let e : i ≡ suc j = omega arith in absurd (both_ways ((table (suc j)).is_row w) (subst (λ a. (table a).is_row w ≡ false) e c) r)
      go (inr l) (inl d) p q rest = rest l d
      go (inr l) (inr d) (inl p) q rest = record { at = j; below = omega arith; is = sym p }
      go (inr l) (inr d) (inr p) (inl q) rest = absurd (both_ways ((table (suc j)).is_row w) (ap (table (suc j)).is_row q ∙ (cycle.run.exchanges j (omega arith)).left) r)
      go (inr l) (inr d) (inr p) (inr q) rest = absurd (both_ways ((table (suc j)).is_row w) (unmoved j (omega arith) w b p q ∙ d) r)

  -- what leaves enters, too
  pub comes_back : (i : ℕ) → i < m → Enters (cycle.run.leaving i)
  comes_back i k = go (cases_Bool ((table m).is_row (cycle.run.leaving i)))
    where
      go : ((table m).is_row (cycle.run.leaving i) ≡ true) ⊎ ((table m).is_row (cycle.run.leaving i) ≡ false) → Enters (cycle.run.leaving i)
      go (inl q) = enters_between (cycle.run.leaving i) (leaves_below i k) (suc i) m (omega arith) (omega arith) (cycle.run.exchanges i k).left q
      go (inr q) = enters_between (cycle.run.leaving i) (leaves_below i k) 0 i (omega arith) (omega arith) (cycle.back (cycle.run.leaving i) (leaves_below i k) ∙ q) (cycle.run.chosen i k).stops.row

  -- ---- of all labels that leave, the greatest
  pub record Greatest (among : ℕ) : Type 0 where
    pub at : ℕ
    pub below : at < among
    pub most : (a : ℕ) → a < among → cycle.run.leaving a ≤ cycle.run.leaving at

  pub greatest : (among : ℕ) → 0 < among → Greatest among
  greatest zero k = absurd (omega arith)
  greatest (suc zero) k = record { at = zero; below = omega arith; most = λ a l. let e : a ≡ zero = omega arith in subst (λ b. cycle.run.leaving b ≤ cycle.run.leaving zero) (sym e) (omega arith) }
  greatest (suc (suc b)) k = go (greatest (suc b) (omega arith))
    where
      go : Greatest (suc b) → Greatest (suc (suc b))
      go g = pick (cases_lt (cycle.run.leaving g.at) (cycle.run.leaving (suc b)))
        where
          pick : (cycle.run.leaving g.at < cycle.run.leaving (suc b)) ⊎ (cycle.run.leaving (suc b) ≤ cycle.run.leaving g.at) → Greatest (suc (suc b))
          pick (inl l) = record { at = suc b; below = omega arith; most = λ a h. over a h (cases_eq a (suc b)) }
            where
              over : (a : ℕ) → a < suc (suc b) → (a ≡ suc b) ⊎ (a ≢ suc b) → cycle.run.leaving a ≤ cycle.run.leaving (suc b)
              over a h (inl e) = subst (λ c. cycle.run.leaving c ≤ cycle.run.leaving (suc b)) (sym e) (omega arith)
              over a h (inr e) = omega (arith, g.most a (omega arith))
          pick (inr l) = record { at = g.at; below = omega (arith, g.below); most = λ a h. over a h (cases_eq a (suc b)) }
            where
              over : (a : ℕ) → a < suc (suc b) → (a ≡ suc b) ⊎ (a ≢ suc b) → cycle.run.leaving a ≤ cycle.run.leaving g.at
              over a h (inl e) = subst (λ c. cycle.run.leaving c ≤ cycle.run.leaving g.at) (sym e) l
              over a h (inr e) = g.most a (omega arith)

  pub record Leaves (among w : ℕ) : Type 0 where
    pub at : ℕ
    pub below : at < among
    pub is : cycle.run.leaving at ≡ w

  pub leaves_or_not : (among w : ℕ) → Leaves among w ⊎ ((a : ℕ) → a < among → cycle.run.leaving a ≢ w)
  leaves_or_not zero w = inr (λ a l. absurd (omega arith))
  leaves_or_not (suc b) w = go (cases_eq (cycle.run.leaving b) w) (leaves_or_not b w)
    where
      go : (cycle.run.leaving b ≡ w) ⊎ (cycle.run.leaving b ≢ w) → Leaves b w ⊎ ((a : ℕ) → a < b → cycle.run.leaving a ≢ w) → Leaves (suc b) w ⊎ ((a : ℕ) → a < suc b → cycle.run.leaving a ≢ w)
      go (inl e) r = inl (record { at = b; below = omega arith; is = e })
      go (inr e) (inl r) = inl (record { at = r.at; below = omega (arith, r.below); is = r.is })
      go (inr e) (inr r) = inr (λ a l. over a l (cases_eq a b))
        where
          over : (a : ℕ) → a < suc b → (a ≡ b) ⊎ (a ≢ b) → cycle.run.leaving a ≢ w
          over a l (inl q) = λ p. e (ap cycle.run.leaving (sym q) ∙ p)
          over a l (inr q) = r a (omega arith)
