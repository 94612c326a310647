-- The functions of the places make the choice.
use Rattle.std.proofs.Common.{◌≡◌, ◌≢◌, ℕ, zero, suc, ◌*◌, ◌<◌, ◌≤◌, ◌⊎◌, inl, inr, ℤ, pos, negsuc, ◌*ℤ◌, ◌<ℤ◌, unsigned_abs, Bool, true, false, cond, ◌&&◌, nat_eq, nat_lt, Option, Some, None, arith, refl, sym, ap, ◌∙◌, subst}
use lib.IntN.{*ℤ-zero}
use Rattle.std.proofs.lemmas.Int.{ints}
use Rattle.std.proofs.lemmas.Bool.{cases_eq, cases_lt, and_parts, and_cases, or_cases, or_parts, and_from, or_left, or_right, ltb-true, ltb-false, eqb-true, eq-eqb, both_ways}
use Rattle.std.proofs.Math.Nat.{mul-le-mul_left}
use Rattle.emp_algebra.proofs.Ring.{◌⊗◌, ring3}
use Rattle.emp_algebra.proofs.Order.{linear}
use Rattle.emp_turns.specs.Choice.{Mark, Free, Unasked, Required, Fixed, Way, Up, Down, toward, MayMove, Aim, Step}
use Rattle.emp_turns.specs.Layout.{Layout, IsLayout, IsPivot, table_of, ColumnOpens, RowStops, IsChoice, ratio_at}
use Rattle.emp_turns.proofs.Layouts.{is_table, row_is, constant_is, layout_after, is_exchange, is_chosen}
use Rattle.emp_turns.specs.Chooses.{way_of, opening, Entry, better_column, first_column, is_required, is_negative, stopping, is_nearer, better_row, nearest_row}

-- ---- the column
way_of_is : (m : Mark) (z : ℤ) (g : Way) → way_of m z ≡ Some g → MayMove m g × (pos 0 <ℤ (toward g *ℤ z))
way_of_is Free (pos zero) g e = absurd (cc)
way_of_is Free (pos (suc z)) Up e = (tt, omega (arith, ints))
way_of_is Free (pos (suc z)) Down e = absurd (cc)
way_of_is Free (negsuc z) Up e = absurd (cc)
way_of_is Free (negsuc z) Down e = (tt, omega (arith, ints))
way_of_is Unasked z g e = absurd (cc)
way_of_is Required (pos zero) g e = absurd (cc)
way_of_is Required (pos (suc z)) Up e = (tt, omega (arith, ints))
way_of_is Required (pos (suc z)) Down e = absurd (cc)
way_of_is Required (negsuc z) g e = absurd (cc)
way_of_is Fixed z g e = absurd (cc)

way_of_found : (m : Mark) (z : ℤ) (g : Way) → MayMove m g → pos 0 <ℤ (toward g *ℤ z) → way_of m z ≡ Some g
way_of_found Free (pos zero) Up h k = absurd (omega (arith, ints))
way_of_found Free (pos zero) Down h k = absurd (omega (arith, ints))
way_of_found Free (pos (suc z)) Up h k = refl
way_of_found Free (pos (suc z)) Down h k = absurd (omega (arith, ints))
way_of_found Free (negsuc z) Up h k = absurd (omega (arith, ints))
way_of_found Free (negsuc z) Down h k = refl
way_of_found Unasked z g h k = absurd h
way_of_found Required (pos zero) Up h k = absurd (omega (arith, ints))
way_of_found Required (pos zero) Down h k = absurd h
way_of_found Required (pos (suc z)) Up h k = refl
way_of_found Required (pos (suc z)) Down h k = absurd h
way_of_found Required (negsuc z) Up h k = absurd (omega (arith, ints))
way_of_found Required (negsuc z) Down h k = absurd h
way_of_found Fixed z g h k = absurd h

-- what is so of the best of the first m columns
abbrev pub FirstOf : (ℕ → ℕ) → (ℕ → Option Way) → ℕ → Option Entry → Type 0
FirstOf label opened m None = (h : ℕ) → h < m → opened h ≡ None
FirstOf label opened m (Some b) = (b.place < m) × (opened b.place ≡ Some b.way) × ((h : ℕ) (g : Way) → h < m → opened h ≡ Some g → label b.place ≤ label h)

first_more : (label : ℕ → ℕ) (opened : ℕ → Option Way) (m : ℕ) (o : Option Way) → opened m ≡ o → (best : Option Entry) → FirstOf label opened m best → FirstOf label opened (suc m) (better_column label m o best)
first_more label opened m None e None f = λ h k. go h k (cases_eq h m)
  where
    go : (h : ℕ) → h < suc m → (h ≡ m) ⊎ (h ≢ m) → opened h ≡ None
    go h k (inl q) = ap opened q ∙ e
    go h k (inr q) = f h (omega arith)
first_more label opened m None e (Some b) f = (omega (arith, f.0), f.1, λ h g k q. go h g k q (cases_eq h m))
  where
    go : (h : ℕ) (g : Way) → h < suc m → opened h ≡ Some g → (h ≡ m) ⊎ (h ≢ m) → label b.place ≤ label h
    go h g k q (inl p) = let none : opened h ≡ None = ap opened p ∙ e in absurd (cc)
    go h g k q (inr p) = f.2 h g (omega arith) q
first_more label opened m (Some g) e None f = (omega arith, e, λ h o k q. go h o k q (cases_eq h m))
  where
    go : (h : ℕ) (o : Way) → h < suc m → opened h ≡ Some o → (h ≡ m) ⊎ (h ≢ m) → label m ≤ label h
    go h o k q (inl p) = let s = ap label p in omega arith
    go h o k q (inr p) = let none = f h (omega arith) in absurd (cc)
first_more label opened m (Some g) e (Some b) f = go (nat_lt (label m) (label b.place)) refl
  where
    new : (h : ℕ) (o : Way) → label m < label b.place → h < suc m → opened h ≡ Some o → (h ≡ m) ⊎ (h ≢ m) → label m ≤ label h
    new h o l k q (inl p) = let s = ap label p in omega arith
    new h o l k q (inr p) = let s = f.2 h o (omega arith) q in omega arith

    old : (h : ℕ) (o : Way) → label b.place ≤ label m → h < suc m → opened h ≡ Some o → (h ≡ m) ⊎ (h ≢ m) → label b.place ≤ label h
    old h o l k q (inl p) = let s = ap label p in omega arith
    old h o l k q (inr p) = f.2 h o (omega arith) q

    go : (t : Bool) → nat_lt (label m) (label b.place) ≡ t → FirstOf label opened (suc m) (cond t (Some (record { place = m; way = g })) (Some b))
    go true t = (omega arith, e, λ h o k q. new h o (ltb-true (label m) (label b.place) t) k q (cases_eq h m))
    go false t = (omega (arith, f.0), f.1, λ h o k q. old h o (ltb-false (label m) (label b.place) t) k q (cases_eq h m))

pub first_column_is : (mark : ℕ → Mark) (aim : Aim) (y : Layout) (k m : ℕ) → FirstOf y.column_label (opening mark aim y k) m (first_column mark aim y k m)
first_column_is mark aim y k zero = λ h l. absurd (omega arith)
first_column_is mark aim y k (suc m) = first_more y.column_label (opening mark aim y k) m (opening mark aim y k m) refl (first_column mark aim y k m) (first_column_is mark aim y k m)

-- ---- the row
-- row b comes before row h
abbrev pub Nearer : Layout → ℕ → ℕ → ℕ → Type 0
Nearer y j b h = (ratio_at y j b h ≤ ratio_at y j h b) × (ratio_at y j b h ≡ ratio_at y j h b → y.row_label b ≤ y.row_label h)

cancel_le : (a x z : ℕ) → 0 < a → a * x ≤ a * z → x ≤ z
cancel_le a x z h k = go (cases_lt z x)
  where
    go : (z < x) ⊎ (x ≤ z) → x ≤ z
    go (inl l) = let s : suc z ≤ x = omega arith in absurd (omega (arith, mul-le-mul_left a s))
    go (inr l) = l

-- crosswise comparison is transitive, and equality of the ends makes all equal
across : (ci ai cb ab ch ah : ℕ) → 0 < ab → ci * ab ≤ cb * ai → cb * ah ≤ ch * ab → ci * ah ≤ ch * ai
across ci ai cb ab ch ah p h k = cancel_le ab (ci * ah) (ch * ai) p (omega (arith, mul-le-mul_left ah h, mul-le-mul_left ai k))

first_same : (ci ai cb ab ch ah : ℕ) → 0 < ah → ci * ab ≤ cb * ai → cb * ah ≤ ch * ab → ci * ah ≡ ch * ai → cb * ai ≤ ci * ab
first_same ci ai cb ab ch ah p h k e = cancel_le ah (cb * ai) (ci * ab) p (let q : ab * (ci * ah) ≡ ab * (ch * ai) = ap (λ z. ab * z) e in omega (arith, mul-le-mul_left ai k))

second_same : (ci ai cb ab ch ah : ℕ) → 0 < ai → ci * ab ≤ cb * ai → cb * ah ≤ ch * ab → ci * ah ≡ ch * ai → ch * ab ≤ cb * ah
second_same ci ai cb ab ch ah p h k e = cancel_le ai (ch * ab) (cb * ah) p (let q : ab * (ci * ah) ≡ ab * (ch * ai) = ap (λ z. ab * z) e in omega (arith, mul-le-mul_left ah h))

abbrev size : Layout → ℕ → ℕ → ℕ
size y j i = unsigned_abs (y.cell i j)

nearer_trans : (y : Layout) (j i b h : ℕ) → 0 < size y j i → 0 < size y j b → 0 < size y j h → Nearer y j i b → Nearer y j b h → Nearer y j i h
nearer_trans y j i b h pi pb ph n o = (across (unsigned_abs (y.constant i)) (size y j i) (unsigned_abs (y.constant b)) (size y j b) (unsigned_abs (y.constant h)) (size y j h) pb n.0 o.0, labels)
  where
    labels : ratio_at y j i h ≡ ratio_at y j h i → y.row_label i ≤ y.row_label h
    labels e =
        let f = first_same (unsigned_abs (y.constant i)) (size y j i) (unsigned_abs (y.constant b)) (size y j b) (unsigned_abs (y.constant h)) (size y j h) ph n.0 o.0 e in
        let s = second_same (unsigned_abs (y.constant i)) (size y j i) (unsigned_abs (y.constant b)) (size y j b) (unsigned_abs (y.constant h)) (size y j h) pi n.0 o.0 e in
        let one : ratio_at y j i b ≡ ratio_at y j b i = omega (arith, n.0) in
        let two : ratio_at y j b h ≡ ratio_at y j h b = omega (arith, o.0) in
        let l = n.1 one in
        let r = o.1 two in
        omega arith

is_nearer-true : (y : Layout) (j i b : ℕ) → is_nearer y j i b ≡ true → Nearer y j i b
is_nearer-true y j i b e = go (or_cases (nat_lt (ratio_at y j i b) (ratio_at y j b i)) (nat_eq (ratio_at y j i b) (ratio_at y j b i) && nat_lt (y.row_label i) (y.row_label b)) e)
  where
    go : (nat_lt (ratio_at y j i b) (ratio_at y j b i) ≡ true) ⊎ ((nat_eq (ratio_at y j i b) (ratio_at y j b i) && nat_lt (y.row_label i) (y.row_label b)) ≡ true) → Nearer y j i b
    go (inl t) = let l = ltb-true (ratio_at y j i b) (ratio_at y j b i) t in (le_of_lt l, λ q. absurd (differ l q))
      where
        le_of_lt : ratio_at y j i b < ratio_at y j b i → ratio_at y j i b ≤ ratio_at y j b i
        le_of_lt l = omega (arith, l)

        differ : ratio_at y j i b < ratio_at y j b i → ratio_at y j i b ≡ ratio_at y j b i → ⊥
        differ l q = omega (arith, l, q)
    go (inr t) =
        let p = and_parts (nat_eq (ratio_at y j i b) (ratio_at y j b i)) (nat_lt (y.row_label i) (y.row_label b)) t in
        let s = eqb-true (ratio_at y j i b) (ratio_at y j b i) p.0 in
        let l = ltb-true (y.row_label i) (y.row_label b) p.1 in
        (omega (arith, s), λ q. omega arith)

is_nearer-false : (y : Layout) (j i b : ℕ) → is_nearer y j i b ≡ false → Nearer y j b i
is_nearer-false y j i b e =
    let p = or_parts (nat_lt (ratio_at y j i b) (ratio_at y j b i)) (nat_eq (ratio_at y j i b) (ratio_at y j b i) && nat_lt (y.row_label i) (y.row_label b)) e in
    (ltb-false (ratio_at y j i b) (ratio_at y j b i) p.0, λ q. go q (and_cases (nat_eq (ratio_at y j i b) (ratio_at y j b i)) (nat_lt (y.row_label i) (y.row_label b)) p.1))
  where
    go : ratio_at y j b i ≡ ratio_at y j i b → (nat_eq (ratio_at y j i b) (ratio_at y j b i) ≡ false) ⊎ (nat_lt (y.row_label i) (y.row_label b) ≡ false) → y.row_label b ≤ y.row_label i
    go q (inl t) = absurd (both_ways (nat_eq (ratio_at y j i b) (ratio_at y j b i)) t (eq-eqb (ratio_at y j i b) (ratio_at y j b i) (sym q)))
    go q (inr t) = ltb-false (y.row_label i) (y.row_label b) t

nearer_same : (y : Layout) (j b h : ℕ) → h ≡ b → Nearer y j b h
nearer_same y j b h e = subst (λ a. Nearer y j b a) (sym e) (omega arith, λ q. omega arith)

-- what is so of the best of the first m rows
abbrev pub NearestOf : Layout → ℕ → (ℕ → Bool) → ℕ → Option ℕ → Type 0
NearestOf y j stops m None = (h : ℕ) → h < m → stops h ≡ false
NearestOf y j stops m (Some b) = (b < m) × (stops b ≡ true) × ((h : ℕ) → h < m → stops h ≡ true → Nearer y j b h)

nearest_more : (y : Layout) (j : ℕ) (stops : ℕ → Bool) (m : ℕ) → ((i : ℕ) → i < suc m → stops i ≡ true → 0 < size y j i) → (o : Bool) → stops m ≡ o → (best : Option ℕ) → NearestOf y j stops m best → NearestOf y j stops (suc m) (better_row y j m o best)
nearest_more y j stops m pos_ false e None f = λ h k. go h k (cases_eq h m)
  where
    go : (h : ℕ) → h < suc m → (h ≡ m) ⊎ (h ≢ m) → stops h ≡ false
    go h k (inl q) = ap stops q ∙ e
    go h k (inr q) = f h (omega arith)
nearest_more y j stops m pos_ false e (Some b) f = (omega (arith, f.0), f.1, λ h k q. go h k q (cases_eq h m))
  where
    go : (h : ℕ) → h < suc m → stops h ≡ true → (h ≡ m) ⊎ (h ≢ m) → Nearer y j b h
    go h k q (inl p) = absurd (both_ways (stops m) e (ap stops (sym p) ∙ q))
    go h k q (inr p) = f.2 h (omega arith) q
nearest_more y j stops m pos_ true e None f = (omega arith, e, λ h k q. go h k q (cases_eq h m))
  where
    go : (h : ℕ) → h < suc m → stops h ≡ true → (h ≡ m) ⊎ (h ≢ m) → Nearer y j m h
    go h k q (inl p) = nearer_same y j m h p
    go h k q (inr p) = absurd (both_ways (stops h) (f h (omega arith)) q)
nearest_more y j stops m pos_ true e (Some b) f = go (is_nearer y j m b) refl
  where
    new : (h : ℕ) → Nearer y j m b → h < suc m → stops h ≡ true → (h ≡ m) ⊎ (h ≢ m) → Nearer y j m h
    new h n k q (inl p) = nearer_same y j m h p
    new h n k q (inr p) = nearer_trans y j m b h (pos_ m (omega arith) e) (pos_ b (omega (arith, f.0)) f.1) (pos_ h k q) n (f.2 h (omega arith) q)

    old : (h : ℕ) → Nearer y j b m → h < suc m → stops h ≡ true → (h ≡ m) ⊎ (h ≢ m) → Nearer y j b h
    old h n k q (inl p) = subst (λ a. Nearer y j b a) (sym p) n
    old h n k q (inr p) = f.2 h (omega arith) q

    go : (t : Bool) → is_nearer y j m b ≡ t → NearestOf y j stops (suc m) (cond t (Some m) (Some b))
    go true t = (omega arith, e, λ h k q. new h (is_nearer-true y j m b t) k q (cases_eq h m))
    go false t = (omega (arith, f.0), f.1, λ h k q. old h (is_nearer-false y j m b t) k q (cases_eq h m))

pub nearest_row_is : (mark : ℕ → Mark) (aim : Aim) (y : Layout) (k j : ℕ) (g : Way) (m : ℕ) → ((i : ℕ) → i < m → stopping mark aim y k j g i ≡ true → 0 < size y j i) → NearestOf y j (stopping mark aim y k j g) m (nearest_row mark aim y k j g m)
nearest_row_is mark aim y k j g zero sizes = λ h l. absurd (omega arith)
nearest_row_is mark aim y k j g (suc m) sizes = nearest_more y j (stopping mark aim y k j g) m sizes (stopping mark aim y k j g m) refl (nearest_row mark aim y k j g m) (nearest_row_is mark aim y k j g m (λ i h. sizes i (omega arith)))

-- ---- both
required-true : (m : Mark) → is_required m ≡ true → m ≡ Required
required-true Free e = absurd (cc)
required-true Unasked e = absurd (cc)
required-true Required e = refl
required-true Fixed e = absurd (cc)

negative-true : (z : ℤ) → is_negative z ≡ true → z <ℤ pos 0
negative-true (pos z) e = absurd (cc)
negative-true (negsuc z) e = omega (arith, ints)

negative_found : (z : ℤ) → z <ℤ pos 0 → is_negative z ≡ true
negative_found (pos z) h = absurd (omega (arith, ints))
negative_found (negsuc z) h = refl

pub stopping-true : (mark : ℕ → Mark) (aim : Aim) (y : Layout) (k j : ℕ) (g : Way) (i : ℕ) → i < y.rows → stopping mark aim y k j g i ≡ true → RowStops mark aim y k j g i
stopping-true mark aim y k j g i h e = record { below = h; why = go (or_cases (is_required (mark (y.row_label i)) && is_negative (toward g *ℤ y.cell i j)) (nat_eq i k && aim.stops) e) }
  where
    go : ((is_required (mark (y.row_label i)) && is_negative (toward g *ℤ y.cell i j)) ≡ true) ⊎ ((nat_eq i k && aim.stops) ≡ true) → ((mark (y.row_label i) ≡ Required) × ((toward g *ℤ y.cell i j) <ℤ pos 0)) ⊎ ((i ≡ k) × (aim.stops ≡ true))
    go (inl t) = let p = and_parts (is_required (mark (y.row_label i))) (is_negative (toward g *ℤ y.cell i j)) t in inl (required-true (mark (y.row_label i)) p.0, negative-true (toward g *ℤ y.cell i j) p.1)
    go (inr t) = let p = and_parts (nat_eq i k) aim.stops t in inr (eqb-true i k p.0, p.1)

pub stopping_found : (mark : ℕ → Mark) (aim : Aim) (y : Layout) (k j : ℕ) (g : Way) (i : ℕ) → RowStops mark aim y k j g i → stopping mark aim y k j g i ≡ true
stopping_found mark aim y k j g i s = go s.why
  where
    go : ((mark (y.row_label i) ≡ Required) × ((toward g *ℤ y.cell i j) <ℤ pos 0)) ⊎ ((i ≡ k) × (aim.stops ≡ true)) → stopping mark aim y k j g i ≡ true
    go (inl p) = or_left (is_required (mark (y.row_label i)) && is_negative (toward g *ℤ y.cell i j)) (nat_eq i k && aim.stops) (and_from (is_required (mark (y.row_label i))) (is_negative (toward g *ℤ y.cell i j)) (ap is_required p.0) (negative_found (toward g *ℤ y.cell i j) p.1))
    go (inr p) = or_right (is_required (mark (y.row_label i)) && is_negative (toward g *ℤ y.cell i j)) (nat_eq i k && aim.stops) (and_from (nat_eq i k) aim.stops (eq-eqb i k p.0) p.1)

size_of_product : (f a : ℤ) → f *ℤ a ≢ pos 0 → 0 < unsigned_abs a
size_of_product f (pos zero) h = absurd (h (*ℤ-zero f))
size_of_product f (pos (suc a)) h = omega arith
size_of_product f (negsuc a) h = omega arith

opens_of : (mark : ℕ → Mark) (aim : Aim) (y : Layout) (k j : ℕ) (g : Way) → j < y.columns → opening mark aim y k j ≡ Some g → ColumnOpens mark aim y k j g
opens_of mark aim y k j g h e =
    let p = way_of_is (mark (y.column_label j)) (toward aim.way *ℤ y.cell k j) g e in
    record { below = h; moves = p.0; helps = subst (λ z. pos 0 <ℤ z) (ring3 (λ g r a. g ⊗ (r ⊗ a)) (λ g r a. r ⊗ (g ⊗ a)) refl (toward g) (toward aim.way) (y.cell k j)) p.1 }

pub opening_found : (mark : ℕ → Mark) (aim : Aim) (y : Layout) (k j : ℕ) (g : Way) → ColumnOpens mark aim y k j g → opening mark aim y k j ≡ Some g
opening_found mark aim y k j g o =
    way_of_found (mark (y.column_label j)) (toward aim.way *ℤ y.cell k j) g o.moves (subst (λ z. pos 0 <ℤ z) (ring3 (λ g r a. r ⊗ (g ⊗ a)) (λ g r a. g ⊗ (r ⊗ a)) refl (toward g) (toward aim.way) (y.cell k j)) o.helps)

sizes : (mark : ℕ → Mark) (aim : Aim) (y : Layout) (k j : ℕ) (g : Way) → ColumnOpens mark aim y k j g → (i : ℕ) → i < y.rows → stopping mark aim y k j g i ≡ true → 0 < size y j i
sizes mark aim y k j g o i h e = go (stopping-true mark aim y k j g i h e).why
  where
    go : ((mark (y.row_label i) ≡ Required) × ((toward g *ℤ y.cell i j) <ℤ pos 0)) ⊎ ((i ≡ k) × (aim.stops ≡ true)) → 0 < size y j i
    go (inl p) = size_of_product (toward g) (y.cell i j) (λ z. let q = p.1 in omega (arith, linear))
    go (inr p) =
        let helps : pos 0 <ℤ (toward aim.way *ℤ (toward g *ℤ y.cell i j)) = subst (λ a. pos 0 <ℤ (toward aim.way *ℤ (toward g *ℤ y.cell a j))) (sym p.0) o.helps in
        size_of_product (toward g) (y.cell i j) (λ z. let q : toward aim.way *ℤ (toward g *ℤ y.cell i j) ≡ pos 0 = ap (λ a. toward aim.way *ℤ a) z ∙ *ℤ-zero (toward aim.way) in omega (arith, linear))

pub choice_is : (mark : ℕ → Mark) (aim : Aim) (y : Layout) (k : ℕ) (b : Entry) (r : ℕ) → first_column mark aim y k y.columns ≡ Some b → nearest_row mark aim y k b.place b.way y.rows ≡ Some r → IsChoice mark aim y k b.place b.way r
choice_is mark aim y k b r e f =
    let c = subst (λ o. FirstOf y.column_label (opening mark aim y k) y.columns o) e (first_column_is mark aim y k y.columns) in
    let opens : ColumnOpens mark aim y k b.place b.way = opens_of mark aim y k b.place b.way c.0 c.1 in
    let d = subst (λ o. NearestOf y b.place (stopping mark aim y k b.place b.way) y.rows o) f (nearest_row_is mark aim y k b.place b.way y.rows (sizes mark aim y k b.place b.way opens)) in
    record {
      opens = opens;
      first = λ h o q. c.2 h o q.below (opening_found mark aim y k h o q);
      stops = stopping-true mark aim y k b.place b.way r d.0 d.1;
      nearest = λ i q. (d.2 i q.below (stopping_found mark aim y k b.place b.way i q)).0;
      tie = λ i q. (d.2 i q.below (stopping_found mark aim y k b.place b.way i q)).1;
    }

-- where nothing is found, there is nothing
pub none_opens : (mark : ℕ → Mark) (aim : Aim) (y : Layout) (k : ℕ) → first_column mark aim y k y.columns ≡ None → (j : ℕ) (g : Way) → ColumnOpens mark aim y k j g → ⊥
none_opens mark aim y k e j g o =
    let c = subst (λ o. FirstOf y.column_label (opening mark aim y k) y.columns o) e (first_column_is mark aim y k y.columns) in
    let found = opening_found mark aim y k j g o in
    let none = c j o.below in
    absurd (cc)

pub none_stops : (mark : ℕ → Mark) (aim : Aim) (y : Layout) (k j : ℕ) (g : Way) → ColumnOpens mark aim y k j g → nearest_row mark aim y k j g y.rows ≡ None → (i : ℕ) → RowStops mark aim y k j g i → ⊥
none_stops mark aim y k j g o e i s =
    let d = subst (λ o. NearestOf y j (stopping mark aim y k j g) y.rows o) e (nearest_row_is mark aim y k j g y.rows (sizes mark aim y k j g o)) in
    both_ways (stopping mark aim y k j g i) (d i s.below) (stopping_found mark aim y k j g i s)

-- ---- a turn of the loop, by places
pub step_of : (n : ℕ) (mark : ℕ → Mark) (aim : Aim) (y z : Layout) (k : ℕ) (b : Entry) (r : ℕ) → IsLayout n y → k < y.rows → y.row_label k ≡ aim.row → (aim.stops ≡ true → (toward aim.way *ℤ y.constant k) <ℤ pos 0) → first_column mark aim y k y.columns ≡ Some b → nearest_row mark aim y k b.place b.way y.rows ≡ Some r → IsPivot y r b.place z → Step n mark aim (table_of y) (table_of z)
step_of n mark aim y z k b r h lk is behind e f p = record {
  entering = y.column_label b.place;
  way = b.way;
  leaving = y.row_label r;
  open_aim = record {
    row = ap (λ v. (table_of y).is_row v) (sym is) ∙ row_is n y h k lk;
    behind = λ s. subst (λ c. (toward aim.way *ℤ c) <ℤ pos 0) (sym (constant_is n y h k lk) ∙ ap (λ v. (table_of y).constant v) is) (behind s);
  };
  chosen = is_chosen n mark aim y k b.place b.way r h lk is (choice_is mark aim y k b r e f);
  exchange = is_exchange n y z r b.place h p;
  sound = is_table n z (layout_after n y z r b.place h p);
}
