-- What the code of the choice finds.
use Rattle.std.proofs.Common.{◌≡◌, ◌≢◌, ◌⊎◌, inl, inr, ℕ, zero, suc, ◌+◌, ◌<◌, ℤ, pos, negsuc, neg_ℤ, ◌*ℤ◌, Bool, true, false, cond, ◌&&◌, length, Option, Some, None, arith, refl, sym, ap, subst, ◌∙◌}
use Rattle.std.specs.Prelude.{nat_eq}
use Rattle.std.proofs.lemmas.Bool.{eqb-true}
use Rattle.std.proofs.lemmas.Int.{ints}
use lib.IntN.{*ℤ-zero}
use Rattle.emp_algebra.proofs.Laws.{one-*ℤ, neg_ℤ-*ℤ}
use Rattle.emp_turns.specs.Choice.{Way, Up, Down, Mark, Free, Unasked, Required, Fixed, toward}
use Rattle.emp_turns.specs.Chooses.{Entry as TurnEntry, way_of, is_negative, is_required, first_column, nearest_row, better_row}
use Rattle.emp_turns.proofs.Chooser.{FirstOf, first_column_is}
use Rattle.emp_algebra.specs.Vector.{is_zero}
use Rattle.emp_line.specs.Indexed.{has_cell}
use Rattle.emp_dict.specs.declared.label.Aim.{Aim}
use Rattle.emp_dict.specs.declared.label.Choice.TheVariants.{Stop, Exchange, Ray}
use Rattle.emp_dict.specs.declared.choose.Entry.{Entry}
use Rattle.emp_dict.specs.Dictionary.{Dictionary, line_at, cell_at, row_label, column_label}
use Rattle.emp_dict.specs.Chosen.{aimed_row, aimed_way, aim_stops, turn_aim, layout_of, mark_by_index, way_by, is_up, entering, leaving, chosen, by_entering, by_leaving, index_in}
use Rattle.emp_dict.specs.Places.{entry_of, freedom_of, is_positive, way_for, opening_at, stopping_at}
use Rattle.emp_dict.proofs.Labels.{or_cases}

way_is : (m : Mark) (z : ℤ) → z ≢ pos 0 → way_of m z ≡ way_for (freedom_of m) (is_positive z)
way_is Free (pos zero) h = absurd (h refl)
way_is Free (pos (suc n)) h = refl
way_is Free (negsuc n) h = refl
way_is Unasked z h = refl
way_is Required (pos zero) h = absurd (h refl)
way_is Required (pos (suc n)) h = refl
way_is Required (negsuc n) h = refl
way_is Fixed z h = refl

toward_nonzero : (g : Way) (z : ℤ) → z ≢ pos 0 → toward g *ℤ z ≢ pos 0
toward_nonzero Up z h e = h (sym (one-*ℤ z) ∙ e)
toward_nonzero Down z h e = let n : neg_ℤ z ≡ pos 0 = sym (neg_ℤ-*ℤ (pos 1) z ∙ ap neg_ℤ (one-*ℤ z)) ∙ e in h (omega (arith, ints))

-- a column opens the way that its freedom and the cell's sign give
pub opening_is : (d : Dictionary) (a : Aim) (j : ℕ) → cell_at d (aimed_row d a) j ≢ pos 0 → opening_at d a j ≡ way_for (freedom_of (mark_by_index d (index_in d (column_label d j)))) (is_positive (toward (aimed_way a) *ℤ cell_at d (aimed_row d a) j))
opening_is d a j h = way_is (mark_by_index d (index_in d (column_label d j))) (toward (aimed_way a) *ℤ cell_at d (aimed_row d a) j) (toward_nonzero (aimed_way a) (cell_at d (aimed_row d a) j) h)

way_zero : (m : Mark) → way_of m (pos 0) ≡ None
way_zero Free = refl
way_zero Unasked = refl
way_zero Required = refl
way_zero Fixed = refl

pub opening_none : (d : Dictionary) (a : Aim) (j : ℕ) → cell_at d (aimed_row d a) j ≡ pos 0 → opening_at d a j ≡ None
opening_none d a j e =
    ap (λ z. way_of (mark_by_index d (index_in d (column_label d j))) z) (ap (λ z. toward (aimed_way a) *ℤ z) e ∙ *ℤ-zero (toward (aimed_way a))) ∙ way_zero (mark_by_index d (index_in d (column_label d j)))

and_second : (x y : Bool) → (x && y) ≡ true → y ≡ true
and_second true y h = h
and_second false y h = cc

and_first : (x y : Bool) → (x && y) ≡ true → x ≡ true
and_first true y h = refl
and_first false y h = cc

-- a row that stops a column that opens has a cell there
pub stopping_cell : (d : Dictionary) (a : Aim) (j : ℕ) (g : Way) (i : ℕ) → opening_at d a j ≡ Some g → stopping_at d a j g i ≡ true → cell_at d i j ≢ pos 0
stopping_cell d a j g i o s z = go (or_cases (is_required (mark_by_index d (index_in d (row_label d i))) && is_negative (toward g *ℤ cell_at d i j)) (nat_eq i (aimed_row d a) && aim_stops a) s)
  where
    go : ((is_required (mark_by_index d (index_in d (row_label d i))) && is_negative (toward g *ℤ cell_at d i j)) ≡ true) ⊎ ((nat_eq i (aimed_row d a) && aim_stops a) ≡ true) → ⊥
    go (inl t) =
        let n : is_negative (toward g *ℤ cell_at d i j) ≡ true = and_second (is_required (mark_by_index d (index_in d (row_label d i)))) (is_negative (toward g *ℤ cell_at d i j)) t in
        let e : is_negative (toward g *ℤ cell_at d i j) ≡ false = ap is_negative (ap (λ y. toward g *ℤ y) z ∙ *ℤ-zero (toward g)) in
        absurd (cc)
    go (inr t) =
        let k : i ≡ aimed_row d a = eqb-true i (aimed_row d a) (and_first (nat_eq i (aimed_row d a)) (aim_stops a) t) in
        let e : opening_at d a j ≡ None = opening_none d a j (ap (λ n. cell_at d n j) (sym k) ∙ z) in
        absurd (cc)

-- ---- the column that enters
pub entering_opens : (d : Dictionary) (a : Aim) (e : TurnEntry) → entering d a ≡ Some e → (e.place < length d.columns) × (opening_at d a e.place ≡ Some e.way)
entering_opens d a e q = go (first_column (mark_by_index d) (turn_aim d a) (layout_of d) (aimed_row d a) (length d.columns)) q (first_column_is (mark_by_index d) (turn_aim d a) (layout_of d) (aimed_row d a) (length d.columns))
  where
    go : (o : Option TurnEntry) → o ≡ Some e → FirstOf (layout_of d).column_label (opening_at d a) (length d.columns) o → (e.place < length d.columns) × (opening_at d a e.place ≡ Some e.way)
    go None p f = absurd (cc)
    go (Some b) p f = subst (λ x. (x.place < length d.columns) × (opening_at d a x.place ≡ Some x.way)) (let r : b ≡ e = cc in r) (f.0, f.1)

up_same : (b : Bool) → is_up (way_by b) ≡ b
up_same true = refl
up_same false = refl

-- ---- the choice
pub chosen_stop : (d : Dictionary) (a : Aim) → None ≡ entering d a → Stop ≡ chosen d a
chosen_stop d a e = ap (by_entering d a) e

pub chosen_ray : (d : Dictionary) (a : Aim) (e : Entry) → Some (entry_of e) ≡ entering d a → None ≡ leaving d a (entry_of e) → Ray e.column e.up ≡ chosen d a
chosen_ray d a e p q = ap (Ray e.column) (sym (up_same e.up)) ∙ (ap (by_leaving (entry_of e)) q ∙ ap (by_entering d a) p)

pub chosen_exchange : (d : Dictionary) (a : Aim) (e : Entry) (r : ℕ) → Some (entry_of e) ≡ entering d a → Some r ≡ leaving d a (entry_of e) → Exchange r e.column ≡ chosen d a
chosen_exchange d a e r p q = ap (by_leaving (entry_of e)) q ∙ ap (by_entering d a) p

-- one more row
pub nearest_next : (d : Dictionary) (a : Aim) (j : ℕ) (g : Way) (i : ℕ) → better_row (layout_of d) j i (stopping_at d a j g i) (nearest_row (mark_by_index d) (turn_aim d a) (layout_of d) (aimed_row d a) j g i) ≡ nearest_row (mark_by_index d) (turn_aim d a) (layout_of d) (aimed_row d a) j g (i + 1)
nearest_next d a j g i = let e : suc i ≡ i + 1 = omega arith in ap (nearest_row (mark_by_index d) (turn_aim d a) (layout_of d) (aimed_row d a) j g) e

-- a row with no cell in the column does not stop it
pub passed_by : (d : Dictionary) (a : Aim) (j : ℕ) (g : Way) (i : ℕ) (best : Option ℕ) (h : Bool) → opening_at d a j ≡ Some g → h ≡ has_cell (line_at d i) j → h ≡ false → best ≡ better_row (layout_of d) j i (stopping_at d a j g i) best
passed_by d a j g i best h o e f = go (stopping_at d a j g i) refl
  where
    none : (z : ℤ) → cond (is_zero z) false true ≡ false → z ≡ pos 0
    none (pos zero) e = refl
    none (pos (suc n)) e = cc
    none (negsuc n) e = cc

    go : (b : Bool) → stopping_at d a j g i ≡ b → best ≡ better_row (layout_of d) j i (stopping_at d a j g i) best
    go true s = absurd (stopping_cell d a j g i o s (none (cell_at d i j) (sym e ∙ f)))
    go false s = ap (λ b. better_row (layout_of d) j i b best) (sym s)
