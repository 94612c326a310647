-- What a look that names a pivot has seen.
use Rattle.std.proofs.Common.{◌≡◌, ◌≢◌, ℕ, zero, suc, ◌<◌, ◌⊎◌, inl, inr, ℤ, pos, negsuc, ◌*ℤ◌, ◌<ℤ◌, Bool, true, length, Option, Some, None, arith, refl, sym, ap, subst, ◌∙◌}
use lib.IntN.{*ℤ-zero}
use Rattle.std.proofs.lemmas.Int.{ints}
use Rattle.emp_turns.specs.Choice.{Way, toward, Required as required}
use Rattle.emp_turns.specs.Chooses.{Entry}
use Rattle.emp_turns.specs.Layout.{IsChoice}
use Rattle.emp_turns.proofs.Chooser.{choice_is}
use Rattle.emp_dict.specs.declared.label.Label.TheVariants.{Quantity, Objective}
use Rattle.emp_dict.specs.declared.label.Aim.{Aim}
use Rattle.emp_dict.specs.declared.label.Aim.TheVariants.{Up, Down, Least}
use Rattle.emp_dict.specs.declared.label.Choice.{Choice}
use Rattle.emp_dict.specs.declared.label.Choice.TheVariants.{Stop, Exchange, Ray as RayChoice}
use Rattle.emp_dict.specs.Dictionary.{Dictionary, IsSound, line_at, cell_at, row_label, row_of}
use Rattle.emp_dict.specs.Chosen.{chosen, entering, leaving, by_entering, by_leaving, is_up, index_in, mark_by_index, turn_aim, layout_of, aimed_row, aimed_way, aim_stops}
use Rattle.emp_step.specs.Steps.{turn, by_choice, by_least, raise_row, raise_place, raise_look, fix_row, fix_place, fix_look, leave_row, first_loose, best_look}
use Rattle.emp_step.proofs.Labels.{RowIs, row_found}
use Rattle.emp_step.proofs.Marks.{mark_objective}
use Rattle.emp_step.proofs.Given.{PivotFits}

-- ---- what a choice comes from
pub record Exchanges (d : Dictionary) (a : Aim) (r j : ℕ) : Type 0 where
  pub entry : Entry
  pub enters : entering d a ≡ Some entry
  pub leaves : leaving d a entry ≡ Some r
  pub column : entry.place ≡ j

pub chosen_exchange : (d : Dictionary) (a : Aim) (r j : ℕ) → chosen d a ≡ Exchange r j → Exchanges d a r j
chosen_exchange d a r j h = go (entering d a) refl h
  where
    by : (e : Entry) → entering d a ≡ Some e → (o : Option ℕ) → leaving d a e ≡ o → by_leaving e o ≡ Exchange r j → Exchanges d a r j
    by e q None l h = absurd (cc)
    by e q (Some i) l h = let row : i ≡ r = cc in record { entry = e; enters = q; leaves = l ∙ ap Some row; column = cc }

    go : (o : Option Entry) → entering d a ≡ o → by_entering d a o ≡ Exchange r j → Exchanges d a r j
    go None q h = absurd (cc)
    go (Some e) q h = by e q (leaving d a e) refl h

pub chosen_stop : (d : Dictionary) (a : Aim) → chosen d a ≡ Stop → entering d a ≡ None
chosen_stop d a h = go (entering d a) refl h
  where
    by : (e : Entry) (o : Option ℕ) → by_leaving e o ≡ Stop → ⊥
    by e None h = absurd (cc)
    by e (Some i) h = absurd (cc)

    go : (o : Option Entry) → entering d a ≡ o → by_entering d a o ≡ Stop → entering d a ≡ None
    go None q h = q
    go (Some e) q h = absurd (by e (leaving d a e) h)

pub record Goes (d : Dictionary) (a : Aim) (j : ℕ) (up : Bool) : Type 0 where
  pub entry : Entry
  pub enters : entering d a ≡ Some entry
  pub stays : leaving d a entry ≡ None
  pub column : entry.place ≡ j
  pub way : is_up entry.way ≡ up

pub chosen_ray : (d : Dictionary) (a : Aim) (j : ℕ) (up : Bool) → chosen d a ≡ RayChoice j up → Goes d a j up
chosen_ray d a j up h = go (entering d a) refl h
  where
    by : (e : Entry) → entering d a ≡ Some e → (o : Option ℕ) → leaving d a e ≡ o → by_leaving e o ≡ RayChoice j up → Goes d a j up
    by e q None l h = record { entry = e; enters = q; stays = l; column = cc; way = cc }
    by e q (Some i) l h = absurd (cc)

    go : (o : Option Entry) → entering d a ≡ o → by_entering d a o ≡ RayChoice j up → Goes d a j up
    go None q h = absurd (cc)
    go (Some e) q h = by e q (leaving d a e) refl h

-- ---- a turn that moves the aimed row
pub record Moving (d : Dictionary) (a : Aim) (r j : ℕ) : Type 0 where
  pub chose : chosen d a ≡ Exchange r j
  pub aimed : aimed_row d a < length d.rows
  pub behind : aim_stops a ≡ true → (toward (aimed_way a) *ℤ (line_at d (aimed_row d a)).constant) <ℤ pos 0
  pub own : aim_stops a ≡ true → (k : ℕ) × (row_label d (aimed_row d a) ≡ Quantity k)

choice_of : (d : Dictionary) (a : Aim) (r j : ℕ) → (x : Exchanges d a r j) → IsChoice (mark_by_index d) (turn_aim d a) (layout_of d) (aimed_row d a) x.entry.place x.entry.way r
choice_of d a r j x = choice_is (mark_by_index d) (turn_aim d a) (layout_of d) (aimed_row d a) x.entry r x.enters x.leaves

pub record Chose (d : Dictionary) (a : Aim) (r j : ℕ) : Type 0 where
  pub way : Way
  pub choice : IsChoice (mark_by_index d) (turn_aim d a) (layout_of d) (aimed_row d a) j way r

pub chose : (d : Dictionary) (a : Aim) (r j : ℕ) → chosen d a ≡ Exchange r j → Chose d a r j
chose d a r j h =
    let x = chosen_exchange d a r j h in
    record { way = x.entry.way; choice = subst (λ p. IsChoice (mark_by_index d) (turn_aim d a) (layout_of d) (aimed_row d a) p x.entry.way r) x.column (choice_of d a r j x) }

nonzero_if : (a b c : ℤ) → (a *ℤ c) <ℤ pos 0 → c ≢ pos 0
nonzero_if a b c h e = let z : a *ℤ c ≡ pos 0 = ap (λ x. a *ℤ x) e ∙ *ℤ-zero a in omega (arith, ints)

nonzero_twice : (a b c : ℤ) → pos 0 <ℤ (a *ℤ (b *ℤ c)) → c ≢ pos 0
nonzero_twice a b c h e = let z : a *ℤ (b *ℤ c) ≡ pos 0 = ap (λ x. a *ℤ (b *ℤ x)) e ∙ (ap (λ x. a *ℤ x) (*ℤ-zero b) ∙ *ℤ-zero a) in omega (arith, ints)

pub moving_fits : (d : Dictionary) (a : Aim) (r j : ℕ) → IsSound d → Moving d a r j → PivotFits d r j
moving_fits d a r j s m =
    let c = (chose d a r j m.chose).choice in
    let g = (chose d a r j m.chose).way in
    record {
      row = c.stops.below;
      column = c.opens.below;
      quantity = λ z. quantity g c.stops.why z;
      nonzero = nonzero g c.opens.helps c.stops.why;
    }
  where
    quantity : (g : Way) → ((mark_by_index d (index_in d (row_label d r)) ≡ required) × ((toward g *ℤ cell_at d r j) <ℤ pos 0)) ⊎ ((r ≡ aimed_row d a) × (aim_stops a ≡ true)) → row_label d r ≡ Objective → ⊥
    quantity g (inl p) z = let q : mark_by_index d (index_in d Objective) ≡ required = sym (ap (λ w. mark_by_index d (index_in d w)) z) ∙ p.0 in let t = mark_objective d in absurd (cc)
    quantity g (inr p) z = let l = (m.own p.1).1 in let t : Objective ≡ Quantity (m.own p.1).0 = sym z ∙ (ap (row_label d) p.0 ∙ l) in absurd (cc)

    nonzero : (g : Way) → pos 0 <ℤ (toward (aimed_way a) *ℤ (toward g *ℤ cell_at d (aimed_row d a) j)) → ((mark_by_index d (index_in d (row_label d r)) ≡ required) × ((toward g *ℤ cell_at d r j) <ℤ pos 0)) ⊎ ((r ≡ aimed_row d a) × (aim_stops a ≡ true)) → cell_at d r j ≢ pos 0
    nonzero g h (inl p) = nonzero_if (toward g) (toward g) (cell_at d r j) p.1
    nonzero g h (inr p) = nonzero_twice (toward (aimed_way a)) (toward g) (cell_at d r j) (subst (λ i. pos 0 <ℤ (toward (aimed_way a) *ℤ (toward g *ℤ cell_at d i j))) (sym p.0) h)

-- ---- what the looks have seen
pub by_choice_turn : (i : ℕ) (c : Choice) (r j : ℕ) → by_choice i c ≡ turn r j → c ≡ Exchange r j
by_choice_turn i Stop r j e = absurd (cc)
by_choice_turn i (Exchange h l) r j e = cc
by_choice_turn i (RayChoice h up) r j e = absurd (cc)

-- the quantity k has row i, and that row moves
pub record MovesRow (k : ℕ) (d : Dictionary) (r j : ℕ) : Type 0 where
  pub aim : Aim
  pub moving : Moving d aim r j
  pub label : row_label d (aimed_row d aim) ≡ Quantity k
  pub stops : aim_stops aim ≡ true

pub up_moves : (k : ℕ) (d : Dictionary) (i r j c : ℕ) → RowIs d (Quantity k) i → (line_at d i).constant ≡ negsuc c → chosen d (Up i) ≡ Exchange r j → MovesRow k d r j
up_moves k d i r j c row e h = record {
  aim = Up i;
  moving = record { chose = h; aimed = row.below; behind = λ q. subst (λ z. (toward (aimed_way (Up i)) *ℤ z) <ℤ pos 0) (sym e) (omega (arith, ints)); own = λ q. (k, row.label) };
  label = row.label;
  stops = refl;
}

pub down_moves : (k : ℕ) (d : Dictionary) (i r j c : ℕ) → RowIs d (Quantity k) i → (line_at d i).constant ≡ pos (suc c) → chosen d (Down i) ≡ Exchange r j → MovesRow k d r j
down_moves k d i r j c row e h = record {
  aim = Down i;
  moving = record { chose = h; aimed = row.below; behind = λ q. subst (λ z. (toward (aimed_way (Down i)) *ℤ z) <ℤ pos 0) (sym e) (omega (arith, ints)); own = λ q. (k, row.label) };
  label = row.label;
  stops = refl;
}

pub raise_turn : (k : ℕ) (d : Dictionary) (r j : ℕ) → raise_look k d ≡ turn r j → MovesRow k d r j
raise_turn k d r j h = go (row_of d (Quantity k)) refl h
  where
    by : (i : ℕ) → RowIs d (Quantity k) i → (c : ℤ) → (line_at d i).constant ≡ c → raise_row d i c ≡ turn r j → MovesRow k d r j
    by i row (pos c) e h = absurd (cc)
    by i row (negsuc c) e h = up_moves k d i r j c row e (by_choice_turn i (chosen d (Up i)) r j h)

    go : (o : Option ℕ) → row_of d (Quantity k) ≡ o → raise_place d o ≡ turn r j → MovesRow k d r j
    go None q h = absurd (cc)
    go (Some i) q h = by i (row_found d (Quantity k) i q) (line_at d i).constant refl h

-- the quantity k has row r, its value is 0, and it leaves by a column that is loose
pub record LeavesRow (k : ℕ) (d : Dictionary) (r j : ℕ) : Type 0 where
  pub row : RowIs d (Quantity k) r
  pub zero_there : (line_at d r).constant ≡ pos 0
  pub loose : first_loose d r (length d.columns) ≡ Some j

pub fix_turn : (k : ℕ) (d : Dictionary) (r j : ℕ) → fix_look k d ≡ turn r j → MovesRow k d r j ⊎ LeavesRow k d r j
fix_turn k d r j h = go (row_of d (Quantity k)) refl h
  where
    leave : (i : ℕ) → RowIs d (Quantity k) i → (line_at d i).constant ≡ pos 0 → (o : Option ℕ) → first_loose d i (length d.columns) ≡ o → leave_row i o ≡ turn r j → LeavesRow k d r j
    leave i row e None q h = absurd (cc)
    leave i row e (Some l) q h = let same : i ≡ r = cc in let column : l ≡ j = cc in record { row = subst (λ x. RowIs d (Quantity k) x) same row; zero_there = subst (λ x. (line_at d x).constant ≡ pos 0) same e; loose = subst (λ x. first_loose d x (length d.columns) ≡ Some j) same (q ∙ ap Some column) }

    by : (i : ℕ) → RowIs d (Quantity k) i → (c : ℤ) → (line_at d i).constant ≡ c → fix_row d i c ≡ turn r j → MovesRow k d r j ⊎ LeavesRow k d r j
    by i row (pos zero) e h = inr (leave i row e (first_loose d i (length d.columns)) refl h)
    by i row (pos (suc c)) e h = inl (down_moves k d i r j c row e (by_choice_turn i (chosen d (Down i)) r j h))
    by i row (negsuc c) e h = inl (up_moves k d i r j c row e (by_choice_turn i (chosen d (Up i)) r j h))

    go : (o : Option ℕ) → row_of d (Quantity k) ≡ o → fix_place d o ≡ turn r j → MovesRow k d r j ⊎ LeavesRow k d r j
    go None q h = absurd (cc)
    go (Some i) q h = by i (row_found d (Quantity k) i q) (line_at d i).constant refl h

pub best_turn : (d : Dictionary) (r j : ℕ) → length d.marks < length d.rows → best_look d ≡ turn r j → Moving d Least r j
best_turn d r j there h = record { chose = by (chosen d Least) h; aimed = there; behind = λ q. absurd (cc); own = λ q. absurd (cc) }
  where
    by : (c : Choice) → by_least d c ≡ turn r j → c ≡ Exchange r j
    by Stop e = absurd (cc)
    by (Exchange h l) e = cc
    by (RayChoice h up) e = absurd (cc)
