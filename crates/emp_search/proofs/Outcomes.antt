-- What the outcome of a step says of the dictionary.
use Rattle.std.proofs.Common.{◌≡◌, ◌≢◌, ℕ, zero, suc, ◌<◌, ◌⊎◌, inl, inr, ℤ, pos, negsuc, ◌*ℤ◌, ◌<ℤ◌, Bool, true, length, Option, Some, None, arith, refl, sym, subst}
use Rattle.std.proofs.lemmas.Int.{ints}
use Rattle.emp_algebra.proofs.Ring.{◌⊗◌, ring3}
use Rattle.emp_turns.specs.Choice.{Way, Mark as TurnMark, Free, Unasked as unasked, Required as required, Fixed as fixed_mark, toward, MayMove}
use Rattle.emp_turns.specs.Choice.{Up as upward, Down as downward}
use Rattle.emp_turns.specs.Chooses.{way_of}
use Rattle.emp_turns.specs.Layout.{ColumnOpens, RowStops}
use Rattle.emp_turns.proofs.Chooser.{none_stops}
use Rattle.emp_dict.specs.declared.label.Label.TheVariants.{Quantity}
use Rattle.emp_dict.specs.declared.label.Mark.{Mark}
use Rattle.emp_dict.specs.declared.label.Mark.TheVariants.{Required, Fixed}
use Rattle.emp_dict.specs.declared.label.Aim.{Aim}
use Rattle.emp_dict.specs.declared.label.Aim.TheVariants.{Up, Down, Least}
use Rattle.emp_dict.specs.declared.label.Choice.{Choice}
use Rattle.emp_dict.specs.declared.label.Choice.TheVariants.{Stop, Exchange, Ray as RayChoice}
use Rattle.emp_dict.specs.Dictionary.{Dictionary, line_at, cell_at, column_label, row_of}
use Rattle.emp_dict.specs.Chosen.{chosen, index_in, mark_by_index, turn_aim, layout_of, aimed_row, aimed_way, aim_stops, is_up}
use Rattle.emp_dict.proofs.Choosing.{entering_opens}
use Rattle.emp_step.specs.declared.outcome.Outcome.{Outcome}
use Rattle.emp_step.specs.declared.outcome.Outcome.TheVariants.{Held, Empty, Best, Ray}
use Rattle.emp_step.specs.Steps.{Look, over, End, ended, too_wide, spent, Stepped, repeated, by_choice, by_least, raise_row, raise_place, raise_look, fix_row, fix_place, fix_look, leave_row, first_loose, best_look, mark_by, raised, fixed, bested}
use Rattle.emp_step.proofs.Labels.{RowIs, row_found}
use Rattle.emp_step.proofs.Repeats.{Why, ran}
use Rattle.emp_step.proofs.Looks.{Goes, chosen_ray}

-- ---- a column that is found opens
way_of_is : (m : TurnMark) (z : ℤ) (g : Way) → way_of m z ≡ Some g → MayMove m g × (pos 0 <ℤ (toward g *ℤ z))
way_of_is Free (pos zero) g e = absurd (cc)
way_of_is Free (pos (suc z)) upward e = (tt, omega (arith, ints))
way_of_is Free (pos (suc z)) downward e = absurd (cc)
way_of_is Free (negsuc z) upward e = absurd (cc)
way_of_is Free (negsuc z) downward e = (tt, omega (arith, ints))
way_of_is unasked z g e = absurd (cc)
way_of_is required (pos zero) g e = absurd (cc)
way_of_is required (pos (suc z)) upward e = (tt, omega (arith, ints))
way_of_is required (pos (suc z)) downward e = absurd (cc)
way_of_is required (negsuc z) g e = absurd (cc)
way_of_is fixed_mark z g e = absurd (cc)

pub record Rays (d : Dictionary) (a : Aim) (j : ℕ) (up : Bool) : Type 0 where
  pub way : Way
  pub is : is_up way ≡ up
  pub opens : ColumnOpens (mark_by_index d) (turn_aim d a) (layout_of d) (aimed_row d a) j way
  pub stops : (i : ℕ) → RowStops (mark_by_index d) (turn_aim d a) (layout_of d) (aimed_row d a) j way i → ⊥

pub rays : (d : Dictionary) (a : Aim) (j : ℕ) (up : Bool) → chosen d a ≡ RayChoice j up → Rays d a j up
rays d a j up h =
    let g : Goes d a j up = chosen_ray d a j up h in
    let e = entering_opens d a g.entry g.enters in
    let w = way_of_is (mark_by_index d (index_in d (column_label d g.entry.place))) (toward (aimed_way a) *ℤ cell_at d (aimed_row d a) g.entry.place) g.entry.way e.1 in
    let opens : ColumnOpens (mark_by_index d) (turn_aim d a) (layout_of d) (aimed_row d a) g.entry.place g.entry.way = record { below = e.0; moves = w.0; helps = subst (λ z. pos 0 <ℤ z) (ring3 (λ g r a. g ⊗ (r ⊗ a)) (λ g r a. r ⊗ (g ⊗ a)) refl (toward g.entry.way) (toward (aimed_way a)) (cell_at d (aimed_row d a) g.entry.place)) w.1 } in
    record {
      way = g.entry.way;
      is = g.way;
      opens = subst (λ c. ColumnOpens (mark_by_index d) (turn_aim d a) (layout_of d) (aimed_row d a) c g.entry.way) g.column opens;
      stops = subst (λ c. (i : ℕ) → RowStops (mark_by_index d) (turn_aim d a) (layout_of d) (aimed_row d a) c g.entry.way i → ⊥) g.column (none_stops (mark_by_index d) (turn_aim d a) (layout_of d) (aimed_row d a) g.entry.place g.entry.way opens g.stays);
    }

-- a quantity that is aimed at stops its own column
no_ray : (d : Dictionary) (a : Aim) (j : ℕ) (up : Bool) → aim_stops a ≡ true → aimed_row d a < length d.rows → chosen d a ≢ RayChoice j up
no_ray d a j up s b h = let r = rays d a j up h in r.stops (aimed_row d a) (record { below = b; why = inr (refl, s) })

-- ---- looks that are over
-- `down`: whether it may be asked to come down
pub record Refused (down : Type 0) (d : Dictionary) (k r : ℕ) : Type 0 where
  pub row : RowIs d (Quantity k) r
  pub stops : (((line_at d r).constant <ℤ pos 0) × (chosen d (Up r) ≡ Stop)) ⊎ ((pos 0 <ℤ (line_at d r).constant) × (chosen d (Down r) ≡ Stop) × down)

-- it holds, or is refused
abbrev pub HoldsOr : Type 0 → Dictionary → ℕ → Outcome → Type 0
HoldsOr down d k Held = Unit {0}
HoldsOr down d k (Empty r) = Refused down d k r
HoldsOr down d k (Best r) = ⊥
HoldsOr down d k (Ray j up) = ⊥

up_over : (down : Type 0) (d : Dictionary) (k i : ℕ) (o : Outcome) → RowIs d (Quantity k) i → (line_at d i).constant <ℤ pos 0 → by_choice i (chosen d (Up i)) ≡ over o → HoldsOr down d k o
up_over down d k i o w c h = go (chosen d (Up i)) refl h
  where
    go : (x : Choice) → chosen d (Up i) ≡ x → by_choice i x ≡ over o → HoldsOr down d k o
    go Stop q e = let same : Empty i ≡ o = cc in subst (HoldsOr down d k) same (record { row = w; stops = inl (c, q) })
    go (Exchange a b) q e = absurd (cc)
    go (RayChoice j up) q e = absurd (no_ray d (Up i) j up refl w.below q)

down_over : (d : Dictionary) (k i : ℕ) (o : Outcome) → RowIs d (Quantity k) i → pos 0 <ℤ (line_at d i).constant → by_choice i (chosen d (Down i)) ≡ over o → HoldsOr (Unit {0}) d k o
down_over d k i o w c h = go (chosen d (Down i)) refl h
  where
    go : (x : Choice) → chosen d (Down i) ≡ x → by_choice i x ≡ over o → HoldsOr (Unit {0}) d k o
    go Stop q e = let same : Empty i ≡ o = cc in subst (HoldsOr (Unit {0}) d k) same (record { row = w; stops = inr (c, q, tt) })
    go (Exchange a b) q e = absurd (cc)
    go (RayChoice j up) q e = absurd (no_ray d (Down i) j up refl w.below q)

holds : (down : Type 0) (d : Dictionary) (k : ℕ) (o : Outcome) → over Held ≡ over o → HoldsOr down d k o
holds down d k o e = let same : Held ≡ o = cc in subst (HoldsOr down d k) same tt

pub raise_over : (k : ℕ) (d : Dictionary) (o : Outcome) → raise_look k d ≡ over o → HoldsOr ⊥ d k o
raise_over k d o h = go (row_of d (Quantity k)) refl h
  where
    by : (i : ℕ) → RowIs d (Quantity k) i → (c : ℤ) → (line_at d i).constant ≡ c → raise_row d i c ≡ over o → HoldsOr ⊥ d k o
    by i w (pos c) e h = holds ⊥ d k o h
    by i w (negsuc c) e h = up_over ⊥ d k i o w (subst (λ z. z <ℤ pos 0) (sym e) (omega (arith, ints))) h

    go : (p : Option ℕ) → row_of d (Quantity k) ≡ p → raise_place d p ≡ over o → HoldsOr ⊥ d k o
    go None q h = holds ⊥ d k o h
    go (Some i) q h = by i (row_found d (Quantity k) i q) (line_at d i).constant refl h

pub fix_over : (k : ℕ) (d : Dictionary) (o : Outcome) → fix_look k d ≡ over o → HoldsOr (Unit {0}) d k o
fix_over k d o h = go (row_of d (Quantity k)) refl h
  where
    leave : (i : ℕ) (p : Option ℕ) → leave_row i p ≡ over o → HoldsOr (Unit {0}) d k o
    leave i None h = holds (Unit {0}) d k o h
    leave i (Some j) h = absurd (cc)

    by : (i : ℕ) → RowIs d (Quantity k) i → (c : ℤ) → (line_at d i).constant ≡ c → fix_row d i c ≡ over o → HoldsOr (Unit {0}) d k o
    by i w (pos zero) e h = leave i (first_loose d i (length d.columns)) h
    by i w (pos (suc c)) e h = down_over d k i o w (subst (λ z. pos 0 <ℤ z) (sym e) (omega (arith, ints))) h
    by i w (negsuc c) e h = up_over (Unit {0}) d k i o w (subst (λ z. z <ℤ pos 0) (sym e) (omega (arith, ints))) h

    go : (p : Option ℕ) → row_of d (Quantity k) ≡ p → fix_place d p ≡ over o → HoldsOr (Unit {0}) d k o
    go None q h = holds (Unit {0}) d k o h
    go (Some i) q h = by i (row_found d (Quantity k) i q) (line_at d i).constant refl h

-- the objective is least, or falls without end
abbrev pub LeastOr : Dictionary → Outcome → Type 0
LeastOr d Held = ⊥
LeastOr d (Empty r) = ⊥
LeastOr d (Best r) = (r ≡ length d.marks) × (chosen d Least ≡ Stop)
LeastOr d (Ray j up) = chosen d Least ≡ RayChoice j up

pub best_over : (d : Dictionary) (o : Outcome) → best_look d ≡ over o → LeastOr d o
best_over d o h = go (chosen d Least) refl h
  where
    go : (x : Choice) → chosen d Least ≡ x → by_least d x ≡ over o → LeastOr d o
    go Stop q e = let same : Best (length d.marks) ≡ o = cc in subst (LeastOr d) same (refl, q)
    go (Exchange a b) q e = absurd (cc)
    go (RayChoice j up) q e = let same : Ray j up ≡ o = cc in subst (LeastOr d) same q

-- ---- steps that ended
-- where a step ended with an outcome, its look is over with it
abbrev EndsOver : (Dictionary → Look) → Stepped → End → Type 0
EndsOver look s (ended o) = look s.dictionary ≡ over o
EndsOver look s too_wide = Unit {0}
EndsOver look s spent = Unit {0}

ends_over : (look : Dictionary → Look) (n : ℕ) (d : Dictionary) → EndsOver look (repeated look n d) (repeated look n d).end
ends_over look n d = let r = ran look n d in go (repeated look n d).end r.turns (repeated look n d).left r.why
  where
    go : (e : End) (m left : ℕ) → Why look e (repeated look n d).dictionary m left n → EndsOver look (repeated look n d) e
    go (ended o) m left w = w.0
    go too_wide m left w = tt
    go spent m left w = tt

abbrev pub EndSays : (Outcome → Type 0) → End → Type 0
EndSays P (ended o) = P o
EndSays P too_wide = Unit {0}
EndSays P spent = Unit {0}

-- a step that is refused leaves the dictionary without a mark
refused_same : (down : Type 0) (d : Dictionary) (k : ℕ) (m : Mark) (o : Outcome) → HoldsOr down d k o → HoldsOr down (mark_by (ended o) k m d) k o
refused_same down d k m Held h = tt
refused_same down d k m (Empty r) h = h
refused_same down d k m (Best r) h = absurd h
refused_same down d k m (Ray j up) h = absurd h

pub raise_says : (n k : ℕ) (d : Dictionary) → EndSays (HoldsOr ⊥ (raised n k d).dictionary k) (raised n k d).end
raise_says n k d = go (repeated (raise_look k) n d) (repeated (raise_look k) n d).end (ends_over (raise_look k) n d)
  where
    go : (s : Stepped) (e : End) → EndsOver (raise_look k) s e → EndSays (HoldsOr ⊥ (mark_by e k Required s.dictionary) k) e
    go s (ended o) h = refused_same ⊥ s.dictionary k Required o (raise_over k s.dictionary o h)
    go s too_wide h = tt
    go s spent h = tt

pub fix_says : (n k : ℕ) (d : Dictionary) → EndSays (HoldsOr (Unit {0}) (fixed n k d).dictionary k) (fixed n k d).end
fix_says n k d = go (repeated (fix_look k) n d) (repeated (fix_look k) n d).end (ends_over (fix_look k) n d)
  where
    go : (s : Stepped) (e : End) → EndsOver (fix_look k) s e → EndSays (HoldsOr (Unit {0}) (mark_by e k Fixed s.dictionary) k) e
    go s (ended o) h = refused_same (Unit {0}) s.dictionary k Fixed o (fix_over k s.dictionary o h)
    go s too_wide h = tt
    go s spent h = tt

pub best_says : (n : ℕ) (d : Dictionary) → EndSays (LeastOr (bested n d).dictionary) (bested n d).end
best_says n d = go (repeated best_look n d) (repeated best_look n d).end (ends_over best_look n d)
  where
    go : (s : Stepped) (e : End) → EndsOver best_look s e → EndSays (LeastOr s.dictionary) e
    go s (ended o) h = best_over s.dictionary o h
    go s too_wide h = tt
    go s spent h = tt
