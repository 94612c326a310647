-- How many turns a step takes.
use Rattle.std.proofs.Common.{◌≡◌, ℕ, zero, suc, ◌+◌, ◌^◌, ◌<◌, ℤ, pos, ◌*ℤ◌, ◌≤ℤ◌, ◌<ℤ◌, Bool, true, false, length, Option, Some, None, arith, refl, sym, ap, ap₂, subst, ◌∙◌}
use Rattle.std.proofs.lemmas.Int.{ints}
use Rattle.emp_turns.specs.Choice.{Way, toward, Aim as TurnAim, IsLevel as IsTurnLevel, Step}
use Rattle.emp_turns.specs.Choice.{Up as upward, Down as downward}
use Rattle.emp_turns.specs.Loop.{after, then_on}
use Rattle.emp_turns.specs.Table.{Table}
use Rattle.emp_turns.specs.Layout.{table_of}
use Rattle.emp_turns.proofs.Layouts.{row_is, constant_is}
use Rattle.emp_turns.proofs.Loops as TurnLoops
use Rattle.emp_dict.specs.declared.label.Label.{Label}
use Rattle.emp_dict.specs.declared.label.Label.TheVariants.{Quantity, Objective}
use Rattle.emp_dict.specs.declared.label.Aim.TheVariants.{Least}
use Rattle.emp_dict.specs.Dictionary.{Dictionary, IsSound, line_at, row_label, exchanged}
use Rattle.emp_dict.specs.Chosen.{labels, index, layout_of, index_in, mark_by_index, turn_aim, aimed_row, aimed_way, aim_stops}
use Rattle.emp_step.specs.Steps.{Look, turn, best_look}
use Rattle.emp_step.proofs.Given.{layout_sound, pivot_sound}
use Rattle.emp_step.proofs.Labels.{RowIs}
use Rattle.emp_step.proofs.Repeats.{next}
use Rattle.emp_step.proofs.Looks.{Moving, moving_fits, MovesRow, best_turn}
use Rattle.emp_step.proofs.After.{After, after_is, rows_count, columns_count}
use Rattle.emp_step.proofs.Kept.{InStep, turn_step, turn_level, marks_are}
use Rattle.emp_step.proofs.Turns.{turned_of, turned_level, moving_keeps}

-- labels are counted as at the start
pub record Framed (d₀ d : Dictionary) : Type 0 where
  pub rows : length d.rows ≡ length d₀.rows
  pub columns : length d.columns ≡ length d₀.columns
  pub marks : d.marks ≡ d₀.marks

pub framed : (d : Dictionary) → Framed d d
framed d = record { rows = refl; columns = refl; marks = refl }

pub framed_more : (d₀ d e : Dictionary) (r j : ℕ) → Framed d₀ d → After d e r j → Framed d₀ e
framed_more d₀ d e r j f a = record { rows = rows_count d e r j a ∙ f.rows; columns = columns_count d e r j a ∙ f.columns; marks = a.marks ∙ f.marks }

index_same : (d₀ d : Dictionary) → Framed d₀ d → (w : Label) → index_in d w ≡ index_in d₀ w
index_same d₀ d f w = ap₂ (λ n ms. index n (length ms) w) f.columns f.marks

labels_same : (d₀ d : Dictionary) → Framed d₀ d → labels d ≡ labels d₀
labels_same d₀ d f = ap₂ (λ m n. m + n) f.rows f.columns

marks_same : (d₀ d : Dictionary) → Framed d₀ d → mark_by_index d ≡ mark_by_index d₀
marks_same d₀ d f = marks_are d₀ d f.columns f.marks

aim_same : (r s : ℕ) (g h : Way) (b c : Bool) → r ≡ s → g ≡ h → b ≡ c → ◌≡◌ {A = TurnAim} (record { row = r; way = g; stops = b }) (record { row = s; way = h; stops = c })
aim_same r s g h b c p q t = cc

-- a turn from a dictionary is one in the frame of the first
step_same : (d₀ d : Dictionary) → Framed d₀ d → (a b : TurnAim) (t u : Table) → a ≡ b → Step (labels d) (mark_by_index d) a t u → Step (labels d₀) (mark_by_index d₀) b t u
step_same d₀ d f a b t u e s =
    subst (λ n. Step n (mark_by_index d₀) b t u) (labels_same d₀ d f) (subst (λ m. Step (labels d) m b t u) (marks_same d₀ d f) (subst (λ x. Step (labels d) (mark_by_index d) x t u) e s))

same_way : (g h : Way) (c : ℤ) → (toward g *ℤ c) <ℤ pos 0 → (toward h *ℤ c) ≤ℤ pos 0 → g ≡ h
same_way upward upward c p q = refl
same_way upward downward c p q = absurd (omega (arith, ints))
same_way downward upward c p q = absurd (omega (arith, ints))
same_way downward downward c p q = refl

power_pos : (n : ℕ) → 0 < 2 ^ n
power_pos zero = omega arith
power_pos (suc n) = let h = power_pos n in omega arith

-- ---- steps that move the row of one quantity towards 0
module _ (k : ℕ) (look : Dictionary → Look) (moves : (d : Dictionary) (r j : ℕ) → look d ≡ turn r j → MovesRow k d r j) where
  record Frame (d₀ : Dictionary) (g : Way) (d : Dictionary) : Type 0 where
    pub step : InStep k d
    pub frame : Framed d₀ d
    pub past : (i : ℕ) → RowIs d (Quantity k) i → (toward g *ℤ (line_at d i).constant) ≤ℤ pos 0

  abbrev aim_of : Dictionary → Way → TurnAim
  aim_of d₀ g = record { row = index_in d₀ (Quantity k); way = g; stops = true }

  -- the row that is aimed at has the quantity, so the way is that of the start
  way_is : (d₀ d : Dictionary) (g : Way) (r j : ℕ) → Frame d₀ g d → (m : MovesRow k d r j) → aimed_way m.aim ≡ g
  way_is d₀ d g r j f m = same_way (aimed_way m.aim) g (line_at d (aimed_row d m.aim)).constant (m.moving.behind m.stops) (f.past (aimed_row d m.aim) (record { below = m.moving.aimed; label = m.label }))

  aim_is : (d₀ d : Dictionary) (g : Way) (r j : ℕ) → Frame d₀ g d → (m : MovesRow k d r j) → turn_aim d m.aim ≡ aim_of d₀ g
  aim_is d₀ d g r j f m =
      aim_same (index_in d (row_label d (aimed_row d m.aim))) (index_in d₀ (Quantity k)) (aimed_way m.aim) g (aim_stops m.aim) true (ap (index_in d) m.label ∙ index_same d₀ d f.frame (Quantity k)) (way_is d₀ d g r j f m) m.stops

  frame_next : (d₀ d e : Dictionary) (g : Way) (r j : ℕ) → Frame d₀ g d → MovesRow k d r j → exchanged d r j ≡ Some e → Frame d₀ g e
  frame_next d₀ d e g r j f m x = record {
    step = moving_keeps k d e m.aim r j f.step m.moving (λ q. m.label) x;
    frame = fe;
    past = past;
  }
    where
      fe : Framed d₀ e
      fe = framed_more d₀ d e r j f.frame (after_is d e r j x)

      se : IsSound e
      se = pivot_sound d e r j f.step.sound (moving_fits d m.aim r j f.step.sound m.moving) x

      past : (i : ℕ) → RowIs e (Quantity k) i → (toward g *ℤ (line_at e i).constant) ≤ℤ pos 0
      past i w =
          let l = turned_level k d e m.aim r j f.step m.moving (λ q. m.label) x in
          let v : index_in e (row_label e i) ≡ (turn_aim d m.aim).row = ap (index_in e) w.label ∙ (index_same d₀ e fe (Quantity k) ∙ (sym (index_same d₀ d f.frame (Quantity k)) ∙ sym (ap (index_in d) m.label))) in
          let p = l.1 (ap (λ n. (table_of (layout_of e)).is_row n) (sym v) ∙ row_is (labels e) (layout_of e) (layout_sound e se) i w.below) m.stops in
          let c : (table_of (layout_of e)).constant (turn_aim d m.aim).row ≡ (line_at e i).constant = ap (λ n. (table_of (layout_of e)).constant n) (sym v) ∙ constant_is (labels e) (layout_of e) (layout_sound e se) i w.below in
          subst (λ z. (toward g *ℤ z) ≤ℤ pos 0) c (subst (λ h. (toward h *ℤ (table_of (layout_of e)).constant (turn_aim d m.aim).row) ≤ℤ pos 0) (way_is d₀ d g r j f m) p)

  turn_next : (d₀ : Dictionary) (g : Way) (d e : Dictionary) → Frame d₀ g d → next look d ≡ Some e → Frame d₀ g e × Step (labels d₀) (mark_by_index d₀) (aim_of d₀ g) (table_of (layout_of d)) (table_of (layout_of e))
  turn_next d₀ g d e f h =
      let t = turned_of look d e h in
      let m = moves d t.row t.column t.is in
      (frame_next d₀ d e g t.row t.column f m t.made, step_same d₀ d f.frame (turn_aim d m.aim) (aim_of d₀ g) (table_of (layout_of d)) (table_of (layout_of e)) (aim_is d₀ d g t.row t.column f m) (turn_step d m.aim t.row t.column f.step.sound m.moving e t.made))

  start_frame : (d : Dictionary) (r j : ℕ) → InStep k d → (m : MovesRow k d r j) → Frame d (aimed_way m.aim) d
  start_frame d r j s m = record { step = s; frame = framed d; past = past }
    where
      past : (i : ℕ) → RowIs d (Quantity k) i → (toward (aimed_way m.aim) *ℤ (line_at d i).constant) ≤ℤ pos 0
      past i w =
          let same : i ≡ aimed_row d m.aim = s.sound.rows_once i (aimed_row d m.aim) w.below m.moving.aimed (w.label ∙ sym m.label) in
          let b = m.moving.behind m.stops in
          subst (λ h. (toward (aimed_way m.aim) *ℤ (line_at d h).constant) ≤ℤ pos 0) (sym same) (omega (arith, ints))

  start_level : (d : Dictionary) (r j : ℕ) → InStep k d → (m : MovesRow k d r j) → IsTurnLevel (labels d) (length d.columns + length d.marks) (mark_by_index d) (aim_of d (aimed_way m.aim)) (table_of (layout_of d))
  start_level d r j s m =
      subst (λ a. IsTurnLevel (labels d) (length d.columns + length d.marks) (mark_by_index d) a (table_of (layout_of d))) (aim_is d d (aimed_way m.aim) r j (start_frame d r j s m) m) (turn_level d s.sound s.required m.aim m.moving.aimed m.moving.own)

  -- fewer turns than sets of columns
  pub moves_few : (m : ℕ) (d e : Dictionary) → InStep k d → after (next look) m d ≡ Some e → m < 2 ^ (length d.columns + length d.marks)
  moves_few m d e s h = go m h (next look d) refl
    where
      by : (f : Dictionary) → next look d ≡ Some f → (m : ℕ) → after (next look) m d ≡ Some e → m < 2 ^ (length d.columns + length d.marks)
      by f q m h =
          let t = turned_of look d f q in
          let v = moves d t.row t.column t.is in
          TurnLoops.turns_few Dictionary (next look) (λ x. table_of (layout_of x)) (Frame d (aimed_way v.aim)) (labels d) (length d.columns + length d.marks) (mark_by_index d) (aim_of d (aimed_way v.aim)) (turn_next d (aimed_way v.aim)) m d e (start_frame d t.row t.column s v) (start_level d t.row t.column s v) h

      go : (m : ℕ) → after (next look) m d ≡ Some e → (o : Option Dictionary) → next look d ≡ o → m < 2 ^ (length d.columns + length d.marks)
      go m h (Some f) q = by f q m h
      go zero h None q = power_pos (length d.columns + length d.marks)
      go (suc m) h None q = absurd (let z : then_on (after (next look) m) None ≡ Some e = sym (ap (then_on (after (next look) m)) q) ∙ h in cc)

-- ---- the objective
record Lowers (d₀ d : Dictionary) : Type 0 where
  pub step : InStep 0 d
  pub frame : Framed d₀ d
  pub there : length d.marks < length d.rows

lowers_aim : (d₀ d : Dictionary) → Lowers d₀ d → IsSound d₀ → length d₀.marks < length d₀.rows → turn_aim d Least ≡ turn_aim d₀ Least
lowers_aim d₀ d l s h =
    aim_same (index_in d (row_label d (length d.marks))) (index_in d₀ (row_label d₀ (length d₀.marks))) downward downward false false (ap (index_in d) (l.step.sound.objective l.there) ∙ (index_same d₀ d l.frame Objective ∙ sym (ap (index_in d₀) (s.objective h)))) refl refl

lowers_next : (d₀ : Dictionary) → IsSound d₀ → length d₀.marks < length d₀.rows → (d e : Dictionary) → Lowers d₀ d → next best_look d ≡ Some e → Lowers d₀ e × Step (labels d₀) (mark_by_index d₀) (turn_aim d₀ Least) (table_of (layout_of d)) (table_of (layout_of e))
lowers_next d₀ s h d e l n =
    let t = turned_of best_look d e n in
    let m : Moving d Least t.row t.column = best_turn d t.row t.column l.there t.is in
    let f : Framed d₀ e = framed_more d₀ d e t.row t.column l.frame (after_is d e t.row t.column t.made) in (
      record { step = moving_keeps 0 d e Least t.row t.column l.step m (λ q. absurd (cc)) t.made; frame = f; there = let b = l.there in let r = f.rows in let k = l.frame.rows in let a = ap length f.marks in let c = ap length l.frame.marks in omega arith },
      step_same d₀ d l.frame (turn_aim d Least) (turn_aim d₀ Least) (table_of (layout_of d)) (table_of (layout_of e)) (lowers_aim d₀ d l s h) (turn_step d Least t.row t.column l.step.sound m e t.made),
    )

pub lowers_few : (m : ℕ) (d e : Dictionary) → InStep 0 d → length d.marks < length d.rows → after (next best_look) m d ≡ Some e → m < 2 ^ (length d.columns + length d.marks)
lowers_few m d e s there h =
    TurnLoops.turns_few Dictionary (next best_look) (λ x. table_of (layout_of x)) (Lowers d) (labels d) (length d.columns + length d.marks) (mark_by_index d) (turn_aim d Least) (lowers_next d s.sound there) m d e (record { step = s; frame = framed d; there = there }) (turn_level d s.sound s.required Least there (λ q. absurd (cc))) h
