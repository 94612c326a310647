-- The laws of the steps.
use Rattle.std.proofs.Common.{◌≡◌, ◌≢◌, ◌↔◌, ℕ, zero, suc, ◌+◌, ◌-◌, ◌<◌, ◌≤◌, ◌⊎◌, inl, inr, ℤ, pos, negsuc, length, get_or, set, Option, Some, None, arith, refl, sym, ap, subst, ◌∙◌}
use Rattle.emp_turns.specs.Loop.{after, then_on}
use Rattle.emp_dict.specs.declared.label.Label.{Label}
use Rattle.emp_dict.specs.declared.label.Label.TheVariants.{Quantity}
use Rattle.emp_dict.specs.declared.label.Mark.{Mark}
use Rattle.emp_dict.specs.declared.label.Mark.TheVariants.{Unasked, Required, Fixed}
use Rattle.emp_dict.specs.declared.label.Aim.TheVariants.{Up, Down}
use Rattle.emp_dict.specs.Dictionary.{Dictionary, IsSound, IsLabel, RowsTrue, line_at, column_label, mark_at, row_of, marked, exchanged}
use Rattle.emp_dict.specs.Chosen.{chosen}
use Rattle.emp_step.specs.declared.outcome.Outcome.{Outcome}
use Rattle.emp_step.specs.declared.outcome.Outcome.TheVariants.{Held, Empty, Best, Ray}
use Rattle.emp_step.specs.Steps.{Look, over, turn, End, ended, too_wide, spent, Stepped, repeated, raise_look, fix_row, fix_place, fix_look, leave_row, first_loose, by_choice, best_look, mark_by, raised, fixed, bested}
use Rattle.emp_step.specs.Levels.{IsLevel}
use Rattle.emp_step.specs.Laws.{IsNumber, HasObjective, LeavesLevel, StepsLeaveLevel, StepsMark, Keeps, StepsKeep, column_sets, TakesFew, StepsTakeFew}
use Rattle.emp_step.proofs.Given.{PivotFits, pivot_sound, pivot_same, marked_sound}
use Rattle.emp_step.proofs.Labels.{RowIs, row_found}
use Rattle.emp_step.proofs.Marks.{quantity_of}
use Rattle.emp_step.proofs.Repeats.{next, by_look, Asked, Why, ran, kept}
use Rattle.emp_step.proofs.Looks.{MovesRow, LeavesRow, raise_turn, fix_turn, by_choice_turn, up_moves, down_moves}
use Rattle.emp_step.proofs.After.{after_is, rows_count, columns_count, column_here}
use Rattle.emp_step.proofs.Kept.{InStep, in_step, level_of}
use Rattle.emp_step.proofs.Turns.{turned_of, raise_keeps, fix_keeps, best_keeps, raise_fits, fix_fits, best_fits, leaving_fits, moving_keeps}
use Rattle.emp_step.proofs.Ends.{marks_kept, raised_is_level, fixed_is_level, raise_there, fix_there, row_level}
use Rattle.emp_step.proofs.Bounds.{moves_few, lowers_few}

-- ---- level
held_not : (o : Outcome) → ended o ≢ ended Held → o ≢ Held
held_not o n e = n (ap ended e)

mark_sound : (e : End) (k : ℕ) (m : Mark) (d : Dictionary) → IsSound d → IsSound (mark_by e k m d)
mark_sound (ended Held) k m d s = marked_sound d k m s
mark_sound (ended (Empty r)) k m d s = s
mark_sound (ended (Best r)) k m d s = s
mark_sound (ended (Ray j up)) k m d s = s
mark_sound too_wide k m d s = s
mark_sound spent k m d s = s

-- where the look says anything but that it holds, the quantity has a row
module _ (look : Dictionary → Look) (k : ℕ) (m : Mark) (x : Dictionary) (s : InStep k x) (held : look x ≡ over Held → IsLevel (marked x k m)) (there : (look x ≡ over Held) ⊎ ((i : ℕ) × RowIs x (Quantity k) i)) where
  other : (l : Look) → look x ≡ l → (l ≡ over Held → ⊥) → IsLevel x
  other l e n = go there
    where
      go : (look x ≡ over Held) ⊎ ((i : ℕ) × RowIs x (Quantity k) i) → IsLevel x
      go (inl h) = absurd (n (sym e ∙ h))
      go (inr w) = row_level k x w.0 s w.1

  level_at : (e : End) (a left n : ℕ) → Why look e x a left n → IsLevel (mark_by e k m x)
  level_at (ended Held) a left n w = held w.0
  level_at (ended (Empty r)) a left n w = other (over (Empty r)) w.0 (λ z. absurd (cc))
  level_at (ended (Best r)) a left n w = other (over (Best r)) w.0 (λ z. absurd (cc))
  level_at (ended (Ray j up)) a left n w = other (over (Ray j up)) w.0 (λ z. absurd (cc))
  level_at too_wide a left n w = other (turn w.0.row w.0.column) w.0.is (λ z. absurd (cc))
  level_at spent a left n w = other (turn w.0.row w.0.column) w.0.is (λ z. absurd (cc))

mark_then : (k : ℕ) (d x : Dictionary) → x.marks ≡ d.marks → mark_at x k ≡ mark_at d k
mark_then k d x e = ap (λ ms. get_or ms (k - 1) Unasked) e

pub raise_level : (n k : ℕ) (d : Dictionary) → IsSound d → IsLevel d → IsNumber d k → mark_at d k ≡ Unasked → LeavesLevel (raised n k d)
raise_level n k d s l b u =
    let t = ran (raise_look k) n d in
    let x : Dictionary = (repeated (raise_look k) n d).dictionary in
    let p : InStep k x = kept (InStep k) (raise_look k) (raise_keeps k) t.turns d x (in_step k d s l) t.path in
    let m : x.marks ≡ d.marks = marks_kept (raise_look k) t.turns d x t.path in (
      mark_sound (repeated (raise_look k) n d).end k Required x p.sound,
      level_at (raise_look k) k Required x p (raised_is_level k x p b.0 (subst (λ ms. k ≤ length ms) (sym m) b.1) (λ z. let q : Unasked ≡ Fixed = sym u ∙ (sym (mark_then k d x m) ∙ z) in absurd (cc))) (raise_there k x) (repeated (raise_look k) n d).end t.turns (repeated (raise_look k) n d).left n t.why,
    )

pub fix_level : (n k : ℕ) (d : Dictionary) → IsSound d → IsLevel d → IsNumber d k → mark_at d k ≢ Fixed → LeavesLevel (fixed n k d)
fix_level n k d s l b u =
    let t = ran (fix_look k) n d in
    let x : Dictionary = (repeated (fix_look k) n d).dictionary in
    let p : InStep k x = kept (InStep k) (fix_look k) (fix_keeps k) t.turns d x (in_step k d s l) t.path in
    let m : x.marks ≡ d.marks = marks_kept (fix_look k) t.turns d x t.path in (
      mark_sound (repeated (fix_look k) n d).end k Fixed x p.sound,
      level_at (fix_look k) k Fixed x p (fixed_is_level k x p b.0 (subst (λ ms. k ≤ length ms) (sym m) b.1) (λ z. u (sym (mark_then k d x m) ∙ z))) (fix_there k x) (repeated (fix_look k) n d).end t.turns (repeated (fix_look k) n d).left n t.why,
    )

-- while the objective is made least
record Lowering (d : Dictionary) : Type 0 where
  pub step : InStep 0 d
  pub there : HasObjective d

lowering_keeps : (d e : Dictionary) → Lowering d → next best_look d ≡ Some e → Lowering e
lowering_keeps d e l n =
    let t = turned_of best_look d e n in
    let a = after_is d e t.row t.column t.made in
    record { step = best_keeps 0 d e l.step l.there n; there = let b = l.there in let r = rows_count d e t.row t.column a in let m = ap length a.marks in omega arith }

no_quantity_zero : (d : Dictionary) → IsSound d → (j : ℕ) → j < length d.columns → column_label d j ≢ Quantity 0
no_quantity_zero d s j b e =
    let q = quantity_of (length d.columns) (length d.marks) (length d.rows) 0 (subst (λ w. IsLabel (length d.columns) (length d.marks) (length d.rows) w) e (s.column_labels j b)) in
    let z = q.0 in
    absurd (omega arith)

lowering : (n : ℕ) (d : Dictionary) → IsSound d → IsLevel d → HasObjective d → Lowering (bested n d).dictionary
lowering n d s l h = let t = ran best_look n d in kept Lowering best_look lowering_keeps t.turns d (bested n d).dictionary (record { step = in_step 0 d s l; there = h }) t.path

pub best_level : (n : ℕ) (d : Dictionary) → IsSound d → IsLevel d → HasObjective d → LeavesLevel (bested n d)
best_level n d s l h = let p = lowering n d s l h in (p.step.sound, level_of 0 (bested n d).dictionary p.step (no_quantity_zero (bested n d).dictionary p.step.sound))

-- ---- marks
by_marks : (e : End) (k : ℕ) (m : Mark) (x d : Dictionary) → x.marks ≡ d.marks → (mark_by e k m x).marks ≡ (mark_by e k m d).marks
by_marks (ended Held) k m x d e = ap (λ ms. set ms (k - 1) m) e
by_marks (ended (Empty r)) k m x d e = e
by_marks (ended (Best r)) k m x d e = e
by_marks (ended (Ray j up)) k m x d e = e
by_marks too_wide k m x d e = e
by_marks spent k m x d e = e

step_marks : (look : Dictionary → Look) (n k : ℕ) (m : Mark) (d : Dictionary) → (mark_by (repeated look n d).end k m (repeated look n d).dictionary).marks ≡ (mark_by (repeated look n d).end k m d).marks
step_marks look n k m d = let t = ran look n d in by_marks (repeated look n d).end k m (repeated look n d).dictionary d (marks_kept look t.turns d (repeated look n d).dictionary t.path)

pub steps_mark : StepsMark
steps_mark = record {
  raise = λ n k d. step_marks (raise_look k) n k Required d;
  fix = λ n k d. step_marks (fix_look k) n k Fixed d;
  best = λ n d. let t = ran best_look n d in marks_kept best_look t.turns d (bested n d).dictionary t.path;
}

-- ---- solutions
record Like (k : ℕ) (d x : Dictionary) : Type 0 where
  pub step : InStep k x
  pub rows : length x.rows ≡ length d.rows
  pub columns : length x.columns ≡ length d.columns
  pub solutions : (c : ℤ) (f : Label → ℤ) → RowsTrue d c f ↔ RowsTrue x c f

like_more : (k : ℕ) (d x y : Dictionary) (r j : ℕ) → Like k d x → PivotFits x r j → exchanged x r j ≡ Some y → InStep k y → Like k d y
like_more k d x y r j l f e s = record {
  step = s;
  rows = rows_count x y r j (after_is x y r j e) ∙ l.rows;
  columns = columns_count x y r j (after_is x y r j e) ∙ l.columns;
  solutions = λ c g. let p = pivot_same x y r j l.step.sound f e c g in let q = l.solutions c g in (λ h. p.0 (q.0 h), λ h. q.1 (p.1 h));
}

like_start : (k : ℕ) (d : Dictionary) → IsSound d → IsLevel d → Like k d d
like_start k d s l = record { step = in_step k d s l; rows = refl; columns = refl; solutions = λ c f. (λ h. h, λ h. h) }

mark_keeps : (e : End) (k : ℕ) (m : Mark) (d x : Dictionary) (left : ℕ) → Like k d x → Keeps d (record { end = e; dictionary = mark_by e k m x; left = left })
mark_keeps (ended Held) k m d x left l = record { rows = l.rows; columns = l.columns; solutions = l.solutions }
mark_keeps (ended (Empty r)) k m d x left l = record { rows = l.rows; columns = l.columns; solutions = l.solutions }
mark_keeps (ended (Best r)) k m d x left l = record { rows = l.rows; columns = l.columns; solutions = l.solutions }
mark_keeps (ended (Ray j up)) k m d x left l = record { rows = l.rows; columns = l.columns; solutions = l.solutions }
mark_keeps too_wide k m d x left l = record { rows = l.rows; columns = l.columns; solutions = l.solutions }
mark_keeps spent k m d x left l = record { rows = l.rows; columns = l.columns; solutions = l.solutions }

pub raise_keeps_all : (n k : ℕ) (d : Dictionary) → IsSound d → IsLevel d → Keeps d (raised n k d)
raise_keeps_all n k d s l =
    let t = ran (raise_look k) n d in
    mark_keeps (repeated (raise_look k) n d).end k Required d (repeated (raise_look k) n d).dictionary (repeated (raise_look k) n d).left
    (kept (Like k d) (raise_look k) (λ x y h q. let v = turned_of (raise_look k) x y q in like_more k d x y v.row v.column h (raise_fits k x v.row v.column h.step.sound v.is) v.made (raise_keeps k x y h.step q)) t.turns d (repeated (raise_look k) n d).dictionary (like_start k d s l) t.path)

pub fix_keeps_all : (n k : ℕ) (d : Dictionary) → IsSound d → IsLevel d → Keeps d (fixed n k d)
fix_keeps_all n k d s l =
    let t = ran (fix_look k) n d in
    mark_keeps (repeated (fix_look k) n d).end k Fixed d (repeated (fix_look k) n d).dictionary (repeated (fix_look k) n d).left
    (kept (Like k d) (fix_look k) (λ x y h q. let v = turned_of (fix_look k) x y q in like_more k d x y v.row v.column h (fix_fits k x v.row v.column h.step.sound v.is) v.made (fix_keeps k x y h.step q)) t.turns d (repeated (fix_look k) n d).dictionary (like_start k d s l) t.path)

record LikeLowering (d x : Dictionary) : Type 0 where
  pub like : Like 0 d x
  pub there : HasObjective x

pub best_keeps_all : (n : ℕ) (d : Dictionary) → IsSound d → IsLevel d → HasObjective d → Keeps d (bested n d)
best_keeps_all n d s l h =
    let t = ran best_look n d in
    let k = kept (LikeLowering d) best_look more t.turns d (bested n d).dictionary (record { like = like_start 0 d s l; there = h }) t.path in
    record { rows = k.like.rows; columns = k.like.columns; solutions = k.like.solutions }
  where
    more : (x y : Dictionary) → LikeLowering d x → next best_look x ≡ Some y → LikeLowering d y
    more x y g q =
        let v = turned_of best_look x y q in
        record {
          like = like_more 0 d x y v.row v.column g.like (best_fits x v.row v.column g.like.step.sound g.there v.is) v.made (best_keeps 0 x y g.like.step g.there q);
          there = (lowering_keeps x y (record { step = g.like.step; there = g.there }) q).there;
        }

-- ---- units
takes : (look : Dictionary → Look) (b n : ℕ) (d : Dictionary) → ((m : ℕ) (e : Dictionary) → after (next look) m d ≡ Some e → m ≤ b) → ((m : ℕ) (e : Dictionary) → after (next look) m d ≡ Some e → Asked look e → m < b) → ((repeated look n d).left ≤ n) × (n ≤ (repeated look n d).left + b) × (b ≤ n → (repeated look n d).end ≢ spent)
takes look b n d few asked = let t = ran look n d in go (repeated look n d) t.turns t.path t.why
  where
    by : (e : End) (x : Dictionary) (m left : ℕ) → after (next look) m d ≡ Some x → Why look e x m left n → (left ≤ n) × (n ≤ left + b) × (b ≤ n → e ≢ spent)
    by (ended o) x m left p w = let f = few m x p in let c = w.1 in (omega arith, omega arith, λ h z. absurd (cc))
    by too_wide x m left p w = let f = asked m x p w.0 in let c = w.2 in (omega arith, omega arith, λ h z. absurd (cc))
    by spent x m left p w = let f = asked m x p w.0 in let c = w.2 in let z = w.1 in (omega arith, omega arith, λ h y. absurd (omega arith))

    go : (s : Stepped) (m : ℕ) → after (next look) m d ≡ Some s.dictionary → Why look s.end s.dictionary m s.left n → (s.left ≤ n) × (n ≤ s.left + b) × (b ≤ n → s.end ≢ spent)
    go s m p w = by s.end s.dictionary m s.left p w

pub raise_few : (n k : ℕ) (d : Dictionary) → IsSound d → IsLevel d → TakesFew n d (raised n k d)
raise_few n k d s l =
    let f = λ (m : ℕ) (e : Dictionary) (h : after (next (raise_look k)) m d ≡ Some e). moves_few k (raise_look k) (raise_turn k) m d e (in_step k d s l) h in
    let t = takes (raise_look k) (column_sets d) n d (λ m e h. let p = f m e h in omega arith) (λ m e h a. f m e h) in
    record { left = t.0; few = t.1; ends = t.2 }

pub best_few : (n : ℕ) (d : Dictionary) → IsSound d → IsLevel d → HasObjective d → TakesFew n d (bested n d)
best_few n d s l there =
    let f = λ (m : ℕ) (e : Dictionary) (h : after (next best_look) m d ≡ Some e). lowers_few m d e (in_step 0 d s l) there h in
    let t = takes best_look (column_sets d) n d (λ m e h. let p = f m e h in omega arith) (λ m e h a. f m e h) in
    record { left = t.0; few = t.1; ends = t.2 }

-- the turns of `fix` that move the row, without the last pivot at the value 0
abbrev move_row : Dictionary → ℕ → ℤ → Look
move_row d r (pos zero) = over Held
move_row d r (pos (suc c)) = by_choice r (chosen d (Down r))
move_row d r (negsuc c) = by_choice r (chosen d (Up r))

abbrev move_place : Dictionary → Option ℕ → Look
move_place d None = over Held
move_place d (Some r) = move_row d r (line_at d r).constant

abbrev move_look : ℕ → Dictionary → Look
move_look k d = move_place d (row_of d (Quantity k))

-- each turn of `fix` moves the row, or takes it away at the value 0
fix_or_move : (k : ℕ) (d : Dictionary) (r j : ℕ) → fix_look k d ≡ turn r j → (move_look k d ≡ turn r j) ⊎ LeavesRow k d r j
fix_or_move k d r j h = go (row_of d (Quantity k)) refl h (fix_turn k d r j h)
  where
    leave : (i : ℕ) → RowIs d (Quantity k) i → (line_at d i).constant ≡ pos 0 → (o : Option ℕ) → first_loose d i (length d.columns) ≡ o → leave_row i o ≡ turn r j → LeavesRow k d r j
    leave i row e None q h = absurd (cc)
    leave i row e (Some l) q h = let same : i ≡ r = cc in let column : l ≡ j = cc in record { row = subst (λ x. RowIs d (Quantity k) x) same row; zero_there = subst (λ x. (line_at d x).constant ≡ pos 0) same e; loose = subst (λ x. first_loose d x (length d.columns) ≡ Some j) same (q ∙ ap Some column) }

    by : (i : ℕ) → RowIs d (Quantity k) i → (c : ℤ) → (line_at d i).constant ≡ c → fix_row d i c ≡ turn r j → (move_row d i c ≡ turn r j) ⊎ LeavesRow k d r j
    by i row (pos zero) e h = inr (leave i row e (first_loose d i (length d.columns)) refl h)
    by i row (pos (suc c)) e h = inl h
    by i row (negsuc c) e h = inl h

    go : (o : Option ℕ) → row_of d (Quantity k) ≡ o → fix_place d o ≡ turn r j → MovesRow k d r j ⊎ LeavesRow k d r j → (move_place d o ≡ turn r j) ⊎ LeavesRow k d r j
    go None q h m = absurd (cc)
    go (Some i) q h m = by i (row_found d (Quantity k) i q) (line_at d i).constant refl h

move_turn : (k : ℕ) (d : Dictionary) (r j : ℕ) → move_look k d ≡ turn r j → MovesRow k d r j
move_turn k d r j h = go (row_of d (Quantity k)) refl h
  where
    by : (i : ℕ) → RowIs d (Quantity k) i → (c : ℤ) → (line_at d i).constant ≡ c → move_row d i c ≡ turn r j → MovesRow k d r j
    by i row (pos zero) e h = absurd (cc)
    by i row (pos (suc c)) e h = down_moves k d i r j c row e (by_choice_turn i (chosen d (Down i)) r j h)
    by i row (negsuc c) e h = up_moves k d i r j c row e (by_choice_turn i (chosen d (Up i)) r j h)

    go : (o : Option ℕ) → row_of d (Quantity k) ≡ o → move_place d o ≡ turn r j → MovesRow k d r j
    go None q h = absurd (cc)
    go (Some i) q h = by i (row_found d (Quantity k) i q) (line_at d i).constant refl h

move_keeps : (k : ℕ) (d e : Dictionary) → InStep k d → next (move_look k) d ≡ Some e → InStep k e
move_keeps k d e s h = let t = turned_of (move_look k) d e h in let m = move_turn k d t.row t.column t.is in moving_keeps k d e m.aim t.row t.column s m.moving (λ q. m.label) t.made

-- quantity k has a column
pub record Gone (k : ℕ) (d : Dictionary) : Type 0 where
  pub column : ℕ
  pub below : column < length d.columns
  pub label : column_label d column ≡ Quantity k

gone_none : (k : ℕ) (d : Dictionary) → IsSound d → Gone k d → row_of d (Quantity k) ≡ None
gone_none k d s g = go (row_of d (Quantity k)) refl
  where
    go : (o : Option ℕ) → row_of d (Quantity k) ≡ o → row_of d (Quantity k) ≡ None
    go None q = q
    go (Some i) q = let w = row_found d (Quantity k) i q in absurd (s.apart i g.column w.below g.below (w.label ∙ sym g.label))

-- the turns of `fix` move the row, or the last of them takes it away
record TakesAway (k m : ℕ) (d x : Dictionary) : Type 0 where
  pub before : ℕ
  pub count : m ≡ suc before
  pub at : Dictionary
  pub path : after (next (move_look k)) before d ≡ Some at
  pub sound : IsSound x
  pub gone : Gone k x

fix_path : (k m : ℕ) (d x : Dictionary) → InStep k d → after (next (fix_look k)) m d ≡ Some x → (after (next (move_look k)) m d ≡ Some x) ⊎ TakesAway k m d x
fix_path k zero d x s h = inl h
fix_path k (suc m) d x s h = go (next (fix_look k) d) refl h (λ f t q. fix_path k m f x t q)
  where
    first : (f : Dictionary) → next (move_look k) d ≡ Some f → (after (next (move_look k)) m f ≡ Some x) ⊎ TakesAway k m f x → (after (next (move_look k)) (suc m) d ≡ Some x) ⊎ TakesAway k (suc m) d x
    first f q (inl p) = inl (ap (then_on (after (next (move_look k)) m)) q ∙ p)
    first f q (inr l) = inr (record { before = suc l.before; count = ap suc l.count; at = l.at; path = ap (then_on (after (next (move_look k)) l.before)) q ∙ l.path; sound = l.sound; gone = l.gone })

    last : (f : Dictionary) → IsSound f → Gone k f → (n : ℕ) → after (next (fix_look k)) n f ≡ Some x → (n ≡ 0) × (f ≡ x)
    last f t g zero p = (refl, cc)
    last f t g (suc n) p = let z : then_on (after (next (fix_look k)) n) None ≡ Some x = sym (ap (λ o. then_on (after (next (fix_look k)) n) (by_look f (fix_place f o))) (gone_none k f t g)) ∙ p in absurd (cc)

    away : (f : Dictionary) (r j : ℕ) → LeavesRow k d r j → exchanged d r j ≡ Some f → after (next (fix_look k)) m f ≡ Some x → TakesAway k (suc m) d x
    away f r j l e p =
        let c = leaving_fits k d r j l in
        let a = after_is d f r j e in
        let t : IsSound f = pivot_sound d f r j s.sound c e in
        let g : Gone k f = record { column = j; below = subst (λ n. j < n) (sym (columns_count d f r j a)) c.column; label = column_here d f r j a c.column ∙ l.row.label } in
        let z = last f t g m p in
        record { before = 0; count = ap suc z.0; at = d; path = refl; sound = subst IsSound z.1 t; gone = subst (Gone k) z.1 g }

    by : (f : Dictionary) (r j : ℕ) → exchanged d r j ≡ Some f → (move_look k d ≡ turn r j) ⊎ LeavesRow k d r j → after (next (fix_look k)) m f ≡ Some x → (InStep k f → after (next (fix_look k)) m f ≡ Some x → (after (next (move_look k)) m f ≡ Some x) ⊎ TakesAway k m f x) → (after (next (move_look k)) (suc m) d ≡ Some x) ⊎ TakesAway k (suc m) d x
    by f r j e (inl v) p rest = let q : next (move_look k) d ≡ Some f = ap (by_look d) v ∙ e in first f q (rest (move_keeps k d f s q) p)
    by f r j e (inr l) p rest = inr (away f r j l e p)

    go : (o : Option Dictionary) → next (fix_look k) d ≡ o → then_on (after (next (fix_look k)) m) o ≡ Some x → ((f : Dictionary) → InStep k f → after (next (fix_look k)) m f ≡ Some x → (after (next (move_look k)) m f ≡ Some x) ⊎ TakesAway k m f x) → (after (next (move_look k)) (suc m) d ≡ Some x) ⊎ TakesAway k (suc m) d x
    go None q p rest = absurd (cc)
    go (Some f) q p rest = let t = turned_of (fix_look k) d f q in by f t.row t.column t.made (fix_or_move k d t.row t.column t.is) p (λ u v. rest f u v)

fix_turns : (k m : ℕ) (d x : Dictionary) → IsSound d → IsLevel d → after (next (fix_look k)) m d ≡ Some x → (m ≤ column_sets d) × (Asked (fix_look k) x → m < column_sets d)
fix_turns k m d x s l h = go (fix_path k m d x (in_step k d s l) h)
  where
    go : (after (next (move_look k)) m d ≡ Some x) ⊎ TakesAway k m d x → (m ≤ column_sets d) × (Asked (fix_look k) x → m < column_sets d)
    go (inl p) = let f = moves_few k (move_look k) (move_turn k) m d x (in_step k d s l) p in (omega arith, λ a. f)
    go (inr t) =
        let f = moves_few k (move_look k) (move_turn k) t.before d t.at (in_step k d s l) t.path in
        let c = t.count in
        (omega arith, λ a. let z : over Held ≡ turn a.row a.column = sym (ap (fix_place x) (gone_none k x t.sound t.gone)) ∙ a.is in absurd (cc))

pub fix_few : (n k : ℕ) (d : Dictionary) → IsSound d → IsLevel d → TakesFew n d (fixed n k d)
fix_few n k d s l =
    let t = takes (fix_look k) (column_sets d) n d (λ m e h. (fix_turns k m d e s l h).0) (λ m e h a. (fix_turns k m d e s l h).1 a) in
    record { left = t.0; few = t.1; ends = t.2 }

-- ---- the laws
pub steps_leave_level : StepsLeaveLevel
steps_leave_level = record { raise = raise_level; fix = fix_level; best = best_level }

pub steps_keep : StepsKeep
steps_keep = record { raise = raise_keeps_all; fix = fix_keeps_all; best = best_keeps_all }

pub steps_take_few : StepsTakeFew
steps_take_few = record { raise = raise_few; fix = fix_few; best = best_few }
