-- What is settled at a node is 0 on the face of the node's path.
use Rattle.std.proofs.Common.{◌≡◌, ◌≢◌, ℕ, zero, suc, ◌-◌, ◌<◌, ◌≤◌, ◌⊎◌, inl, inr, ℤ, pos, ◌+ℤ◌, ◌*ℤ◌, Bool, true, false, ◌||◌, ◌&&◌, not, List, [], ◌∷◌, length, map, get_or, Option, Some, None, arith, refl, sym, ap, ap₂, subst, ◌∙◌}
use Rattle.std.proofs.lemmas.Bool.{and_cases, or_cases, or_parts, and_parts, not-false, not-true}
use lib.IntN.{zero-*ℤ, *ℤ-zero, *ℤ_comm}
use Rattle.emp_algebra.proofs.Order.{cancel_right}
use Rattle.emp_algebra.specs.Vector.{dot, is_zero}
use Rattle.emp_algebra.specs.Deciding.{IsOfKind}
use Rattle.emp_algebra.specs.Deciding.{Zero as to_be_zero}
use Rattle.emp_num.specs.Point.{Point}
use Rattle.emp_line.specs.Place.{is_none}
use Rattle.emp_line.proofs.Exchange.{is_zero-true}
use Rattle.emp_rows.specs.declared.affine.Affine.{Affine}
use Rattle.emp_rows.specs.declared.system.Kind.{Kind}
use Rattle.emp_rows.specs.declared.system.Kind.TheVariants.{Zero, Nonneg}
use Rattle.emp_rows.specs.declared.system.RowSystem.{RowSystem}
use Rattle.emp_rows.specs.RowPoints.{sort_of, no_row, quantity, value_at, AreOfKind}
use Rattle.emp_cert.specs.declared.tree.Turn.{Turn}
use Rattle.emp_cert.specs.Paths.{is_on, OnPath}
use Rattle.emp_cert.specs.Deciders.{sort_on}
use Rattle.emp_cert.proofs.Shown.{on_value}
use Rattle.emp_turns.specs.Table.{total}
use Rattle.emp_turns.proofs.Totals.{total_zero}
use Rattle.emp_dict.specs.declared.label.Label.{Label}
use Rattle.emp_dict.specs.declared.label.Label.TheVariants.{Base, Quantity, Objective}
use Rattle.emp_dict.specs.declared.label.Mark.{Mark}
use Rattle.emp_dict.specs.declared.label.Mark.TheVariants.{Unasked, Required, Fixed}
use Rattle.emp_dict.specs.Dictionary.{Dictionary, IsLabel, line_at, cell_at, row_label, column_label, mark_at, row_of}
use Rattle.emp_dict.specs.Places.{is_positive}
use Rattle.emp_step.specs.Steps.{mark_of_label, is_fixed, is_loose, first_loose}
use Rattle.emp_step.proofs.Labels.{RowIs, row_found}
use Rattle.emp_step.proofs.Marks.{quantity_of}
use Rattle.emp_step.proofs.Turns.{loose_none}
use Rattle.emp_decide.specs.Reads.{value_of, value_by}
use Rattle.emp_decide.specs.Laws.{worth}
use Rattle.emp_decide.proofs.Rows.{identity, line_is, row_total}
use Rattle.emp_search.specs.Search.{above_by, above, both_above}
use Rattle.emp_search.specs.Nodes.{IsNode}
use Rattle.emp_faces.specs.Pieces.{rests, is_settled, is_open}

-- ---- tests
is_fixed-true : (m : Mark) → is_fixed m ≡ true → m ≡ Fixed
is_fixed-true Unasked e = absurd (cc)
is_fixed-true Required e = absurd (cc)
is_fixed-true Fixed e = refl

is_none-true : (o : Option ℕ) → is_none o ≡ true → o ≡ None
is_none-true None e = refl
is_none-true (Some j) e = absurd (cc)

-- a row that is settled rests on no column that may move
pub record Rests (d : Dictionary) (k r : ℕ) : Type 0 where
  pub row : RowIs d (Quantity k) r
  pub zero_there : (line_at d r).constant ≡ pos 0
  pub none : first_loose d r (length d.columns) ≡ None

-- a quantity that is settled is Fixed, or its row rests
pub settled_is : (d : Dictionary) (k : ℕ) → is_settled d k ≡ true → (mark_at d k ≡ Fixed) ⊎ ((r : ℕ) × Rests d k r)
settled_is d k e = go (or_cases (is_fixed (mark_at d k)) (rests d (row_of d (Quantity k))) e)
  where
    by : (o : Option ℕ) → row_of d (Quantity k) ≡ o → rests d o ≡ true → (r : ℕ) × Rests d k r
    by None q h = absurd (cc)
    by (Some r) q h = let p = and_parts (is_zero (line_at d r).constant) (is_none (first_loose d r (length d.columns))) h in (r, record { row = row_found d (Quantity k) r q; zero_there = is_zero-true (line_at d r).constant p.0; none = is_none-true (first_loose d r (length d.columns)) p.1 })

    go : (is_fixed (mark_at d k) ≡ true) ⊎ (rests d (row_of d (Quantity k)) ≡ true) → (mark_at d k ≡ Fixed) ⊎ ((r : ℕ) × Rests d k r)
    go (inl h) = inl (is_fixed-true (mark_at d k) h)
    go (inr h) = inr (by (row_of d (Quantity k)) refl h)

-- a pair that is not open has a settled member, and the members of an open one are not Fixed
pub closed_pair : (d : Dictionary) (a b : ℕ) → is_open d (a, b) ≡ false → (is_settled d a ≡ true) ⊎ (is_settled d b ≡ true)
closed_pair d a b e = or_cases (is_settled d a) (is_settled d b) (not-false (is_settled d a || is_settled d b) e)

free_of : (d : Dictionary) (k : ℕ) → is_settled d k ≡ false → mark_at d k ≢ Fixed
free_of d k e f = let h : (is_fixed Fixed || rests d (row_of d (Quantity k))) ≡ false = subst (λ m. (is_fixed m || rests d (row_of d (Quantity k))) ≡ false) f e in absurd (cc)

pub open_free : (d : Dictionary) (q : ℕ × ℕ) → is_open d q ≡ true → (mark_at d q.0 ≢ Fixed) × (mark_at d q.1 ≢ Fixed)
open_free d (a, b) e = let h = or_parts (is_settled d a) (is_settled d b) (not-true (is_settled d a || is_settled d b) e) in (free_of d a h.0, free_of d b h.1)

-- a column that is not loose is Fixed, or the row has no cell there
tight : (d : Dictionary) (r j : ℕ) → is_loose d r j ≡ false → (mark_of_label d (column_label d j) ≡ Fixed) ⊎ (cell_at d r j ≡ pos 0)
tight d r j e = go (and_cases (not (is_fixed (mark_of_label d (column_label d j)))) (not (is_zero (cell_at d r j))) e)
  where
    go : (not (is_fixed (mark_of_label d (column_label d j))) ≡ false) ⊎ (not (is_zero (cell_at d r j)) ≡ false) → (mark_of_label d (column_label d j) ≡ Fixed) ⊎ (cell_at d r j ≡ pos 0)
    go (inl h) = inl (is_fixed-true (mark_of_label d (column_label d j)) (not-false (is_fixed (mark_of_label d (column_label d j))) h))
    go (inr h) = inr (is_zero-true (cell_at d r j) (not-false (is_zero (cell_at d r j)) h))

-- ---- values on the face
kind_at : (qs : List Affine) (ts : List Kind) (x : Point) (i : ℕ) → length ts ≡ length qs → i < length qs → AreOfKind qs ts x → IsOfKind (sort_of (get_or ts i Zero)) (value_at (get_or qs i no_row) x)
kind_at [] ts x i l b h = absurd (omega arith)
kind_at (q ∷ qs) [] x i l b h = absurd (omega arith)
kind_at (q ∷ qs) (t ∷ ts) x zero l b h = h.0
kind_at (q ∷ qs) (t ∷ ts) x (suc i) l b h = kind_at qs ts x i (omega arith) (omega arith) h.1

module _ (s : RowSystem) (p : List Turn) (d : Dictionary) (n : IsNode s p d) (x : Point) (count : length x.nums ≡ s.base) (kinds : AreOfKind s.quantities s.kinds x) (on : OnPath s p x) where
  -- a Fixed quantity is 0
  pub fixed_value : (k : ℕ) → 0 < k → k ≤ length s.quantities → mark_at d k ≡ Fixed → value_at (quantity s k) x ≡ pos 0
  fixed_value k a l f = go (is_on s p k) refl (n.on k a f)
    where
      by : (t : Kind) → get_or s.kinds (k - 1) Zero ≡ t → sort_of t ≡ to_be_zero → IsOfKind (sort_of t) (value_at (quantity s k) x) → value_at (quantity s k) x ≡ pos 0
      by Zero q e h = h
      by Nonneg q e h = absurd (cc)

      go : (b : Bool) → is_on s p k ≡ b → sort_on b (get_or s.kinds (k - 1) Zero) ≡ to_be_zero → value_at (quantity s k) x ≡ pos 0
      go true q e = on_value s p k x on q
      go false q e = by (get_or s.kinds (k - 1) Zero) refl e (kind_at s.quantities s.kinds x (k - 1) s.sound.one_kind_each (omega arith) kinds)

  -- what a Fixed column stands for is worth 0
  fixed_worth : (j : ℕ) → j < length d.columns → mark_of_label d (column_label d j) ≡ Fixed → worth s x.den x.nums (column_label d j) ≡ pos 0
  fixed_worth j b f = go (column_label d j) refl f
    where
      go : (w : Label) → column_label d j ≡ w → mark_of_label d w ≡ Fixed → worth s x.den x.nums w ≡ pos 0
      go (Base c) q h = absurd (cc)
      go (Quantity k) q h =
          let u = quantity_of (length d.columns) (length d.marks) (length d.rows) k (subst (λ w. IsLabel (length d.columns) (length d.marks) (length d.rows) w) q (n.dictionary.sound.column_labels j b)) in
          fixed_value k u.0 (let v = u.1 in let m = n.dictionary.marks in omega arith) h
      go Objective q h = absurd (cc)

  -- the row of a quantity that rests is 0
  rests_value : (k r : ℕ) → Rests d k r → value_at (quantity s k) x ≡ pos 0
  rests_value k r h =
      let t = n.dictionary in
      let f = worth s x.den x.nums in
      let positive = (line_is d t.sound r h.row.below).positive in
      let terms : total (length d.columns) (λ j. cell_at d r j *ℤ worth s x.den x.nums (column_label d j)) ≡ pos 0 = total_zero (length d.columns) (λ j. cell_at d r j *ℤ worth s x.den x.nums (column_label d j)) (λ j b. term j b (tight d r j (loose_none d r (length d.columns) h.none j b))) in
      let sum : dot (line_at d r).cells (map (worth s x.den x.nums) d.columns) ≡ pos 0 = row_total d t.sound (worth s x.den x.nums) r h.row.below ∙ terms in
      let own : (line_at d r).denom *ℤ worth s x.den x.nums (row_label d r) ≡ (line_at d r).constant *ℤ x.den +ℤ dot (line_at d r).cells (map (worth s x.den x.nums) d.columns) = identity s d t x.den x.nums count r h.row.below in
      let right : (line_at d r).constant *ℤ x.den +ℤ dot (line_at d r).cells (map (worth s x.den x.nums) d.columns) ≡ pos 0 = ap₂ (λ y z. y *ℤ x.den +ℤ z) h.zero_there sum ∙ ap (λ y. y +ℤ pos 0) (zero-*ℤ x.den) in
      let flat : value_at (quantity s k) x *ℤ (line_at d r).denom ≡ pos 0 *ℤ (line_at d r).denom = *ℤ_comm (value_at (quantity s k) x) (line_at d r).denom ∙ (ap (λ w. (line_at d r).denom *ℤ worth s x.den x.nums w) (sym h.row.label) ∙ (own ∙ (right ∙ sym (zero-*ℤ (line_at d r).denom)))) in
      cancel_right (value_at (quantity s k) x) (pos 0) (line_at d r).denom flat positive
    where
      term : (j : ℕ) → j < length d.columns → (mark_of_label d (column_label d j) ≡ Fixed) ⊎ (cell_at d r j ≡ pos 0) → cell_at d r j *ℤ worth s x.den x.nums (column_label d j) ≡ pos 0
      term j b (inl f) = ap (λ z. cell_at d r j *ℤ z) (fixed_worth j b f) ∙ *ℤ-zero (cell_at d r j)
      term j b (inr z) = ap (λ y. y *ℤ worth s x.den x.nums (column_label d j)) z ∙ zero-*ℤ (worth s x.den x.nums (column_label d j))

  -- a settled quantity is 0
  pub settled_value : (k : ℕ) → 0 < k → k ≤ length s.quantities → is_settled d k ≡ true → value_at (quantity s k) x ≡ pos 0
  settled_value k a l e = go (settled_is d k e)
    where
      go : (mark_at d k ≡ Fixed) ⊎ ((r : ℕ) × Rests d k r) → value_at (quantity s k) x ≡ pos 0
      go (inl f) = fixed_value k a l f
      go (inr h) = rests_value k h.0 h.1

-- ---- values at the dictionary's point
pub fixed_top : (s : RowSystem) (p : List Turn) (d : Dictionary) → IsNode s p d → (k : ℕ) → mark_at d k ≡ Fixed → (value_of d (Quantity k)).top ≡ pos 0
fixed_top s p d n k f = go (row_of d (Quantity k)) refl
  where
    go : (o : Option ℕ) → row_of d (Quantity k) ≡ o → (value_by d o).top ≡ pos 0
    go None e = refl
    go (Some i) e = let r = row_found d (Quantity k) i e in n.level.fixed i k r.below r.label f

-- a settled quantity is not above 0 there
above_none : (d : Dictionary) (k : ℕ) → (value_of d (Quantity k)).top ≡ pos 0 → above d k ≡ false
above_none d k z = go (row_of d (Quantity k)) refl z
  where
    go : (o : Option ℕ) → row_of d (Quantity k) ≡ o → (value_by d o).top ≡ pos 0 → above_by d o ≡ false
    go None e h = refl
    go (Some i) e h = ap is_positive h

settled_top : (s : RowSystem) (p : List Turn) (d : Dictionary) → IsNode s p d → (k : ℕ) → is_settled d k ≡ true → (value_of d (Quantity k)).top ≡ pos 0
settled_top s p d n k e = by (is_fixed (mark_at d k)) refl (row_of d (Quantity k)) refl e
  where
    by : (b : Bool) → is_fixed (mark_at d k) ≡ b → (o : Option ℕ) → row_of d (Quantity k) ≡ o → (b || rests d o) ≡ true → (value_by d o).top ≡ pos 0
    by b q None r h = refl
    by true q (Some i) r h = let w = row_found d (Quantity k) i r in n.level.fixed i k w.below w.label (is_fixed-true (mark_at d k) q)
    by false q (Some i) r h = is_zero-true (line_at d i).constant (and_parts (is_zero (line_at d i).constant) (is_none (first_loose d i (length d.columns))) h).0

pub settled_not_above : (s : RowSystem) (p : List Turn) (d : Dictionary) → IsNode s p d → (a b : ℕ) → is_open d (a, b) ≡ false → both_above d (a, b) ≡ false
settled_not_above s p d n a b e = go (closed_pair d a b e)
  where
    left : (v : Bool) → v ≡ false → (w : Bool) → (v && w) ≡ false
    left true h w = absurd (cc)
    left false h w = refl

    right : (v w : Bool) → w ≡ false → (v && w) ≡ false
    right true w h = h
    right false w h = refl

    go : (is_settled d a ≡ true) ⊎ (is_settled d b ≡ true) → both_above d (a, b) ≡ false
    go (inl h) = left (above d a) (above_none d a (settled_top s p d n a h)) (above d b)
    go (inr h) = right (above d a) (above d b) (above_none d b (settled_top s p d n b h))
