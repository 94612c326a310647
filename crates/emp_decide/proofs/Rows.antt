-- Rows that decide: the combination that a row's factors make is the row's constant, and the factors have the right signs.
use Rattle.std.proofs.Common.{◌≡◌, ◌≢◌, ℕ, zero, suc, ◌-◌, ◌<◌, ◌≤◌, ℤ, pos, negsuc, neg_ℤ, ◌+ℤ◌, ◌*ℤ◌, ◌≤ℤ◌, ◌<ℤ◌, List, [], ◌∷◌, length, map, replicate, arith, refl, sym, ap, ap₂, subst, ◌∙◌}
use Rattle.std.proofs.lemmas.List.{length-replicate, get_or-map}
use Rattle.std.proofs.lemmas.List.Elements.{All-get_or}
use lib.IntN.{zero-*ℤ}
use Rattle.std.proofs.lemmas.Int.{ints}
use Rattle.emp_algebra.proofs.Ring.{var, lit, neg, ◌⊗◌, by_ring}
use Rattle.emp_algebra.specs.Vector.{cell, dot}
use Rattle.emp_algebra.specs.Deciding.{FactorFits, Kind as Sort}
use Rattle.emp_algebra.specs.Deciding.{Zero as to_be_zero, Nonneg as to_be_nonneg}
use Rattle.emp_line.specs.Lines.{IsLine}
use Rattle.emp_line.specs.Pivot.{no_line}
use Rattle.emp_rows.specs.declared.system.RowSystem.{RowSystem}
use Rattle.emp_turns.specs.Choice.{Way, toward, MayMove, Up as upward, Down as downward}
use Rattle.emp_turns.specs.Table.{total}
use Rattle.emp_turns.proofs.Totals.{total_same}
use Rattle.emp_turns.proofs.Layouts.{dot_is}
use Rattle.emp_turns.proofs.Chooser.{none_opens}
use Rattle.emp_dict.specs.declared.label.Label.{Label}
use Rattle.emp_dict.specs.declared.label.Label.TheVariants.{Base, Quantity, Objective}
use Rattle.emp_dict.specs.declared.label.Mark.TheVariants.{Required}
use Rattle.emp_dict.specs.declared.label.Aim.{Aim}
use Rattle.emp_dict.specs.declared.label.Choice.TheVariants.{Stop}
use Rattle.emp_dict.specs.Dictionary.{Dictionary, IsSound, IsLabel, RowsTrue, line_at, cell_at, row_label, column_label, mark_at}
use Rattle.emp_dict.specs.Chosen.{chosen, layout_of, index_in, mark_by_index, turn_mark, turn_aim, aimed_row, aimed_way}
use Rattle.emp_dict.proofs.Starts.{starts_tell}
use Rattle.emp_step.specs.Levels.{MayBeColumn, IsLevel}
use Rattle.emp_step.proofs.Looks.{chosen_stop}
use Rattle.emp_step.proofs.Marks.{mark_base, mark_quantity, base_of, quantity_of}
use Rattle.emp_decide.specs.Reads.{put, spread, factors}
use Rattle.emp_decide.specs.Laws.{worth, IsDictionaryOf}
use Rattle.emp_decide.specs.Rows.{HasPlace}
use Rattle.emp_decide.proofs.Factors.{quantity_value, Empty, length-put, dot-spread, dot-put_zeros, cell_spread_none, cell_spread, cell_put, cell_put_none}

-- ---- what a dictionary of a system says at a base vector
pub identity : (s : RowSystem) (d : Dictionary) → IsDictionaryOf s d → (c : ℤ) (xs : List ℤ) → length xs ≡ s.base → RowsTrue d c (worth s c xs)
identity s d t c xs l = (t.solutions c (worth s c xs)).0 ((starts_tell s.base s.quantities s.objective s.sound.few_variables s.sound.few_quantities s.sound.rows s.sound.objective_row).forth c xs l)

pub line_is : (d : Dictionary) → IsSound d → (r : ℕ) → r < length d.rows → IsLine (length d.columns) (line_at d r)
line_is d s r b = All-get_or (IsLine (length d.columns)) d.lines r no_line (subst (λ n. r < n) s.count b) s.lines

pub row_total : (d : Dictionary) → IsSound d → (f : Label → ℤ) (r : ℕ) → r < length d.rows → dot (line_at d r).cells (map f d.columns) ≡ total (length d.columns) (λ j. cell_at d r j *ℤ f (column_label d j))
row_total d s f r b =
    let w = (line_is d s r b).width in
    dot_is (line_at d r).cells (map f d.columns) (length d.columns) (omega arith) ∙ total_same (length d.columns) (λ j. cell_at d r j *ℤ cell (map f d.columns) j) (λ j. cell_at d r j *ℤ f (column_label d j)) (λ j l. ap (λ z. cell_at d r j *ℤ z) (get_or-map f d.columns j Objective (pos 0) l))

-- ---- the combination of a row's factors
module _ (s : RowSystem) (d : Dictionary) (t : IsDictionaryOf s d) (l : IsLevel d) (r : ℕ) (below : r < length d.rows) (own across : ℤ) where
  column_fits : (n : ℕ) → n ≡ length d.marks → (j : ℕ) → j < length d.columns → HasPlace n (column_label d j)
  column_fits n e j b = go (column_label d j) refl
    where
      go : (w : Label) → column_label d j ≡ w → HasPlace n w
      go (Base c) q = tt
      go (Quantity k) q = let h = quantity_of (length d.columns) (length d.marks) (length d.rows) k (subst (λ w. IsLabel (length d.columns) (length d.marks) (length d.rows) w) q (t.sound.column_labels j b)) in (h.0, let m = h.1 in omega arith)
      go Objective q = tt

  row_fits : (n : ℕ) → n ≡ length d.marks → HasPlace n (row_label d r)
  row_fits n e = go (row_label d r) refl
    where
      go : (w : Label) → row_label d r ≡ w → HasPlace n w
      go (Base c) q = tt
      go (Quantity k) q = let h = quantity_of (length d.columns) (length d.marks) (length d.rows) k (subst (λ w. IsLabel (length d.columns) (length d.marks) (length d.rows) w) q (t.sound.row_labels r below)) in (h.0, let m = h.1 in omega arith)
      go Objective q = tt

  abbrev nothing : List ℤ
  nothing = replicate (length d.marks) (pos 0)

  abbrev first : List ℤ
  first = put (row_label d r) own nothing

  first_length : length first ≡ length d.marks
  first_length = length-put (row_label d r) own nothing ∙ length-replicate (length d.marks) (pos 0)

  zeros_cell : (n k : ℕ) → cell (replicate n (pos 0)) k ≡ pos 0
  zeros_cell zero k = refl
  zeros_cell (suc n) zero = refl
  zeros_cell (suc n) (suc k) = zeros_cell n k

  first_cell : (k : ℕ) → 0 < k → row_label d r ≢ Quantity k → cell first (k - 1) ≡ pos 0
  first_cell k h n = cell_put_none (row_label d r) own nothing k h n (row_fits (length nothing) (length-replicate (length d.marks) (pos 0))) ∙ zeros_cell (length d.marks) (k - 1)

  -- a column's place is still empty when its turn comes
  column_empty : (j : ℕ) → j < length d.columns → Empty (spread d r across j first) (column_label d j)
  column_empty j b = go (column_label d j) refl
    where
      go : (w : Label) → column_label d j ≡ w → Empty (spread d r across j first) w
      go (Base c) q = tt
      go (Quantity k) q =
          let h = quantity_of (length d.columns) (length d.marks) (length d.rows) k (subst (λ w. IsLabel (length d.columns) (length d.marks) (length d.rows) w) q (t.sound.column_labels j b)) in
          cell_spread_none d r across j first k h.0 (λ i c. column_fits (length first) first_length i (omega arith)) (λ i c e. let z = t.sound.columns_once i j (omega arith) b (e ∙ sym q) in omega arith)
          ∙ first_cell k h.0 (λ e. t.sound.apart r j below b (e ∙ sym q))
      go Objective q = tt

  -- at a base vector: own times the row's quantity, and across times the sum of its cells
  pub combination : (f : Label → ℤ) (vs : List ℤ) → length vs ≡ length d.marks → ((k : ℕ) → 0 < k → k ≤ length vs → cell vs (k - 1) ≡ f (Quantity k)) → ((j b : ℕ) → j < length d.columns → column_label d j ≡ Base b → cell_at d r j ≡ pos 0) → dot (factors d r own across) vs ≡ own *ℤ quantity_value f (row_label d r) +ℤ across *ℤ dot (line_at d r).cells (map f d.columns)
  combination f vs e are loose =
      dot-spread f vs are d r across (length d.columns) first (first_length ∙ sym e) (column_fits (length vs) e) column_empty
      ∙ ap₂ (λ y z. y +ℤ across *ℤ z) (dot-put_zeros f vs are (row_label d r) own nothing (length-replicate (length d.marks) (pos 0) ∙ sym e) (row_fits (length vs) e) (row_empty (row_label d r)) (dot_zeros (length d.marks) vs)) (total_same (length d.columns) (λ j. cell_at d r j *ℤ quantity_value f (column_label d j)) (λ j. cell_at d r j *ℤ f (column_label d j)) same ∙ sym (row_total d t.sound f r below))
    where
      row_empty : (w : Label) → Empty nothing w
      row_empty (Base b) = tt
      row_empty (Quantity k) = zeros_cell (length d.marks) (k - 1)
      row_empty Objective = tt

      dot_zeros : (n : ℕ) (xs : List ℤ) → dot (replicate n (pos 0)) xs ≡ pos 0
      dot_zeros zero xs = refl
      dot_zeros (suc n) [] = refl
      dot_zeros (suc n) (x ∷ xs) = ap₂ (λ y z. y +ℤ z) (zero-*ℤ x) (dot_zeros n xs)

      same : (j : ℕ) → j < length d.columns → cell_at d r j *ℤ quantity_value f (column_label d j) ≡ cell_at d r j *ℤ f (column_label d j)
      same j b = go (column_label d j) refl (l.columns j b)
        where
          go : (w : Label) → column_label d j ≡ w → MayBeColumn d w → cell_at d r j *ℤ quantity_value f w ≡ cell_at d r j *ℤ f w
          go (Base c) q m = ap (λ z. z *ℤ pos 0) (loose j c b q) ∙ (sym (zero-*ℤ (f (Base c))) ∙ ap (λ z. z *ℤ f (Base c)) (sym (loose j c b q)))
          go (Quantity k) q m = refl
          go Objective q m = absurd m

  -- ---- the factor of each quantity
  pub factor_own : (k : ℕ) → 0 < k → k ≤ length d.marks → row_label d r ≡ Quantity k → cell (factors d r own across) (k - 1) ≡ own
  factor_own k h m e =
      cell_spread_none d r across (length d.columns) first k h (column_fits (length first) first_length) (λ j b q. t.sound.apart r j below b (e ∙ sym q))
      ∙ cell_put (row_label d r) own nothing k e h (let z = length-replicate (length d.marks) (pos 0) in omega arith)

  pub factor_column : (k h : ℕ) → 0 < k → k ≤ length d.marks → h < length d.columns → column_label d h ≡ Quantity k → cell (factors d r own across) (k - 1) ≡ across *ℤ cell_at d r h
  factor_column k h above within b e =
      cell_spread d r across (length d.columns) first k h above (let z = first_length in omega arith) (column_fits (length first) first_length) b e (λ j c q. t.sound.columns_once j h c b (q ∙ sym e))

  pub factor_none : (k : ℕ) → 0 < k → row_label d r ≢ Quantity k → ((j : ℕ) → j < length d.columns → column_label d j ≢ Quantity k) → cell (factors d r own across) (k - 1) ≡ pos 0
  factor_none k h n none = cell_spread_none d r across (length d.columns) first k h (column_fits (length first) first_length) none ∙ first_cell k h n

-- ---- signs
pub fits_zero : (k : Sort) → FactorFits k (pos 0)
fits_zero to_be_zero = tt
fits_zero to_be_nonneg = omega (arith, ints)

pub fits_nonneg : (k : Sort) (z : ℤ) → pos 0 ≤ℤ z → FactorFits k z
fits_nonneg to_be_zero z h = tt
fits_nonneg to_be_nonneg z h = h

pub fits_free : (k : Sort) (z : ℤ) → k ≡ to_be_zero → FactorFits k z
fits_free to_be_zero z e = tt
fits_free to_be_nonneg z e = absurd (cc)

pub opposite : (g a : ℤ) → (g *ℤ a) ≤ℤ pos 0 → pos 0 ≤ℤ (neg_ℤ g *ℤ a)
opposite g a h = let e : neg_ℤ g *ℤ a ≡ neg_ℤ (g *ℤ a) = by_ring (g ∷ a ∷ []) (neg (var 0) ⊗ var 1) (neg (var 0 ⊗ var 1)) refl in omega (arith, ints)

not_above : (z : ℤ) → (pos 0 <ℤ z → ⊥) → z ≤ℤ pos 0
not_above (pos zero) h = omega (arith, ints)
not_above (pos (suc n)) h = absurd (h (omega (arith, ints)))
not_above (negsuc n) h = omega (arith, ints)

zero_between : (a : ℤ) → (a ≤ℤ pos 0) → (pos 0 ≤ℤ a) → a ≡ pos 0
zero_between (pos zero) h k = refl
zero_between (pos (suc n)) h k = absurd (omega (arith, ints))
zero_between (negsuc n) h k = absurd (omega (arith, ints))

-- where a row that is aimed at cannot be moved, no column that may move up helps, and base variables have no cell
module _ (d : Dictionary) (s : IsSound d) (a : Aim) (stop : chosen d a ≡ Stop) where
  no_help : (j : ℕ) (g : Way) → j < length d.columns → MayMove (mark_by_index d (index_in d (column_label d j))) g → (toward (aimed_way a) *ℤ (toward g *ℤ cell_at d (aimed_row d a) j)) ≤ℤ pos 0
  no_help j g b m = not_above (toward (aimed_way a) *ℤ (toward g *ℤ cell_at d (aimed_row d a) j)) (λ h. none_opens (mark_by_index d) (turn_aim d a) (layout_of d) (aimed_row d a) (chosen_stop d a stop) j g (record { below = b; moves = m; helps = h }))

  pub required_column : (j k : ℕ) → j < length d.columns → column_label d j ≡ Quantity k → mark_at d k ≡ Required → (toward (aimed_way a) *ℤ cell_at d (aimed_row d a) j) ≤ℤ pos 0
  required_column j k b e m =
      let may : MayMove (mark_by_index d (index_in d (column_label d j))) upward = subst (λ x. MayMove x upward) (sym (ap (λ w. mark_by_index d (index_in d w)) e ∙ (mark_quantity d k ∙ ap turn_mark m))) tt in
      let h = no_help j upward b may in
      let q : toward (aimed_way a) *ℤ (pos 1 *ℤ cell_at d (aimed_row d a) j) ≡ toward (aimed_way a) *ℤ cell_at d (aimed_row d a) j = by_ring (toward (aimed_way a) ∷ cell_at d (aimed_row d a) j ∷ []) (var 0 ⊗ (lit (pos 1) ⊗ var 1)) (var 0 ⊗ var 1) refl in
      subst (λ z. z ≤ℤ pos 0) q h

  pub base_column : (j b : ℕ) → j < length d.columns → column_label d j ≡ Base b → cell_at d (aimed_row d a) j ≡ pos 0
  base_column j b c e = by (aimed_way a) (cell_at d (aimed_row d a) j) (no_help j upward c (may upward)) (no_help j downward c (may downward))
    where
      may : (g : Way) → MayMove (mark_by_index d (index_in d (column_label d j))) g
      may g =
          let h = base_of (length d.columns) (length d.marks) (length d.rows) b (subst (λ w. IsLabel (length d.columns) (length d.marks) (length d.rows) w) e (s.column_labels j c)) in
          subst (λ x. MayMove x g) (sym (ap (λ w. mark_by_index d (index_in d w)) e ∙ mark_base d b h.0 h.1)) tt

      by : (g : Way) (z : ℤ) → (toward g *ℤ (toward upward *ℤ z)) ≤ℤ pos 0 → (toward g *ℤ (toward downward *ℤ z)) ≤ℤ pos 0 → z ≡ pos 0
      by upward z h k = zero_between z (omega (arith, ints)) (omega (arith, ints))
      by downward z h k = zero_between z (omega (arith, ints)) (omega (arith, ints))
