-- Lines with an index by columns.
use Rattle.std.proofs.Common.{◌≡◌, ◌≢◌, ◌⊎◌, inl, inr, ℕ, zero, suc, ◌+◌, ◌<◌, ◌≤◌, ℤ, pos, negsuc, neg_ℤ, ◌*ℤ◌, ◌<ℤ◌, Bool, true, false, cond, List, [], ◌∷◌, ◌++◌, length, get_or, set, drop, replicate, Some, arith, refl, ap, sym, subst, ◌∙◌, append_assoc, to_z-of_z, below_more, length-set, get_or-set_same, get_or-set_other}
use Rattle.emp_algebra.specs.Vector.{cell, scale, is_zero}
use Rattle.emp_line.specs.declared.cells.Cell.{Cell}
use Rattle.emp_line.specs.declared.line.Line.{Line}
use lib.IntN.{*ℤ-zero}
use Rattle.std.proofs.lemmas.Int.{ints}
use Rattle.emp_algebra.proofs.Vectors.{length-scale, cell-scale}
use Rattle.emp_line.specs.Pivot.{moved, no_line, sign, turned}
use Rattle.emp_line.proofs.Exchange.{is_zero-true, length-turned}
use Rattle.emp_line.proofs.Steps.{zero_no}
use Rattle.emp_line.specs.Sparse.{no_cell, IsSparse}
use Rattle.std.specs.Prelude.{nat_eq}
use Rattle.emp_line.specs.Lines.{IsLine, line_after}
use Rattle.emp_line.proofs.Parts.{moved_still}
use Rattle.std.proofs.lemmas.Bool.{cases_eq}
use Rattle.std.proofs.lemmas.List.{get_or_default, drop_more, drop_all, append-nil, length-replicate, get_or-replicate}
use Rattle.emp_line.proofs.Kept.{moved_sound}
use Rattle.emp_line.proofs.Whole.{Done, done_start, done_own, done_moved, none_own, none_other, none_here, none_next, none_all}
use Rattle.emp_line.specs.Indexed.{has_cell, flag, IsIndex, IsTable, IsMarked, KeepsOthers, HasPlace, HasFlags, IsFlagged}
use Rattle.emp_line.specs.Place.{is_none, stands, MarksCells}
use Rattle.emp_line.proofs.Rows.{whole, row_width, sign_apart, against_apart}
use Rattle.emp_line.proofs.Marks.{keeps_after, stands_is}

-- ---- the flags of one row
columns_below : (at end : ℕ) (cs : List Cell) → IsSparse at end cs → (i : ℕ) → i < length cs → (get_or cs i no_cell).column < end
columns_below at end [] s i h = absurd (omega arith)
columns_below at end (c ∷ cs) s zero h = s.1
columns_below at end (c ∷ cs) s (suc i) h = columns_below (c.column + 1) end cs s.3 i (omega arith)

pub row_columns : (l : Line) (d c : ℤ) (w at : ℕ) (cs : List Cell) (index : List (List Bool)) → whole d c w cs ≡ l → IsSparse 0 w cs → HasPlace (length l.cells) at index → (i : ℕ) → i < length cs → (get_or cs i no_cell).column < length index
row_columns l d c w at cs index e s p i h =
    let a : length l.cells ≡ w = sym (ap (λ (x : Line). length x.cells) e) ∙ row_width w cs in
    let b = p.columns in
    let k = columns_below 0 w cs s i h in
    omega arith

pub row_places : (l : Line) (at : ℕ) (index : List (List Bool)) → HasPlace (length l.cells) at index → (k : ℕ) → k < length index → at < length (get_or index k [])
row_places l at index p k h = p.sizes k (let c = p.columns in omega arith)

pub row_marked : (l : Line) (d c : ℤ) (w at : ℕ) (cs : List Cell) (value : Bool) (old new : List (List Bool)) → whole d c w cs ≡ l → IsSparse 0 w cs → HasPlace (length l.cells) at old → MarksCells cs at value old new → IsMarked l at value old new
row_marked l d c w at cs value old new e s p m = record {
  rest = m.rest;
  here = λ k h. m.here k h ∙ ap (λ b. cond b value (flag old k at)) (told k (let a : length l.cells ≡ w = sym (ap (λ (x : Line). length x.cells) e) ∙ row_width w cs in let b = p.columns in omega arith));
}
  where
    told : (k : ℕ) → k < w → stands k cs ≡ has_cell l k
    told k h = sym (stands_is w k cs s h) ∙ ap (λ (x : Line). has_cell x k) e

-- the flags taken away and set anew
pub place_kept : (w at : ℕ) (old new : List (List Bool)) → HasPlace w at old → KeepsOthers at old new → HasPlace w at new
place_kept w at old new p m = record { columns = m.columns ∙ p.columns; sizes = λ k h. (let c = p.columns in let s = m.sizes k (omega arith) in let q = p.sizes k h in omega arith) }

pub flagged_anew : (w at : ℕ) (l x : Line) (old none new : List (List Bool)) → HasPlace w at old → HasFlags l at old → IsMarked l at false old none → IsMarked x at true none new → IsFlagged x at old new
flagged_anew w at l x old none new p f m n = record {
  rest = keeps_after at old none new m.rest n.rest;
  here = λ k h. (let c = n.rest.columns in let b = m.rest.columns in n.here k (omega arith) ∙ (ap (λ y. cond (has_cell x k) true y) (cleared k (omega arith)) ∙ same (is_zero (cell x.cells k))));
}
  where
    nothing : (b : Bool) → cond b false b ≡ false
    nothing true = refl
    nothing false = refl

    cleared : (k : ℕ) → k < length old → flag none k at ≡ false
    cleared k h = m.here k h ∙ (ap (λ y. cond (has_cell l k) false y) (f k h) ∙ nothing (has_cell l k))

    same : (b : Bool) → cond (cond b false true) true false ≡ cond b false true
    same true = refl
    same false = refl

pub ruleset flagging = (place_kept, flagged_anew)

-- ---- the tests of a pivot
has_false : (l : Line) (k : ℕ) → has_cell l k ≡ false → cell l.cells k ≡ pos 0
has_false l k e = go (cell l.cells k) e
  where
    go : (z : ℤ) → cond (is_zero z) false true ≡ false → z ≡ pos 0
    go (pos zero) e = refl
    go (pos (suc n)) e = cc
    go (negsuc n) e = cc

pub has_true : (l : Line) (k : ℕ) → has_cell l k ≡ true → cell l.cells k ≢ pos 0
has_true l k e z = let q = ap (λ y. cond (is_zero y) false true) z in cc

pub none_still : (at : ℕ) (t : Line) (r j : ℕ) (l : Line) (h : Bool) → h ≡ has_cell l j → h ≡ false → false ≡ is_none (line_after at t r j l)
none_still at t r j l h e f = go (nat_eq at r)
  where
    go : (b : Bool) → false ≡ is_none (cond b (Some t) (moved t j l))
    go true = refl
    go false = sym (ap is_none (moved_still t l j (has_false l j (sym e ∙ f))))

pub has_nonzero : (l : Line) (k : ℕ) (h : Bool) → h ≡ has_cell l k → h ≡ true → cell l.cells k ≢ pos 0
has_nonzero l k h e f = has_true l k (sym e ∙ f)

pub ruleset testing = (to_z-of_z, none_own, none_other, none_here, none_next, none_all, none_still, has_nonzero)

-- ---- all lines but one
pub record Moving (t : Line) (r j at : ℕ) (old now : List Line) (flags : List (List Bool)) (place : Line) : Type 0 where
  pub done : Done t r j at old now
  pub index : IsIndex (length t.cells) flags now
  pub lines : (i : ℕ) → i < length old → IsLine (length t.cells) (get_or now i no_line)
  pub spare : length place.cells ≡ length t.cells

pub moving_start : (t : Line) (r j : ℕ) (old : List Line) (flags : List (List Bool)) (place : Line) → IsIndex (length t.cells) flags old → ((i : ℕ) → i < length old → IsLine (length t.cells) (get_or old i no_line)) → length place.cells ≡ length t.cells → Moving t r j 0 old old flags place
moving_start t r j old flags place x s e = record { done = done_start t r j old; index = x; lines = s; spare = e }

-- nothing is written where it is the pivot's own line, or where it has no cell
pub moving_own : (t : Line) (r j at : ℕ) (old now : List Line) (flags : List (List Bool)) (place : Line) → Moving t r j at old now flags place → at ≡ r → Moving t r j (at + 1) old now flags place
moving_own t r j at old now flags place m e = record { done = done_own t r j at old now now m.done e refl; index = m.index; lines = m.lines; spare = m.spare }

pub moving_still : (t : Line) (r j at : ℕ) (old now : List Line) (flags : List (List Bool)) (place : Line) → Moving t r j at old now flags place → at < length old → j < length t.cells → flag flags j at ≡ false → Moving t r j (at + 1) old now flags place
moving_still t r j at old now flags place m h b e = record {
  done = record {
    count = m.done.count;
    row = m.done.row;
    done = below_more (λ i. i ≢ r → moved t j (get_or old i no_line) ≡ Some (get_or now i no_line)) at (λ i k q. m.done.done i k q) (λ q. moved_still t (get_or old at no_line) j (zero m) ∙ ap Some (sym (m.done.rest at (omega arith))));
    rest = λ i k. m.done.rest i (omega arith);
  };
  index = m.index;
  lines = m.lines;
  spare = m.spare;
}
  where
    zero : Moving t r j at old now flags place → cell (get_or old at no_line).cells j ≡ pos 0
    zero m =
        let c = m.done.count in
        let f = m.index.flags j at b (omega arith) in
        ap (λ (x : Line). cell x.cells j) (sym (m.done.rest at (omega arith))) ∙ has_false (get_or now at no_line) j (sym f ∙ e)

pub moving_next : (t : Line) (r j at : ℕ) (old now new : List Line) (flags marks : List (List Bool)) (place lent x y : Line) → IsLine (length t.cells) t → Moving t r j at old now flags place → at < length old → at ≢ r → x ≡ get_or now at x → moved t j x ≡ Some y → new ≡ set now at y → IsFlagged y at flags marks → length lent.cells ≡ length place.cells → Moving t r j (at + 1) old new marks lent
moving_next t r j at old now new flags marks place lent x y p m h n e f g k s =
    let c = m.done.count in
    let size : length new ≡ length now = ap length g ∙ length-set now at y in
    let here : get_or new at no_line ≡ y = ap (λ ls. get_or ls at no_line) g ∙ get_or-set_same now at y no_line (omega arith) in
    record {
      done = done_moved t r j at old now new x y m.done n h e f g;
      index = record {
        columns = k.rest.columns ∙ m.index.columns;
        sizes = λ i b. k.rest.sizes i (let d = m.index.columns in omega arith) ∙ (m.index.sizes i b ∙ sym size);
        flags = λ i l b d. told i l b (omega (arith, size)) here (cases_eq l at);
      };
      lines = λ i b. sound i b here (cases_eq i at);
      spare = s ∙ m.spare;
    }
  where
    other : (i : ℕ) → i ≢ at → get_or new i no_line ≡ get_or now i no_line
    other i q = ap (λ ls. get_or ls i no_line) g ∙ get_or-set_other now at i y no_line q

    told : (i l : ℕ) → i < length t.cells → l < length now → get_or new at no_line ≡ y → (l ≡ at) ⊎ (l ≢ at) → flag marks i l ≡ has_cell (get_or new l no_line) i
    told i l b d z (inl q) = ap (flag marks i) q ∙ (k.here i (let a = k.rest.columns in let v = m.index.columns in omega arith) ∙ ap (λ w. has_cell w i) (sym z ∙ ap (λ v. get_or new v no_line) (sym q)))
    told i l b d z (inr q) = k.rest.others i l q ∙ (m.index.flags i l b d ∙ ap (λ w. has_cell w i) (sym (other l q)))

    sound : (i : ℕ) → i < length old → get_or new at no_line ≡ y → (i ≡ at) ⊎ (i ≢ at) → IsLine (length t.cells) (get_or new i no_line)
    sound i b z (inl q) =
        let c = m.done.count in
        let a : x ≡ get_or now at no_line = e ∙ get_or_default now at x no_line (omega arith) in
        subst (IsLine (length t.cells)) (sym z ∙ ap (λ v. get_or new v no_line) (sym q)) (moved_sound (length t.cells) t j x y (subst (IsLine (length t.cells)) (sym a) (m.lines at h)) p f)
    sound i b z (inr q) = subst (IsLine (length t.cells)) (sym (other i q)) (m.lines i b)

pub moving_widths : (t : Line) (r j at : ℕ) (old now : List Line) (flags : List (List Bool)) (place : Line) → Moving t r j at old now flags place → (i : ℕ) → i < length now → length (get_or now i no_line).cells ≡ length t.cells
moving_widths t r j at old now flags place m i h = let c = m.done.count in (m.lines i (omega arith)).width

pub ruleset moving = (moving_start, moving_widths)

pub moving_as : (t : Line) (r j at : ℕ) (old now then' : List Line) (flags marks : List (List Bool)) (place lent : Line) → Moving t r j at old now flags place → then' ≡ now → marks ≡ flags → lent ≡ place → Moving t r j at old then' marks lent
moving_as t r j at old now then' flags marks place lent m e f g =
    subst (λ x. Moving t r j at old then' marks x) (sym g) (subst (λ x. Moving t r j at old then' x place) (sym f) (subst (λ x. Moving t r j at old x flags place) (sym e) m))

-- ---- copies
pub rows_more : (out ls : List Line) (i : ℕ) (x l : Line) → out ++ drop i ls ≡ ls → i < length ls → x ≡ get_or ls i x → l ≡ x → (out ++ l ∷ []) ++ drop (i + 1) ls ≡ ls
rows_more out ls i x l e h k q = append_assoc out (l ∷ []) (drop (i + 1) ls) ∙ (ap (λ y. out ++ y ∷ drop (i + 1) ls) (q ∙ k) ∙ (ap (λ r. out ++ r) (sym (drop_more ls i x h)) ∙ e))

pub rows_all : (out ls : List Line) (i : ℕ) → out ++ drop i ls ≡ ls → length ls ≤ i → out ≡ ls
rows_all out ls i e h = sym (append-nil out) ∙ (ap (λ r. out ++ r) (sym (drop_all i ls h)) ∙ e)

pub ruleset copying = (rows_more, rows_all)

-- ---- the index of lines, line by line
pub record Indexing (w at : ℕ) (rows : List Line) (flags : List (List Bool)) : Type 0 where
  pub columns : length flags ≡ w
  pub sizes : (k : ℕ) → k < w → length (get_or flags k []) ≡ length rows
  pub done : (k i : ℕ) → k < w → i < at → flag flags k i ≡ has_cell (get_or rows i no_line) k
  pub rest : (k i : ℕ) → k < w → at ≤ i → flag flags k i ≡ false

all_false : (n i : ℕ) → get_or (replicate n false) i false ≡ false
all_false zero i = refl
all_false (suc n) zero = refl
all_false (suc n) (suc i) = all_false n i

pub indexing_start : (w : ℕ) (rows : List Line) (flags : List (List Bool)) → flags ≡ replicate w (replicate (length rows) false) → Indexing w 0 rows flags
indexing_start w rows flags e = subst (Indexing w 0 rows) (sym e) (record {
  columns = length-replicate w (replicate (length rows) false);
  sizes = λ k h. ap length (get_or-replicate w k (replicate (length rows) false) [] h) ∙ length-replicate (length rows) false;
  done = λ k i h b. absurd (omega arith);
  rest = λ k i h b. ap (λ r. get_or r i false) (get_or-replicate w k (replicate (length rows) false) [] h) ∙ all_false (length rows) i;
})

pub indexing_all : (w at : ℕ) (rows : List Line) (flags : List (List Bool)) → Indexing w at rows flags → length rows ≤ at → IsIndex w flags rows
indexing_all w at rows flags x h = record { columns = x.columns; sizes = x.sizes; flags = λ k i b c. x.done k i b (omega arith) }

pub ruleset indexing = (indexing_start, indexing_all)

-- ---- the whole pivot
-- a turned line has its cells where it had them
zero_same : (a z : ℤ) → a ≢ pos 0 → is_zero (neg_ℤ (sign a) *ℤ z) ≡ is_zero z
zero_same a z n = go (is_zero z) refl
  where
    go : (b : Bool) → is_zero z ≡ b → is_zero (neg_ℤ (sign a) *ℤ z) ≡ is_zero z
    go true e = ap is_zero (ap (λ y. neg_ℤ (sign a) *ℤ y) (is_zero-true z e) ∙ *ℤ-zero (neg_ℤ (sign a))) ∙ sym e
    go false e = zero_no (neg_ℤ (sign a) *ℤ z) (against_apart a z n (λ q. (let t = ap is_zero q in cc))) ∙ sym e

has_turned : (l : Line) (j k : ℕ) → j < length l.cells → cell l.cells j ≢ pos 0 → pos 0 <ℤ l.denom → has_cell (turned l j) k ≡ has_cell l k
has_turned l j k h n p = go (cases_eq k j)
  where
    s : List ℤ
    s = scale (neg_ℤ (sign (cell l.cells j))) l.cells

    denom : l.denom ≢ pos 0
    denom e = omega (arith, ints)

    here : cell (turned l j).cells j ≡ sign (cell l.cells j) *ℤ l.denom
    here = get_or-set_same (scale (neg_ℤ (sign (cell l.cells j))) l.cells) j (sign (cell l.cells j) *ℤ l.denom) (pos 0) (subst (λ m. j < m) (sym (length-scale (neg_ℤ (sign (cell l.cells j))) l.cells)) h)

    go : (k ≡ j) ⊎ (k ≢ j) → cond (is_zero (cell (turned l j).cells k)) false true ≡ cond (is_zero (cell l.cells k)) false true
    go (inl e) =
        ap (λ i. cond (is_zero (cell (turned l j).cells i)) false true) e
        ∙ (ap (λ b. cond b false true) (ap is_zero here ∙ (zero_no (sign (cell l.cells j) *ℤ l.denom) (sign_apart (cell l.cells j) l.denom n denom) ∙ sym (zero_no (cell l.cells j) n))) ∙ ap (λ i. cond (is_zero (cell l.cells i)) false true) (sym e))
    go (inr q) =
        ap (λ b. cond b false true)
        (ap is_zero (get_or-set_other (scale (neg_ℤ (sign (cell l.cells j))) l.cells) j k (sign (cell l.cells j) *ℤ l.denom) (pos 0) q ∙ cell-scale (neg_ℤ (sign (cell l.cells j))) l.cells k)
        ∙ zero_same (cell l.cells j) (cell l.cells k) n)

-- the pivot's own line put in
pub table_after : (w r j : ℕ) (flags : List (List Bool)) (old now new : List Line) (t out lent : Line) → r < length old → length now ≡ length old → get_or now r no_line ≡ get_or old r no_line → IsIndex w flags now → t ≡ turned (get_or old r no_line) j → new ≡ set now r t → out ≡ get_or now r out → j < w → length (get_or old r no_line).cells ≡ w → cell (get_or old r no_line).cells j ≢ pos 0 → pos 0 <ℤ (get_or old r no_line).denom → length lent.cells ≡ w → ((i : ℕ) → i < length now → length (get_or now i no_line).cells ≡ w) → IsTable flags out lent new
table_after w r j flags old now new t out lent b c z x e g o h k n p s v =
    let own : out ≡ get_or old r no_line = o ∙ (get_or_default now r out no_line (omega arith) ∙ z) in
    let wide : length out.cells ≡ w = ap (λ (y : Line). length y.cells) own ∙ k in
    let size : length new ≡ length now = ap length g ∙ length-set now r t in
    record {
      index = subst (λ m. IsIndex m flags new) (sym wide) (record {
        columns = x.columns;
        sizes = λ i l. x.sizes i l ∙ sym size;
        flags = λ i l m d. told i l m (omega (arith, size)) (cases_eq l r);
      });
      spare = s ∙ sym wide;
      lines = λ i l. widths i (omega (arith, size)) (cases_eq i r) ∙ sym wide;
    }
  where
    here : get_or new r no_line ≡ turned (get_or old r no_line) j
    here = ap (λ ls. get_or ls r no_line) g ∙ (get_or-set_same now r t no_line (omega arith) ∙ e)

    other : (i : ℕ) → i ≢ r → get_or new i no_line ≡ get_or now i no_line
    other i q = ap (λ ls. get_or ls i no_line) g ∙ get_or-set_other now r i t no_line q

    told : (i l : ℕ) → i < w → l < length now → (l ≡ r) ⊎ (l ≢ r) → flag flags i l ≡ has_cell (get_or new l no_line) i
    told i l m d (inl q) =
        x.flags i l m d
        ∙ (ap (λ y. has_cell (get_or now y no_line) i) q
        ∙ (ap (λ y. has_cell y i) z
        ∙ (sym (has_turned (get_or old r no_line) j i (subst (λ u. j < u) (sym k) h) n p) ∙ (ap (λ y. has_cell y i) (sym here) ∙ ap (λ y. has_cell (get_or new y no_line) i) (sym q)))))
    told i l m d (inr q) = x.flags i l m d ∙ ap (λ y. has_cell y i) (sym (other l q))

    widths : (i : ℕ) → i < length now → (i ≡ r) ⊎ (i ≢ r) → length (get_or new i no_line).cells ≡ w
    widths i l (inl q) = ap (λ y. length (get_or new y no_line).cells) q ∙ (ap (λ (y : Line). length y.cells) here ∙ (length-turned (get_or old r no_line) j ∙ k))
    widths i l (inr q) = ap (λ (y : Line). length y.cells) (other i q) ∙ v i l
