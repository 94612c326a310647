-- What a row with its cells other than 0 alone says as a whole line.
use Rattle.std.proofs.Common.{◌≡◌, ◌≢◌, inl, inr, ℕ, zero, suc, ◌+◌, ◌<◌, ◌≤◌, ℤ, pos, negsuc, neg_ℤ, ◌*ℤ◌, false, cond, List, ◌∷◌, map, length, set, unsigned_abs, int_div, arith, refl, ap, sym, subst, ◌∙◌, to_z-of_z}
use Prim.Native.Nat.{◌∣◌}
use Rattle.std.specs.List.{All}
use Rattle.std.proofs.lemmas.Int.{ints}
use Rattle.std.proofs.lemmas.List.Elements.{All-tail}
use Rattle.std.proofs.Math.Nat.{zero-div}
use lib.IntN.{*ℤ-zero}
use Rattle.emp_algebra.specs.Vector.{cell, scale, add_rows, is_zero, quotients}
use Rattle.emp_algebra.proofs.Laws.{one-*ℤ, neg_ℤ-*ℤ}
use Rattle.emp_num.specs.Exact.{IsNarrow}
use Rattle.emp_num.specs.Gcd.{content_from, content_of}
use Rattle.emp_num.proofs.GcdLaws.{content_divides}
use Rattle.emp_line.specs.declared.cells.Cell.{Cell}
use Rattle.emp_line.specs.declared.line.Line.{Line}
use Rattle.emp_line.specs.Pivot.{Factors, sign, turned, steps_wide, line_content}
use Rattle.emp_line.specs.Sparse.{Sparse, spread, IsSparse, numbers, turned_cell, pairs, pairs_wide, sums, divided}
use Rattle.emp_line.specs.Place.{IsSmall, IsSmallLine, moved_wide}
use Rattle.emp_line.proofs.Joins.{line_eq, sign_self}
use Rattle.emp_line.proofs.Small.{small_moves, cond_same, moved_test}
use Rattle.emp_line.proofs.Spread.{length_spread, length_sparse}
use Rattle.emp_line.proofs.Sums.{struck_cells, wide_pairs, sums_are, length_pairs}
use Rattle.emp_line.proofs.Cellwise.{small_spread, all_numbers, patched_is, scale_map, map_same, sparse_patched, content_spread, spread_divided, sparse_divided}

-- the whole line
abbrev pub whole : ℤ → ℤ → ℕ → List Cell → Line
whole d c w cs = record { denom = d; constant = c; cells = spread 0 w cs }

pub row_width : (w : ℕ) (cs : List Cell) → length (spread 0 w cs) ≡ w
row_width w cs = length_spread 0 w cs

pub seen_width : (l : Line) (d c : ℤ) (w : ℕ) (cs : List Cell) → whole d c w cs ≡ l → w ≡ length l.cells
seen_width l d c w cs e = sym (sym (ap (λ (x : Line). length x.cells) e) ∙ row_width w cs)

pub ruleset starting = (row_width, seen_width)

pub small_row : (d c : ℤ) (w : ℕ) (cs : List Cell) (l : Line) → whole d c w cs ≡ l → IsSmall d → IsSmall c → All IsSmall (numbers cs) → IsSmallLine l
small_row d c w cs l e h k a = subst IsSmallLine e (record { denom = h; constant = k; cells = small_spread 0 w cs a })

pub ruleset sizing = (to_z-of_z, small_row)

-- rows of as many columns have the same room
pub same_width : (l k : Line) (d e c m : ℤ) (w v : ℕ) (cs ds : List Cell) → whole d c w cs ≡ l → whole e m v ds ≡ k → length l.cells ≡ length k.cells → w ≡ v
same_width l k d e c m w v cs ds p q h =
    let a : length l.cells ≡ w = sym (ap (λ (x : Line). length x.cells) p) ∙ row_width w cs in
    let b : length k.cells ≡ v = sym (ap (λ (x : Line). length x.cells) q) ∙ row_width v ds in
    omega arith

pub row_room : (w : ℕ) (cs : List Cell) → IsSparse 0 w cs → length cs ≤ w
row_room w cs s = let z : w ≡ 0 + w = omega arith in length_sparse 0 w cs (subst (λ m. IsSparse 0 m cs) z s)

pub narrow_row : (w : ℕ) (cs : List Cell) → IsSparse 0 w cs → All IsNarrow (spread 0 w cs) → All IsNarrow (numbers cs)
narrow_row w cs s a = let z : w ≡ 0 + w = omega arith in all_numbers IsNarrow 0 w cs (subst (λ m. IsSparse 0 m cs) z s) a

-- ---- the turned line
zero_scaled : (k : ℤ) → k *ℤ pos 0 ≡ pos 0
zero_scaled k = *ℤ-zero k

turned_cells : (w j : ℕ) (h d : ℤ) (cs : List Cell) → j < w → cell (spread 0 w cs) j ≢ pos 0 → spread 0 w (map (turned_cell h d j) cs) ≡ set (scale (neg_ℤ (sign h)) (spread 0 w cs)) j (sign h *ℤ d)
turned_cells w j h d cs b n =
    patched_is w j (sign h *ℤ d) (λ z. neg_ℤ (sign h) *ℤ z) cs (zero_scaled (neg_ℤ (sign h))) b (inr n) ∙ ap (λ r. set r j (sign h *ℤ d)) (scale_map (neg_ℤ (sign h)) (spread 0 w cs))

pub sign_apart : (a z : ℤ) → a ≢ pos 0 → z ≢ pos 0 → sign a *ℤ z ≢ pos 0
sign_apart (pos zero) z h n e = h refl
sign_apart (pos (suc k)) z h n e = n (sym (one-*ℤ z) ∙ e)
sign_apart (negsuc k) z h n e =
    let m : neg_ℤ z ≡ pos 0 = sym (neg_ℤ-*ℤ (pos 1) z ∙ ap neg_ℤ (one-*ℤ z)) ∙ e in
    n (omega (arith, ints))

pub against_apart : (a z : ℤ) → a ≢ pos 0 → z ≢ pos 0 → neg_ℤ (sign a) *ℤ z ≢ pos 0
against_apart a z h n e = let m : neg_ℤ (sign a *ℤ z) ≡ pos 0 = sym (neg_ℤ-*ℤ (sign a) z) ∙ e in sign_apart a z h n (omega (arith, ints))

pub turned_sparse : (w j : ℕ) (h d : ℤ) (cs : List Cell) → h ≢ pos 0 → d ≢ pos 0 → IsSparse 0 w cs → IsSparse 0 w (map (turned_cell h d j) cs)
turned_sparse w j h d cs n m s = sparse_patched 0 w j (sign h *ℤ d) (λ z. neg_ℤ (sign h) *ℤ z) cs (sign_apart h d n m) (λ y k. against_apart h y n k) s

-- the row of a pivot, turned
pub turned_row : (l : Line) (d c : ℤ) (w j : ℕ) (cs : List Cell) (a b h t : ℤ) (now : Sparse) → whole d c w cs ≡ l → j < length l.cells → cell l.cells j ≢ pos 0 → h ≡ cell l.cells j → t ≡ l.denom → a ≡ sign h *ℤ h → b ≡ neg_ℤ (sign h) *ℤ l.constant → now ≡ record { width = w; items = map (turned_cell h t j) cs } → whole a b now.width now.items ≡ turned l j
turned_row l d c w j cs a b h t now e in_row n p o q r s =
    let z : cell (spread 0 w cs) j ≡ cell l.cells j = ap (λ (x : Line). cell x.cells j) e in
    let k : j < w = subst (λ m. j < m) (sym (ap (λ (x : Line). length x.cells) e) ∙ row_width w cs) in_row in
    line_eq a (pos (unsigned_abs (cell l.cells j))) b (neg_ℤ (sign (cell l.cells j)) *ℤ l.constant) (spread 0 now.width now.items) (set (scale (neg_ℤ (sign (cell l.cells j))) l.cells) j (sign (cell l.cells j) *ℤ l.denom))
    (q ∙ (sign_self h ∙ ap (λ y. pos (unsigned_abs y)) p))
    (r ∙ ap (λ y. neg_ℤ (sign y) *ℤ l.constant) p)
    (ap (λ (x : Sparse). spread 0 x.width x.items) s
    ∙ (turned_cells w j h t cs k (λ y. n (sym z ∙ y))
    ∙ (ap (λ y. set (scale (neg_ℤ (sign y)) (spread 0 w cs)) j (sign y *ℤ t)) p
    ∙ (ap (λ (x : Line). set (scale (neg_ℤ (sign (cell l.cells j))) x.cells) j (sign (cell l.cells j) *ℤ t)) e
    ∙ ap (λ y. set (scale (neg_ℤ (sign (cell l.cells j))) l.cells) j (sign (cell l.cells j) *ℤ y)) o))))

-- ---- the numbers that a move forms
struck_is : (w j : ℕ) (cs : List Cell) → j < w → spread 0 w (struck_cells j cs) ≡ set (spread 0 w cs) j (pos 0)
struck_is w j cs h = patched_is w j (pos 0) (λ z. z) cs refl h (inl refl) ∙ ap (λ r. set r j (pos 0)) (map_same (spread 0 w cs))

from_zero : (w : ℕ) (cs : List Cell) → IsSparse 0 w cs → IsSparse 0 (0 + w) cs
from_zero w cs s = let z : w ≡ 0 + w = omega arith in subst (λ m. IsSparse 0 m cs) z s

pub row_pairs_wide : (f : Factors) (j w : ℕ) (as' bs : List Cell) → IsSparse 0 w as' → IsSparse 0 w bs → j < w → pairs_wide f (pairs j as' bs) ≡ steps_wide f (set (spread 0 w as') j (pos 0)) (spread 0 w bs)
row_pairs_wide f j w as' bs s t h = wide_pairs f j 0 w as' bs (from_zero w as' s) (from_zero w bs t) ∙ ap (λ r. steps_wide f r (spread 0 w bs)) (struck_is w j as' h)

pub row_pairs_room : (j w : ℕ) (as' bs : List Cell) → IsSparse 0 w as' → IsSparse 0 w bs → length (pairs j as' bs) ≤ w
row_pairs_room j w as' bs s t = length_pairs j 0 w as' bs (from_zero w as' s) (from_zero w bs t)

pub row_sums_sparse : (f : Factors) (j w : ℕ) (as' bs : List Cell) → IsSparse 0 w as' → IsSparse 0 w bs → IsSparse 0 w (sums f (pairs j as' bs))
row_sums_sparse f j w as' bs s t = let z : 0 + w ≡ w = omega arith in subst (λ m. IsSparse 0 m (sums f (pairs j as' bs))) z (sums_are f j 0 w as' bs (from_zero w as' s) (from_zero w bs t)).sparse

pub row_sums : (f : Factors) (j w : ℕ) (as' bs : List Cell) → IsSparse 0 w as' → IsSparse 0 w bs → j < w → spread 0 w (sums f (pairs j as' bs)) ≡ add_rows (scale f.own (set (spread 0 w as') j (pos 0))) (scale f.other (spread 0 w bs))
row_sums f j w as' bs s t h = (sums_are f j 0 w as' bs (from_zero w as' s) (from_zero w bs t)).spreads ∙ ap (λ r. add_rows (scale f.own r) (scale f.other (spread 0 w bs))) (struck_is w j as' h)

-- a row as it is seen
pub record IsRow (l : Line) (w : ℕ) (cs : List Cell) : Type 0 where
  pub width : length l.cells ≡ w
  pub cells : spread 0 w cs ≡ l.cells

pub row_is : (l : Line) (d c : ℤ) (w : ℕ) (cs : List Cell) → whole d c w cs ≡ l → IsRow l w cs
row_is l d c w cs e = record { width = sym (ap (λ (x : Line). length x.cells) e) ∙ row_width w cs; cells = ap (λ (x : Line). x.cells) e }

-- of as many columns as another
pub row_as : (l k : Line) (w v : ℕ) (cs ds : List Cell) → IsRow l w cs → IsRow k v ds → length l.cells ≡ length k.cells → w ≡ v
row_as l k w v cs ds p q e = let a = p.width in let b = q.width in omega arith

pub wide_line : (f : Factors) (j : ℕ) (l p : Line) (w v : ℕ) (as' bs : List Cell) → IsRow l w as' → IsRow p v bs → IsSparse 0 w as' → IsSparse 0 v bs → length p.cells ≡ length l.cells → j < length l.cells → pairs_wide f (pairs j as' bs) ≡ steps_wide f (set l.cells j (pos 0)) p.cells
wide_line f j l p w v as' bs x y s t e h =
    let q : v ≡ w = row_as p l v w bs as' y x e in
    let a = x.width in
    row_pairs_wide f j w as' bs s (subst (λ m. IsSparse 0 m bs) q t) (omega arith)
    ∙ (ap (λ r. steps_wide f (set r j (pos 0)) (spread 0 w bs)) x.cells ∙ ap (λ r. steps_wide f (set l.cells j (pos 0)) r) (ap (λ m. spread 0 m bs) (sym q) ∙ y.cells))

-- the sum of two rows' multiples
pub sum_cells : (f : Factors) (j : ℕ) (l p : Line) (w v : ℕ) (as' bs : List Cell) → IsRow l w as' → IsRow p v bs → IsSparse 0 w as' → IsSparse 0 v bs → length p.cells ≡ length l.cells → j < length l.cells → spread 0 w (sums f (pairs j as' bs)) ≡ add_rows (scale f.own (set l.cells j (pos 0))) (scale f.other p.cells)
sum_cells f j l p w v as' bs x y s t e h =
    let q : v ≡ w = row_as p l v w bs as' y x e in
    let a = x.width in
    row_sums f j w as' bs s (subst (λ m. IsSparse 0 m bs) q t) (omega arith)
    ∙ (ap (λ r. add_rows (scale f.own (set r j (pos 0))) (scale f.other (spread 0 w bs))) x.cells
    ∙ ap (λ r. add_rows (scale f.own (set l.cells j (pos 0))) (scale f.other r)) (ap (λ m. spread 0 m bs) (sym q) ∙ y.cells))

-- ---- the divisor
pub row_content : (g : ℕ) (l : Line) (w : ℕ) (cs : List Cell) → IsRow l w cs → IsSparse 0 w cs → content_from g (numbers cs) ≡ content_from g l.cells
row_content g l w cs x s = content_spread 0 w g cs (from_zero w cs s) ∙ ap (content_from g) x.cells

zero_quotient : (g : ℕ) → int_div (pos 0) (pos g) ≡ pos 0
zero_quotient g = ap pos (zero-div g)

pub quotient_cells : (g : ℕ) (l : Line) (w : ℕ) (cs : List Cell) → IsRow l w cs → spread 0 w (map (divided (pos g)) cs) ≡ quotients l.cells (pos g)
quotient_cells g l w cs x = spread_divided 0 w (pos g) cs (zero_quotient g) ∙ ap (λ r. quotients r (pos g)) x.cells

pub quotient_sparse : (g : ℕ) (l : Line) (w : ℕ) (cs : List Cell) → IsRow l w cs → IsSparse 0 w cs → pos g ≡ line_content l → IsSparse 0 w (map (divided (pos g)) cs)
quotient_sparse g l w cs x s e =
    let same : g ≡ content_of (l.denom ∷ l.constant ∷ l.cells) = cc in
    let whole_list : All (λ z. g ∣ unsigned_abs z) (l.denom ∷ l.constant ∷ l.cells) = subst (λ n. All (λ z. n ∣ unsigned_abs z) (l.denom ∷ l.constant ∷ l.cells)) (sym same) (content_divides 0 (l.denom ∷ l.constant ∷ l.cells)).all in
    let row : All (λ z. g ∣ unsigned_abs z) l.cells = All-tail (λ z. g ∣ unsigned_abs z) l.constant l.cells (All-tail (λ z. g ∣ unsigned_abs z) l.denom (l.constant ∷ l.cells) whole_list) in
    sparse_divided 0 w g cs (all_numbers (λ z. g ∣ unsigned_abs z) 0 w cs (from_zero w cs s) (subst (All (λ z. g ∣ unsigned_abs z)) (sym x.cells) row)) s

-- ---- small lines
pub small_still : (t l : Line) (j : ℕ) → j < length l.cells → IsSmallLine t → IsSmallLine l → false ≡ moved_wide t j l
small_still t l j h s r = sym (ap (λ b. cond (is_zero (cell l.cells j)) false b) (small_moves t l j h s r) ∙ cond_same (is_zero (cell l.cells j)))

pub ruleset testing = (to_z-of_z, small_still, moved_test)
