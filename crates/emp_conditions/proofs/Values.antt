-- The values of the rows over the base variables.
use Rattle.std.proofs.Common.{◌≡◌, ℕ, zero, suc, ◌<◌, ◌≤◌, ℤ, pos, negsuc, neg_ℤ, ◌+ℤ◌, ◌*ℤ◌, List, [], ◌∷◌, All, map, take, length, arith, refl, sym, ap, ap₂, ◌∙◌}
use Rattle.std.proofs.lemmas.List.{get_or-take}
use Rattle.std.proofs.lemmas.List.Elements.{All-nil, All-cons, All-head, All-tail}
use Rattle.emp_algebra.proofs.Ring.{var, lit, neg, ◌⊕◌, ◌⊖◌, ◌⊗◌, by_ring}
use Rattle.emp_algebra.proofs.Vectors.{dot-scale, dot-add_rows, cell-scale}
use Rattle.emp_algebra.specs.Vector.{cell, dot, scale}
use Rattle.emp_algebra.specs.Deciding.{total_cells}
use Rattle.emp_num.specs.declared.frac.Frac.{Frac}
use Rattle.emp_systems.specs.Steps.{Quadratic}
use Rattle.emp_systems.specs.Own.{unit}
use Rattle.emp_systems.proofs.Eliminate.{cell-add_rows}
use Rattle.emp_systems.proofs.Rows.{length-add_rows}
use Rattle.emp_systems.proofs.Own.{dot_unit}
use Rattle.emp_game.specs.Game.{Row, Rule, Purpose, goal, flow, Player, IsPurpose}
use Rattle.emp_game.specs.Solved.{value_at, charged}
use Rattle.emp_game.specs.Conditions.{over_low, under_high, column, row_of, derivative, derivatives, charged_slope}
use Rattle.emp_split.specs.Games.{Game, coordinates}
use Rattle.emp_conditions.specs.Base.{multiplier_place, multipliers_in}
use Rattle.emp_conditions.specs.Rows.{opposite, variable, sum_row, low_row, high_row, charges, slope_row}

-- ---- the first n numbers
pub dot_take : (n : ℕ) (r xs : List ℤ) → length r ≤ n → dot r xs ≡ dot r (take n xs)
dot_take n [] xs h = refl
dot_take zero (a ∷ r) xs h = absurd (omega arith)
dot_take (suc n) (a ∷ r) [] h = refl
dot_take (suc n) (a ∷ r) (x ∷ xs) h = ap (λ z. a *ℤ x +ℤ z) (dot_take n r xs (omega arith))

pub value_take : (n : ℕ) (r : Row) (d : ℤ) (xs : List ℤ) → length r.cells ≤ n → value_at r d xs ≡ value_at r d (take n xs)
value_take n r d xs h = ap (λ z. r.constant *ℤ d +ℤ z) (dot_take n r.cells xs h)

pub cell_take : (n : ℕ) (xs : List ℤ) (k : ℕ) → k < n → cell xs k ≡ cell (take n xs) k
cell_take n xs k h = sym (get_or-take n xs k (pos 0) h)

-- ---- single rows
pub opposite_value : (r : Row) (d : ℤ) (xs : List ℤ) → value_at (opposite r) d xs ≡ neg_ℤ (value_at r d xs)
opposite_value r d xs = ap (λ z. neg_ℤ r.constant *ℤ d +ℤ z) (dot-scale (negsuc 0) r.cells xs) ∙ by_ring (r.constant ∷ d ∷ dot r.cells xs ∷ []) (neg (var 0) ⊗ var 1 ⊕ lit (negsuc 0) ⊗ var 2) (neg (var 0 ⊗ var 1 ⊕ var 2)) refl

pub variable_value : (k : ℕ) (d : ℤ) (xs : List ℤ) → value_at (variable k) d xs ≡ cell xs k
variable_value k d xs = ap (λ z. pos 0 *ℤ d +ℤ z) (dot_unit k (pos 1) xs) ∙ by_ring (d ∷ cell xs k ∷ []) (lit (pos 0) ⊗ var 0 ⊕ lit (pos 1) ⊗ var 1) (var 1) refl

pub sum_value : (a b : Row) (d : ℤ) (xs : List ℤ) → value_at (sum_row a b) d xs ≡ value_at a d xs +ℤ value_at b d xs
sum_value a b d xs =
    ap (λ z. (a.constant +ℤ b.constant) *ℤ d +ℤ z) (dot-add_rows a.cells b.cells xs)
    ∙ by_ring (a.constant ∷ b.constant ∷ d ∷ dot a.cells xs ∷ dot b.cells xs ∷ []) ((var 0 ⊕ var 1) ⊗ var 2 ⊕ (var 3 ⊕ var 4)) (var 0 ⊗ var 2 ⊕ var 3 ⊕ (var 1 ⊗ var 2 ⊕ var 4)) refl

pub low_value : (k : ℕ) (a : Frac) (d : ℤ) (xs : List ℤ) → value_at (low_row k a) d xs ≡ over_low a d (cell xs k)
low_value k a d xs = ap (λ z. neg_ℤ a.num *ℤ d +ℤ z) (dot_unit k a.den xs) ∙ by_ring (a.num ∷ a.den ∷ d ∷ cell xs k ∷ []) (neg (var 0) ⊗ var 2 ⊕ var 1 ⊗ var 3) (var 3 ⊗ var 1 ⊖ var 0 ⊗ var 2) refl

pub high_value : (k : ℕ) (b : Frac) (d : ℤ) (xs : List ℤ) → value_at (high_row k b) d xs ≡ under_high b d (cell xs k)
high_value k b d xs = ap (λ z. b.num *ℤ d +ℤ z) (dot_unit k (neg_ℤ b.den) xs) ∙ by_ring (b.num ∷ b.den ∷ d ∷ cell xs k ∷ []) (var 0 ⊗ var 2 ⊕ neg (var 1) ⊗ var 3) (var 0 ⊗ var 2 ⊖ var 3 ⊗ var 1) refl

-- ---- slopes
charges_value : (g : Game) (j : ℕ) (rs : List Rule) (k : ℕ) (xs : List ℤ) → dot (charges g j rs k) xs ≡ neg_ℤ (cell (total_cells (charged rs (multipliers_in g j rs xs))) k)
charges_value g j [] k xs = refl
charges_value g j (r ∷ rs) k xs =
    let u = cell xs (multiplier_place g j r.equation) in
    dot-add_rows (unit (multiplier_place g j r.equation) (neg_ℤ (cell r.row.cells k))) (charges g j rs k) xs
    ∙ (ap₂ (λ s t. s +ℤ t) (dot_unit (multiplier_place g j r.equation) (neg_ℤ (cell r.row.cells k)) xs) (charges_value g j rs k xs)
    ∙ (by_ring (cell r.row.cells k ∷ u ∷ cell (total_cells (charged rs (multipliers_in g j rs xs))) k ∷ []) (neg (var 0) ⊗ var 1 ⊕ neg (var 2)) (neg (var 1 ⊗ var 0 ⊕ var 2)) refl
    ∙ ap neg_ℤ (sym (cell-add_rows (scale u r.row.cells) (total_cells (charged rs (multipliers_in g j rs xs))) k ∙ ap (λ z. z +ℤ cell (total_cells (charged rs (multipliers_in g j rs xs))) k) (cell-scale u r.row.cells k)))))

pub slope_value : (g : Game) (j : ℕ) (pl : Player) (f : Row) (k : ℕ) (d : ℤ) (xs : List ℤ) → length f.cells ≤ coordinates g → value_at (slope_row g j pl f k) d xs ≡ charged_slope pl f k d (take (coordinates g) xs) (multipliers_in g j pl.rules xs)
slope_value g j pl f k d xs h =
    ap (λ z. f.constant *ℤ d +ℤ z) (dot-add_rows f.cells (charges g j pl.rules k) xs ∙ ap₂ (λ s t. s +ℤ t) (dot_take (coordinates g) f.cells xs h) (charges_value g j pl.rules k xs))
    ∙ by_ring (f.constant ∷ d ∷ dot f.cells (take (coordinates g) xs) ∷ cell (total_cells (charged pl.rules (multipliers_in g j pl.rules xs))) k ∷ []) (var 0 ⊗ var 1 ⊕ (var 2 ⊕ neg (var 3))) (var 0 ⊗ var 1 ⊕ var 2 ⊖ var 3) refl

-- ---- derivatives name no coordinate from n on
row_short : (n : ℕ) (m : List (List ℤ)) (k : ℕ) → All (λ r. length r ≤ n) m → length (row_of m k) ≤ n
row_short n [] k h = omega arith
row_short n (r ∷ rs) zero h = All-head (λ r. length r ≤ n) r rs h
row_short n (r ∷ rs) (suc k) h = row_short n rs k (All-tail (λ r. length r ≤ n) r rs h)

column_count : (m : List (List ℤ)) (k : ℕ) → length (column m k) ≡ length m
column_count [] k = refl
column_count (r ∷ rs) k = ap suc (column_count rs k)

abbrev pub IsShort : ℕ → Row → Type 0
IsShort n f = length f.cells ≤ n

map_short : (n : ℕ) (q : Quadratic) (ks : List ℕ) → length q.square ≤ n → All (λ r. length r ≤ n) q.square → All (IsShort n) (map (derivative q) ks)
map_short n q [] h s = All-nil (IsShort n)
map_short n q (k ∷ ks) h s =
    All-cons (IsShort n) (derivative q k) (map (derivative q) ks) (length-add_rows (row_of q.square k) (column q.square k) n (row_short n q.square k s) (let e = column_count q.square k in omega arith)) (map_short n q ks h s)

pub derivatives_short : (n : ℕ) (p : Purpose) (own : List ℕ) (rules : List Rule) → IsPurpose n own p → All (IsShort n) (derivatives (record { own = own; purpose = p; rules = rules }))
derivatives_short n (goal q) own rules h = map_short n q own h.1 h.2
derivatives_short n (flow fs) own rules h = h.1
