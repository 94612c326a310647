-- What the rows of derivatives and multipliers say.
use Rattle.std.proofs.Common.{◌≡◌, ℕ, zero, suc, ◌<◌, ◌≤◌, ℤ, pos, negsuc, neg_ℤ, ◌+ℤ◌, ◌-ℤ◌, ◌*ℤ◌, List, [], ◌∷◌, ◌++◌, All, map, replicate, length, arith, refl, sym, ap, ap₂, ◌∙◌}
use Rattle.std.proofs.lemmas.List.{length-replicate}
use Rattle.std.proofs.lemmas.List.Elements.{All-head, All-tail}
use Rattle.std.proofs.lemmas.Int.{ints}
use Rattle.emp_algebra.proofs.Ring.{var, lit, neg, ◌⊕◌, ◌⊖◌, ◌⊗◌, by_ring}
use Rattle.emp_algebra.proofs.Order.{linear}
use Rattle.emp_algebra.proofs.Vectors.{dot-scale, dot-add_rows, dot_comm, cell-scale}
use Rattle.emp_algebra.specs.Vector.{cell, dot, scale, add_rows}
use Rattle.emp_algebra.specs.Deciding.{Weighted, value_times, total_cells, total_constant}
use Rattle.emp_systems.specs.Systems.{weigh}
use Rattle.emp_systems.specs.Steps.{Quadratic, gradient, products, combined}
use Rattle.emp_systems.proofs.Rows.{length-add_rows}
use Rattle.emp_systems.proofs.Eliminate.{cell-add_rows}
use Rattle.emp_systems.proofs.Law.{weigh_cell}
use Rattle.emp_systems.proofs.Lagrangian.{gradient_cell}
use Rattle.emp_game.specs.Conditions.{row_of, column}
use Rattle.emp_game.proofs.Slopes.{gradient_derivative}
use Rattle.emp_least.specs.Rows.{slope, padded, level, levels}

-- ---- lists one after the other
pub dot-append : (r s xs us : List ℤ) → length r ≡ length xs → dot (r ++ s) (xs ++ us) ≡ dot r xs +ℤ dot s us
dot-append [] s [] us h = omega (arith, ints)
dot-append [] s (x ∷ xs) us h = absurd (omega arith)
dot-append (a ∷ r) s [] us h = absurd (omega arith)
dot-append (a ∷ r) s (x ∷ xs) us h =
    ap (λ z. a *ℤ x +ℤ z) (dot-append r s xs us (omega arith)) ∙ by_ring ((a *ℤ x) ∷ dot r xs ∷ dot s us ∷ []) (var 0 ⊕ (var 1 ⊕ var 2)) (var 0 ⊕ var 1 ⊕ var 2) refl

pub dot_short : (r xs us : List ℤ) → length r ≤ length xs → dot r (xs ++ us) ≡ dot r xs
dot_short [] xs us h = refl
dot_short (a ∷ r) [] us h = absurd (omega arith)
dot_short (a ∷ r) (x ∷ xs) us h = ap (λ z. a *ℤ x +ℤ z) (dot_short r xs us (omega arith))

pub dot_left_zeros : (n : ℕ) (xs : List ℤ) → dot (replicate n (pos 0)) xs ≡ pos 0
dot_left_zeros zero xs = refl
dot_left_zeros (suc n) [] = refl
dot_left_zeros (suc n) (x ∷ xs) = ap (λ z. pos 0 *ℤ x +ℤ z) (dot_left_zeros n xs) ∙ by_ring (x ∷ []) (lit (pos 0) ⊗ var 0 ⊕ lit (pos 0)) (lit (pos 0)) refl

pub dot-padded : (n : ℕ) (r xs : List ℤ) → dot (padded n r) xs ≡ dot r xs
dot-padded n r xs = dot-add_rows (replicate n (pos 0)) r xs ∙ (ap (λ z. z +ℤ dot r xs) (dot_left_zeros n xs) ∙ by_ring (dot r xs ∷ []) (lit (pos 0) ⊕ var 0) (var 0) refl)

pub length_padded : (n : ℕ) (r : List ℤ) → length r ≤ n → length (padded n r) ≡ n
length_padded zero [] h = refl
length_padded zero (a ∷ r) h = absurd (omega arith)
length_padded (suc n) [] h = length-replicate (suc n) (pos 0)
length_padded (suc n) (a ∷ r) h = ap suc (length_padded n r (omega arith))

-- ---- derivatives
-- a square alone
abbrev pub only_square : List (List ℤ) → Quadratic
only_square m = record { constant = pos 0; linear = []; square = m }

pub dot-slope : (m : List (List ℤ)) (xs : List ℤ) (k : ℕ) → dot (slope m k) xs ≡ cell (products m xs) k +ℤ cell (combined m xs) k
dot-slope m xs k =
    let row : cell (gradient (only_square m) (pos 0) xs) k ≡ pos 0 +ℤ dot (slope m k) xs = gradient_derivative (only_square m) (pos 0) xs k in
    let sum : cell (gradient (only_square m) (pos 0) xs) k ≡ pos 0 +ℤ (cell (products m xs) k +ℤ cell (combined m xs) k) = gradient_cell (only_square m) (pos 0) xs k in
    omega (arith, linear, row, sum)

row_short : (n : ℕ) (m : List (List ℤ)) (k : ℕ) → All (λ r. length r ≤ n) m → length (row_of m k) ≤ n
row_short n [] k h = omega arith
row_short n (r ∷ rs) zero h = All-head (λ r. length r ≤ n) r rs h
row_short n (r ∷ rs) (suc k) h = row_short n rs k (All-tail (λ r. length r ≤ n) r rs h)

column_length : (m : List (List ℤ)) (k : ℕ) → length (column m k) ≡ length m
column_length [] k = refl
column_length (r ∷ rs) k = ap suc (column_length rs k)

pub slope_short : (n : ℕ) (m : List (List ℤ)) (k : ℕ) → length m ≤ n → All (λ r. length r ≤ n) m → length (slope m k) ≤ n
slope_short n m k h a = length-add_rows (row_of m k) (column m k) n (row_short n m k a) (let e = column_length m k in omega arith)

backs : (ws : List Weighted) (us : List ℤ) (k : ℕ) → dot (map (λ w. neg_ℤ (cell w.cells k)) ws) us ≡ neg_ℤ (dot us (map (λ w. cell w.cells k) ws))
backs [] [] k = refl
backs [] (u ∷ us) k = refl
backs (w ∷ ws) [] k = refl
backs (w ∷ ws) (u ∷ us) k =
    ap (λ z. neg_ℤ (cell w.cells k) *ℤ u +ℤ z) (backs ws us k) ∙ by_ring (cell w.cells k ∷ u ∷ dot us (map (λ w. cell w.cells k) ws) ∷ []) (neg (var 0) ⊗ var 1 ⊕ neg (var 2)) (neg (var 1 ⊗ var 0 ⊕ var 2)) refl

-- a row of derivatives at a point and multipliers
pub level_value : (n : ℕ) (q : Quadratic) (ws : List Weighted) (k : ℕ) (d : ℤ) (xs us : List ℤ) → length q.square ≤ n → All (λ r. length r ≤ n) q.square → length xs ≡ n
    → value_times (level n q ws k).constant (level n q ws k).cells d (xs ++ us) ≡ cell (gradient q d xs) k -ℤ cell (total_cells (weigh ws us)) k
level_value n q ws k d xs us rows cells e =
    ap (λ z. cell q.linear k *ℤ d +ℤ z)
    (dot-append (padded n (slope q.square k)) (map (λ w. neg_ℤ (cell w.cells k)) ws) xs us (length_padded n (slope q.square k) (slope_short n q.square k rows cells) ∙ sym e)
    ∙ ap₂ (λ s t. s +ℤ t) (dot-padded n (slope q.square k) xs ∙ dot-slope q.square xs k) (backs ws us k ∙ ap (λ z. neg_ℤ z) (sym (weigh_cell ws us k))))
    ∙ (by_ring (cell q.linear k ∷ d ∷ (cell (products q.square xs) k +ℤ cell (combined q.square xs) k) ∷ cell (total_cells (weigh ws us)) k ∷ []) (var 0 ⊗ var 1 ⊕ (var 2 ⊕ neg (var 3))) (var 1 ⊗ var 0 ⊕ var 2 ⊖ var 3) refl
    ∙ ap (λ z. z -ℤ cell (total_cells (weigh ws us)) k) (sym (gradient_cell q d xs k)))

-- lists that agree on the first n numbers agree with a list of n numbers
pub dot_within : (n : ℕ) (r s ys : List ℤ) → length ys ≡ n → ((k : ℕ) → k < n → cell r k ≡ cell s k) → dot r ys ≡ dot s ys
dot_within n r s [] e h = dot_comm r [] ∙ (none r ∙ (sym (none s) ∙ dot_comm [] s))
  where
    none : (r : List ℤ) → dot [] r ≡ pos 0
    none r = refl
dot_within zero r s (y ∷ ys) e h = absurd (omega arith)
dot_within (suc n) [] [] (y ∷ ys) e h = refl
dot_within (suc n) [] (b ∷ s) (y ∷ ys) e h =
    sym (ap₂ (λ u v. u *ℤ y +ℤ v) (sym (h 0 (omega arith))) (sym (dot_within n [] s ys (omega arith) (λ k l. h (suc k) (omega arith)))) ∙ by_ring (y ∷ []) (lit (pos 0) ⊗ var 0 ⊕ lit (pos 0)) (lit (pos 0)) refl)
dot_within (suc n) (a ∷ r) [] (y ∷ ys) e h =
    ap₂ (λ u v. u *ℤ y +ℤ v) (h 0 (omega arith)) (dot_within n r [] ys (omega arith) (λ k l. h (suc k) (omega arith))) ∙ by_ring (y ∷ []) (lit (pos 0) ⊗ var 0 ⊕ lit (pos 0)) (lit (pos 0)) refl
dot_within (suc n) (a ∷ r) (b ∷ s) (y ∷ ys) e h = ap₂ (λ u v. u *ℤ y +ℤ v) (h 0 (omega arith)) (dot_within n r s ys (omega arith) (λ k l. h (suc k) (omega arith)))

-- ---- all rows of derivatives, each with a factor
abbrev pub sum_at : List Weighted → List ℤ → ℤ → List ℤ → ℤ
sum_at [] fs d xs = pos 0
sum_at (w ∷ ws) [] d xs = pos 0
sum_at (w ∷ ws) (f ∷ fs) d xs = f *ℤ value_times w.constant w.cells d xs +ℤ sum_at ws fs d xs

pub sum-append : (rs ws : List Weighted) (ps fs : List ℤ) (d : ℤ) (xs : List ℤ) → length ps ≡ length rs → sum_at (rs ++ ws) (ps ++ fs) d xs ≡ sum_at rs ps d xs +ℤ sum_at ws fs d xs
sum-append [] ws [] fs d xs e = by_ring (sum_at ws fs d xs ∷ []) (var 0) (lit (pos 0) ⊕ var 0) refl
sum-append [] ws (p ∷ ps) fs d xs e = absurd (omega arith)
sum-append (r ∷ rs) ws [] fs d xs e = absurd (omega arith)
sum-append (r ∷ rs) ws (p ∷ ps) fs d xs e =
    ap (λ z. p *ℤ value_times r.constant r.cells d xs +ℤ z) (sum-append rs ws ps fs d xs (omega arith))
    ∙ by_ring ((p *ℤ value_times r.constant r.cells d xs) ∷ sum_at rs ps d xs ∷ sum_at ws fs d xs ∷ []) (var 0 ⊕ (var 1 ⊕ var 2)) (var 0 ⊕ var 1 ⊕ var 2) refl

pub sum_none : (ws : List Weighted) (d : ℤ) (xs : List ℤ) → sum_at ws [] d xs ≡ pos 0
sum_none [] d xs = refl
sum_none (w ∷ ws) d xs = refl

-- the combination of quantities is the sum of factor times value
pub total_is_sum : (ws : List Weighted) (fs : List ℤ) (d : ℤ) (xs : List ℤ) → total_constant (weigh ws fs) *ℤ d +ℤ dot (total_cells (weigh ws fs)) xs ≡ sum_at ws fs d xs
total_is_sum [] fs d xs = by_ring (d ∷ []) (lit (pos 0) ⊗ var 0 ⊕ lit (pos 0)) (lit (pos 0)) refl
total_is_sum (w ∷ ws) [] d xs =
    ap (λ z. (pos 0 *ℤ w.constant +ℤ total_constant (weigh ws [])) *ℤ d +ℤ z) (dot-add_rows (scale (pos 0) w.cells) (total_cells (weigh ws [])) xs ∙ ap (λ z. z +ℤ dot (total_cells (weigh ws [])) xs) (dot-scale (pos 0) w.cells xs))
    ∙ (by_ring (w.constant ∷ total_constant (weigh ws []) ∷ d ∷ dot w.cells xs ∷ dot (total_cells (weigh ws [])) xs ∷ [])
    ((lit (pos 0) ⊗ var 0 ⊕ var 1) ⊗ var 2 ⊕ (lit (pos 0) ⊗ var 3 ⊕ var 4))
    (var 1 ⊗ var 2 ⊕ var 4)
    refl
    ∙ (total_is_sum ws [] d xs ∙ sum_none ws d xs))
total_is_sum (w ∷ ws) (f ∷ fs) d xs =
    ap (λ z. (f *ℤ w.constant +ℤ total_constant (weigh ws fs)) *ℤ d +ℤ z) (dot-add_rows (scale f w.cells) (total_cells (weigh ws fs)) xs ∙ ap (λ z. z +ℤ dot (total_cells (weigh ws fs)) xs) (dot-scale f w.cells xs))
    ∙ (by_ring (f ∷ w.constant ∷ total_constant (weigh ws fs) ∷ d ∷ dot w.cells xs ∷ dot (total_cells (weigh ws fs)) xs ∷ [])
    ((var 0 ⊗ var 1 ⊕ var 2) ⊗ var 3 ⊕ (var 0 ⊗ var 4 ⊕ var 5))
    (var 0 ⊗ (var 1 ⊗ var 3 ⊕ var 4) ⊕ (var 2 ⊗ var 3 ⊕ var 5))
    refl
    ∙ ap (λ z. f *ℤ (w.constant *ℤ d +ℤ dot w.cells xs) +ℤ z) (total_is_sum ws fs d xs))

-- the numbers of a list, from place k on
abbrev from_place : List ℤ → ℕ → List ℤ → ℤ
from_place r k [] = pos 0
from_place r k (p ∷ ps) = p *ℤ cell r k +ℤ from_place r (suc k) ps

from_first : (r ps : List ℤ) → from_place r 0 ps ≡ dot ps r
from_first r [] = refl
from_first [] (p ∷ ps) = nothing (p ∷ ps) 0
  where
    nothing : (ps : List ℤ) (k : ℕ) → from_place [] k ps ≡ pos 0
    nothing [] k = refl
    nothing (p ∷ ps) k = ap (λ z. p *ℤ pos 0 +ℤ z) (nothing ps (suc k)) ∙ by_ring (p ∷ []) (var 0 ⊗ lit (pos 0) ⊕ lit (pos 0)) (lit (pos 0)) refl
from_first (a ∷ r) (p ∷ ps) = ap (λ z. p *ℤ a +ℤ z) (later ps 0 ∙ from_first r ps)
  where
    later : (ps : List ℤ) (k : ℕ) → from_place (a ∷ r) (suc k) ps ≡ from_place r k ps
    later [] k = refl
    later (p ∷ ps) k = ap (λ z. p *ℤ cell r k +ℤ z) (later ps (suc k))

pub levels_length : (n : ℕ) (q : Quadratic) (ws : List Weighted) (k c : ℕ) → length (levels n q ws k c) ≡ c
levels_length n q ws k zero = refl
levels_length n q ws k (suc c) = ap suc (levels_length n q ws (suc k) c)

sum_levels_from : (n : ℕ) (q : Quadratic) (ws : List Weighted) (d : ℤ) (ns h : List ℤ) → ((k : ℕ) → value_times (level n q ws k).constant (level n q ws k).cells d ns ≡ cell h k) → (k c : ℕ) (ps : List ℤ) → length ps ≡ c → sum_at (levels n q ws k c) ps d ns ≡ from_place h k ps
sum_levels_from n q ws d ns h v k zero [] e = refl
sum_levels_from n q ws d ns h v k zero (p ∷ ps) e = absurd (omega arith)
sum_levels_from n q ws d ns h v k (suc c) [] e = absurd (omega arith)
sum_levels_from n q ws d ns h v k (suc c) (p ∷ ps) e = ap₂ (λ s t. p *ℤ s +ℤ t) (v k) (sum_levels_from n q ws d ns h v (suc k) c ps (omega arith))

-- the rows with the factors of a step: the gradient along it less the multipliers times the quantities along it
pub sum_levels : (n : ℕ) (q : Quadratic) (ws : List Weighted) (d : ℤ) (xs us ps : List ℤ) → length q.square ≤ n → All (λ r. length r ≤ n) q.square → length xs ≡ n → length ps ≡ n
    → sum_at (levels n q ws 0 n) ps d (xs ++ us) ≡ dot (gradient q d xs) ps -ℤ dot (total_cells (weigh ws us)) ps
sum_levels n q ws d xs us ps rows cells e l =
    let g = gradient q d xs in
    let t = total_cells (weigh ws us) in
    let h = add_rows g (scale (negsuc 0) t) in
    sum_levels_from n q ws d (xs ++ us) h
    (λ k. level_value n q ws k d xs us rows cells e ∙ (by_ring (cell g k ∷ cell t k ∷ []) (var 0 ⊖ var 1) (var 0 ⊕ lit (negsuc 0) ⊗ var 1) refl ∙ sym (cell-add_rows g (scale (negsuc 0) t) k ∙ ap (λ z. cell g k +ℤ z) (cell-scale (negsuc 0) t k))))
    0 n ps l
    ∙ (from_first h ps ∙ (dot_comm ps h ∙ (dot-add_rows g (scale (negsuc 0) t) ps ∙ (ap (λ z. dot g ps +ℤ z) (dot-scale (negsuc 0) t ps) ∙ by_ring (dot g ps ∷ dot t ps ∷ []) (var 0 ⊕ lit (negsuc 0) ⊗ var 1) (var 0 ⊖ var 1) refl))))
