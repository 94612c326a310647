-- The derivatives of what a player wants to be least, with the multipliers charged, by its own coordinates.
use Rattle.std.proofs.Common.{◌≡◌, ◌⊎◌, inl, inr, ℕ, zero, suc, ℤ, pos, ◌+ℤ◌, ◌-ℤ◌, ◌*ℤ◌, Bool, true, false, ◌||◌, nat_eq, List, [], ◌∷◌, map, arith, refl, sym, ap, ap₂, ◌∙◌}
use Rattle.std.proofs.lemmas.Int.{ints}
use Rattle.std.proofs.lemmas.Bool.{eqb-true, false≢true}
use Rattle.emp_algebra.proofs.Ring.{var, lit, ◌⊕◌, ◌⊖◌, ◌⊗◌, by_ring}
use Rattle.emp_algebra.proofs.Vectors.{dot-add_rows}
use Rattle.emp_algebra.specs.Vector.{cell, dot, scale}
use Rattle.emp_algebra.specs.Deciding.{total_cells}
use Rattle.emp_systems.specs.Own.{unit}
use Rattle.emp_systems.specs.Steps.{Quadratic, products, combined, gradient}
use Rattle.emp_systems.proofs.Eliminate.{cell-add_rows}
use Rattle.emp_systems.proofs.Lagrangian.{gradient_cell, gradient_left}
use Rattle.emp_systems.proofs.Own.{unit_other}
use Rattle.emp_algebra.proofs.Vectors.{cell-scale}
use Rattle.emp_game.specs.Game.{Row, Rule, Purpose, goal, flow, Player, names, AreApart}
use Rattle.emp_game.specs.Solved.{value_at, flow_row, purpose_at, times_at, charged, charged_purpose}
use Rattle.emp_game.specs.Conditions.{column, row_of, derivative, derivatives, charged_slope}

-- ---- names
pub eqb_refl : (k : ℕ) → nat_eq k k ≡ true
eqb_refl k = grind arith

abbrev pub eqb_true : (j k : ℕ) → nat_eq j k ≡ true → j ≡ k
eqb_true j k h = eqb-true j k h

-- the number k stands in the list with the row f in the other list
abbrev pub Zipped : List ℕ → List Row → ℕ → Row → Type 0
Zipped [] fs k f = ⊥
Zipped (j ∷ js) [] k f = ⊥
Zipped (j ∷ js) (g ∷ gs) k f = ((j ≡ k) × (g ≡ f)) ⊎ Zipped js gs k f

pub zipped_named : (js : List ℕ) (gs : List Row) (k : ℕ) (f : Row) → Zipped js gs k f → names js k ≡ true
zipped_named [] gs k f h = absurd h
zipped_named (j ∷ js) [] k f h = absurd h
zipped_named (j ∷ js) (g ∷ gs) k f (inl h) = ap (λ b. b || names js k) (ap (λ i. nat_eq i k) h.0 ∙ eqb_refl k)
zipped_named (j ∷ js) (g ∷ gs) k f (inr h) = later (nat_eq j k) (zipped_named js gs k f h)
  where
    later : (b : Bool) → names js k ≡ true → b || names js k ≡ true
    later true e = refl
    later false e = e

-- ---- goals
pub products_row : (m : List (List ℤ)) (xs : List ℤ) (k : ℕ) → cell (products m xs) k ≡ dot (row_of m k) xs
products_row [] xs k = refl
products_row (r ∷ rs) xs zero = refl
products_row (r ∷ rs) xs (suc k) = products_row rs xs k

combined_column : (m : List (List ℤ)) (xs : List ℤ) (k : ℕ) → cell (combined m xs) k ≡ dot (column m k) xs
combined_column [] xs k = refl
combined_column (r ∷ rs) [] k = refl
combined_column (r ∷ rs) (x ∷ xs) k =
    cell-add_rows (scale x r) (combined rs xs) k ∙ (ap₂ (λ s t. s +ℤ t) (cell-scale x r k) (combined_column rs xs k) ∙ by_ring (x ∷ cell r k ∷ dot (column rs k) xs ∷ []) (var 0 ⊗ var 1 ⊕ var 2) (var 1 ⊗ var 0 ⊕ var 2) refl)

pub gradient_derivative : (q : Quadratic) (d : ℤ) (xs : List ℤ) (k : ℕ) → cell (gradient q d xs) k ≡ value_at (derivative q k) d xs
gradient_derivative q d xs k =
    gradient_cell q d xs k
    ∙ (ap₂ (λ s t. d *ℤ cell q.linear k +ℤ (s +ℤ t)) (products_row q.square xs k) (combined_column q.square xs k)
    ∙ (by_ring (d ∷ cell q.linear k ∷ dot (row_of q.square k) xs ∷ dot (column q.square k) xs ∷ []) (var 0 ⊗ var 1 ⊕ (var 2 ⊕ var 3)) (var 1 ⊗ var 0 ⊕ (var 2 ⊕ var 3)) refl
    ∙ ap (λ z. cell q.linear k *ℤ d +ℤ z) (sym (dot-add_rows (row_of q.square k) (column q.square k) xs))))

zipped_map : (q : Quadratic) (js : List ℕ) (k : ℕ) (f : Row) → Zipped js (map (derivative q) js) k f → derivative q k ≡ f
zipped_map q [] k f h = absurd h
zipped_map q (j ∷ js) k f (inl h) = ap (derivative q) (sym h.0) ∙ h.1
zipped_map q (j ∷ js) k f (inr h) = zipped_map q js k f h

-- ---- flows
pub unit_same : (k : ℕ) (s : ℤ) → cell (unit k s) k ≡ s
unit_same zero s = refl
unit_same (suc k) s = unit_same k s

or_left : (b c : Bool) → b || c ≡ false → b ≡ false
or_left true c h = h
or_left false c h = refl

or_right : (b c : Bool) → b || c ≡ false → c ≡ false
or_right true c h = absurd (false≢true (sym h))
or_right false c h = h

not_same : (j k : ℕ) → nat_eq j k ≡ false → j ≡ k → ⊥
not_same j k h e = false≢true (sym h ∙ (ap (λ i. nat_eq i k) e ∙ eqb_refl k))

flow_none : (js : List ℕ) (gs : List Row) (d : ℤ) (xs : List ℤ) (k : ℕ) → names js k ≡ false → cell (flow_row js gs d xs) k ≡ pos 0
flow_none [] gs d xs k h = refl
flow_none (j ∷ js) [] d xs k h = refl
flow_none (j ∷ js) (g ∷ gs) d xs k h =
    cell-add_rows (unit j (value_at g d xs)) (flow_row js gs d xs) k
    ∙ ap₂ (λ s t. s +ℤ t) (unit_other j k (value_at g d xs) (not_same j k (or_left (nat_eq j k) (names js k) h))) (flow_none js gs d xs k (or_right (nat_eq j k) (names js k) h))

flow_there : (js : List ℕ) (gs : List Row) (d : ℤ) (xs : List ℤ) (k : ℕ) (f : Row) → AreApart js → Zipped js gs k f → cell (flow_row js gs d xs) k ≡ value_at f d xs
flow_there [] gs d xs k f a h = absurd h
flow_there (j ∷ js) [] d xs k f a h = absurd h
flow_there (j ∷ js) (g ∷ gs) d xs k f a (inl h) =
    cell-add_rows (unit j (value_at g d xs)) (flow_row js gs d xs) k
    ∙ (ap₂ (λ s t. s +ℤ t) (ap (λ i. cell (unit i (value_at g d xs)) k) h.0 ∙ unit_same k (value_at g d xs)) (flow_none js gs d xs k (ap (names js) (sym h.0) ∙ a.0))
    ∙ (omega (arith, ints) ∙ ap (λ i. value_at i d xs) h.1))
flow_there (j ∷ js) (g ∷ gs) d xs k f a (inr h) =
    cell-add_rows (unit j (value_at g d xs)) (flow_row js gs d xs) k
    ∙ (ap₂ (λ s t. s +ℤ t) (unit_other j k (value_at g d xs) (λ e. false≢true (sym a.0 ∙ (ap (names js) e ∙ zipped_named js gs k f h)))) (flow_there js gs d xs k f a.1 h)
    ∙ by_ring (value_at f d xs ∷ []) (lit (pos 0) ⊕ var 0) (var 0) refl)

-- ---- both
-- the derivative of the purpose, times what it is taken times, is d times the player's derivative
purpose_slope : (p : Purpose) (own : List ℕ) (rules : List Rule) (d : ℤ) (xs : List ℤ) (k : ℕ) (f : Row) → AreApart own → Zipped own (derivatives (record { own = own; purpose = p; rules = rules })) k f → times_at p d *ℤ cell (gradient (purpose_at p own d xs) d xs) k ≡ d *ℤ value_at f d xs
purpose_slope (goal q) own rules d xs k f a h = ap (λ z. d *ℤ z) (gradient_derivative q d xs k ∙ ap (λ g. value_at g d xs) (zipped_map q own k f h))
purpose_slope (flow fs) own rules d xs k f a h =
    ap (λ z. pos 1 *ℤ z) (gradient_cell (purpose_at (flow fs) own d xs) d xs k ∙ ap (λ z. d *ℤ z +ℤ (pos 0 +ℤ pos 0)) (flow_there own fs d xs k f a h))
    ∙ by_ring (d ∷ value_at f d xs ∷ []) (lit (pos 1) ⊗ (var 0 ⊗ var 1 ⊕ (lit (pos 0) ⊕ lit (pos 0)))) (var 0 ⊗ var 1) refl

pub charged_gradient : (pl : Player) (d : ℤ) (xs us : List ℤ) (k : ℕ) (f : Row) → AreApart pl.own → Zipped pl.own (derivatives pl) k f → cell (gradient (charged_purpose pl d xs us) d xs) k ≡ d *ℤ charged_slope pl f k d xs us
charged_gradient pl d xs us k f a h =
    gradient_left (times_at pl.purpose d) (purpose_at pl.purpose pl.own d xs) (charged pl.rules us) d xs k
    ∙ (ap (λ z. z -ℤ d *ℤ cell (total_cells (charged pl.rules us)) k) (purpose_slope pl.purpose pl.own pl.rules d xs k f a h)
    ∙ by_ring (d ∷ value_at f d xs ∷ cell (total_cells (charged pl.rules us)) k ∷ []) (var 0 ⊗ var 1 ⊖ var 0 ⊗ var 2) (var 0 ⊗ (var 1 ⊖ var 2)) refl)
