-- A row point's numbers and the game's numbers there.
use Rattle.std.proofs.Common.{◌≡◌, ℕ, zero, suc, ◌+◌, ℤ, pos, ◌*ℤ◌, ◌≤ℤ◌, ◌<ℤ◌, ◌⊎◌, inl, inr, Bool, true, false, ◌&&◌, nat_eq, cond, List, [], ◌∷◌, ◌++◌, map, take, drop, length, arith, refl, sym, ap, ap₂, subst, ◌∙◌, length-append}
use Rattle.std.proofs.lemmas.List.{take-append-drop}
use lib.IntN.{*ℤ-zero}
use Rattle.emp_algebra.specs.Vector.{cell, scale}
use Rattle.emp_algebra.proofs.Laws.{mul_nonneg, one-*ℤ}
use Rattle.emp_algebra.proofs.Order.{linear}
use Rattle.emp_algebra.proofs.Vectors.{cell-scale, length-scale}
use Rattle.emp_systems.proofs.Scaled.{value_scaled}
use Rattle.emp_game.specs.Game.{Row}
use Rattle.emp_game.specs.Solved.{value_at}
use Rattle.emp_split.specs.Games.{Game, coordinates}
use Rattle.emp_split.specs.Numbers.{Slot, slots}
use Rattle.emp_conditions.specs.Base.{Base, range, multiplier, base_slots, index_base, split_of}
use Rattle.emp_conditions.specs.Rows.{Condition, zero_row, nonneg_row, pair, HoldsAt, HoldAt, conditions, SolvesRows}
use Rattle.emp_quantities.specs.Over.{raised, over}

-- ---- lengths
raised_none : (n : ℤ) (bs : List Base) → raised n bs [] ≡ []
raised_none n [] = refl
raised_none n (b ∷ bs) = refl

raised_length : (n : ℤ) (bs : List Base) (xs : List ℤ) → length (raised n bs xs) ≡ length xs
raised_length n [] xs = refl
raised_length n (b ∷ bs) [] = refl
raised_length n (range j k ∷ bs) (x ∷ xs) = ap suc (raised_length n bs xs)
raised_length n (multiplier j e ∷ bs) (x ∷ xs) = ap suc (raised_length n bs xs)

pub over_length : (n : ℤ) (g : Game) (xs : List ℤ) → length (over n g xs) ≡ length xs
over_length n g xs =
    length-append (take (coordinates g) xs) (raised n (base_slots g) (drop (coordinates g) xs))
    ∙ (ap (λ k. length (take (coordinates g) xs) + k) (raised_length n (base_slots g) (drop (coordinates g) xs))
    ∙ (sym (length-append (take (coordinates g) xs) (drop (coordinates g) xs)) ∙ ap length (take-append-drop (coordinates g) xs)))

-- ---- coordinates and multipliers stay
take_at : (c : ℕ) (n : ℤ) (bs : List Base) (xs : List ℤ) → take c (take c xs ++ raised n bs (drop c xs)) ≡ take c xs
take_at zero n bs xs = refl
take_at (suc c) n bs [] = ap (take (suc c)) (raised_none n bs)
take_at (suc c) n bs (x ∷ xs) = ap (λ (ys : List ℤ). x ∷ ys) (take_at c n bs xs)

pub take_over : (n : ℤ) (g : Game) (xs : List ℤ) → take (coordinates g) (over n g xs) ≡ take (coordinates g) xs
take_over n g xs = take_at (coordinates g) n (base_slots g) xs

raised_cell : (n : ℤ) (j e : ℕ) (bs : List Base) (xs : List ℤ) → cell (raised n bs xs) (index_base (multiplier j e) bs) ≡ cell xs (index_base (multiplier j e) bs)
raised_cell n j e [] xs = refl
raised_cell n j e (b ∷ bs) [] = refl
raised_cell n j e (range i k ∷ bs) (x ∷ xs) = raised_cell n j e bs xs
raised_cell n j e (multiplier i f ∷ bs) (x ∷ xs) = go (raised_cell n j e bs xs) (nat_eq i j && nat_eq f e)
  where
    go : cell (raised n bs xs) (index_base (multiplier j e) bs) ≡ cell xs (index_base (multiplier j e) bs) → (b : Bool) → cell (x ∷ raised n bs xs) (cond b 0 (suc (index_base (multiplier j e) bs))) ≡ cell (x ∷ xs) (cond b 0 (suc (index_base (multiplier j e) bs)))
    go rest true = refl
    go rest false = rest

cell_at : (c i : ℕ) (n : ℤ) (bs : List Base) → ((ys : List ℤ) → cell (raised n bs ys) i ≡ cell ys i) → (xs : List ℤ) (k : ℕ) → c + i ≡ k → cell (take c xs ++ raised n bs (drop c xs)) k ≡ cell xs k
cell_at zero i n bs h xs k e = subst (λ (m : ℕ). cell (raised n bs xs) m ≡ cell xs m) (omega (arith, e)) (h xs)
cell_at (suc c) i n bs h [] k e = ap (λ (ys : List ℤ). cell ys k) (raised_none n bs)
cell_at (suc c) i n bs h (x ∷ xs) zero e = absurd (omega (arith, e))
cell_at (suc c) i n bs h (x ∷ xs) (suc k) e = cell_at c i n bs h xs k (omega (arith, e))

map_same : (f h : Slot → ℤ) (ss : List Slot) → ((s : Slot) → f s ≡ h s) → map f ss ≡ map h ss
map_same f h [] e = refl
map_same f h (s ∷ ss) e = ap₂ (λ (z : ℤ) (zs : List ℤ). z ∷ zs) (e s) (map_same f h ss e)

-- the coordinates and the multipliers are those of the row point
pub split_over : (n : ℤ) (g : Game) (xs : List ℤ) → split_of g (over n g xs) ≡ split_of g xs
split_over n g xs = ap₂ (λ (ys zs : List ℤ). ys ++ zs) (take_over n g xs) (map_same (number (over n g xs)) (number xs) (slots g) (λ s. cell_at (coordinates g) (index_base (multiplier s.0 s.1) (base_slots g)) n (base_slots g) (raised_cell n s.0 s.1 (base_slots g)) xs (coordinates g + index_base (multiplier s.0 s.1) (base_slots g)) refl))
  where
    number : List ℤ → Slot → ℤ
    number ys s = cell ys (coordinates g + index_base (multiplier s.0 s.1) (base_slots g))

-- ---- the row point of numbers of the game, all times n
-- the numbers but those of ranges times n
abbrev lowered : ℤ → List Base → List ℤ → List ℤ
lowered n [] xs = scale n xs
lowered n (b ∷ bs) [] = []
lowered n (range j k ∷ bs) (x ∷ xs) = x ∷ lowered n bs xs
lowered n (multiplier j e ∷ bs) (x ∷ xs) = (n *ℤ x) ∷ lowered n bs xs

raised_lowered : (n : ℤ) (bs : List Base) (xs : List ℤ) → raised n bs (lowered n bs xs) ≡ scale n xs
raised_lowered n [] xs = refl
raised_lowered n (b ∷ bs) [] = refl
raised_lowered n (range j k ∷ bs) (x ∷ xs) = ap (λ (ys : List ℤ). (n *ℤ x) ∷ ys) (raised_lowered n bs xs)
raised_lowered n (multiplier j e ∷ bs) (x ∷ xs) = ap (λ (ys : List ℤ). (n *ℤ x) ∷ ys) (raised_lowered n bs xs)

abbrev lowered_at : ℕ → ℤ → List Base → List ℤ → List ℤ
lowered_at zero n bs xs = lowered n bs xs
lowered_at (suc c) n bs [] = []
lowered_at (suc c) n bs (x ∷ xs) = (n *ℤ x) ∷ lowered_at c n bs xs

over_at : (c : ℕ) (n : ℤ) (bs : List Base) (xs : List ℤ) → take c (lowered_at c n bs xs) ++ raised n bs (drop c (lowered_at c n bs xs)) ≡ scale n xs
over_at zero n bs xs = raised_lowered n bs xs
over_at (suc c) n bs [] = raised_none n bs
over_at (suc c) n bs (x ∷ xs) = ap (λ (ys : List ℤ). (n *ℤ x) ∷ ys) (over_at c n bs xs)

abbrev pub under : ℤ → Game → List ℤ → List ℤ
under n g xs = lowered_at (coordinates g) n (base_slots g) xs

pub over_under : (n : ℤ) (g : Game) (xs : List ℤ) → over n g (under n g xs) ≡ scale n xs
over_under n g xs = over_at (coordinates g) n (base_slots g) xs

-- ---- times 1 the numbers stay
raised_one : (bs : List Base) (xs : List ℤ) → raised (pos 1) bs xs ≡ xs
raised_one [] xs = refl
raised_one (b ∷ bs) [] = refl
raised_one (range j k ∷ bs) (x ∷ xs) = ap₂ (λ (z : ℤ) (zs : List ℤ). z ∷ zs) (one-*ℤ x) (raised_one bs xs)
raised_one (multiplier j e ∷ bs) (x ∷ xs) = ap (λ (ys : List ℤ). x ∷ ys) (raised_one bs xs)

pub over_one : (g : Game) (xs : List ℤ) → over (pos 1) g xs ≡ xs
over_one g xs = ap (λ (ys : List ℤ). take (coordinates g) xs ++ ys) (raised_one (base_slots g) (drop (coordinates g) xs)) ∙ take-append-drop (coordinates g) xs

-- ---- all numbers times n
scale_append : (n : ℤ) (xs ys : List ℤ) → scale n (xs ++ ys) ≡ scale n xs ++ scale n ys
scale_append n [] ys = refl
scale_append n (x ∷ xs) ys = ap (λ (zs : List ℤ). (n *ℤ x) ∷ zs) (scale_append n xs ys)

take_scale : (c : ℕ) (n : ℤ) (xs : List ℤ) → take c (scale n xs) ≡ scale n (take c xs)
take_scale zero n xs = refl
take_scale (suc c) n [] = refl
take_scale (suc c) n (x ∷ xs) = ap (λ (ys : List ℤ). (n *ℤ x) ∷ ys) (take_scale c n xs)

scale_map : (n : ℤ) (f h : Slot → ℤ) (ss : List Slot) → ((s : Slot) → f s ≡ n *ℤ h s) → map f ss ≡ scale n (map h ss)
scale_map n f h [] e = refl
scale_map n f h (s ∷ ss) e = ap₂ (λ (z : ℤ) (zs : List ℤ). z ∷ zs) (e s) (scale_map n f h ss e)

pub split_scaled : (n : ℤ) (g : Game) (xs : List ℤ) → split_of g (scale n xs) ≡ scale n (split_of g xs)
split_scaled n g xs =
    ap₂ (λ (ys zs : List ℤ). ys ++ zs) (take_scale (coordinates g) n xs) (scale_map n (number (scale n xs)) (number xs) (slots g) (λ s. cell-scale n xs (coordinates g + index_base (multiplier s.0 s.1) (base_slots g))))
    ∙ sym (scale_append n (take (coordinates g) xs) (map (number xs) (slots g)))
  where
    number : List ℤ → Slot → ℤ
    number ys s = cell ys (coordinates g + index_base (multiplier s.0 s.1) (base_slots g))

row_scaled : (n d : ℤ) (xs : List ℤ) (r : Row) → value_at r (n *ℤ d) (scale n xs) ≡ n *ℤ value_at r d xs
row_scaled n d xs r = value_scaled r.constant r.cells n d xs

none_scaled : (n d : ℤ) (xs : List ℤ) (r : Row) → value_at r d xs ≡ pos 0 → value_at r (n *ℤ d) (scale n xs) ≡ pos 0
none_scaled n d xs r h = row_scaled n d xs r ∙ (ap (λ z. n *ℤ z) h ∙ *ℤ-zero n)

nonneg_scaled : (n d : ℤ) (xs : List ℤ) (r : Row) → pos 0 <ℤ n → pos 0 ≤ℤ value_at r d xs → pos 0 ≤ℤ value_at r (n *ℤ d) (scale n xs)
nonneg_scaled n d xs r p h = subst (λ z. pos 0 ≤ℤ z) (sym (row_scaled n d xs r)) (mul_nonneg n (value_at r d xs) (omega (arith, linear, p)) h)

holds_scaled : (n d : ℤ) (xs : List ℤ) (c : Condition) → pos 0 <ℤ n → HoldsAt c d xs → HoldsAt c (n *ℤ d) (scale n xs)
holds_scaled n d xs (zero_row r) p h = none_scaled n d xs r h
holds_scaled n d xs (nonneg_row r) p h = nonneg_scaled n d xs r p h
holds_scaled n d xs (pair a b) p h = (nonneg_scaled n d xs a p h.0, nonneg_scaled n d xs b p h.1, either h.2)
  where
    either : (value_at a d xs ≡ pos 0) ⊎ (value_at b d xs ≡ pos 0) → (value_at a (n *ℤ d) (scale n xs) ≡ pos 0) ⊎ (value_at b (n *ℤ d) (scale n xs) ≡ pos 0)
    either (inl e) = inl (none_scaled n d xs a e)
    either (inr e) = inr (none_scaled n d xs b e)

hold_scaled : (n d : ℤ) (xs : List ℤ) (cs : List Condition) → pos 0 <ℤ n → HoldAt cs d xs → HoldAt cs (n *ℤ d) (scale n xs)
hold_scaled n d xs [] p h = tt
hold_scaled n d xs (c ∷ cs) p h = (holds_scaled n d xs c p h.0, hold_scaled n d xs cs p h.1)

pub rows_scaled : (g : Game) (n d : ℤ) (xs : List ℤ) → pos 0 <ℤ n → SolvesRows g d xs → SolvesRows g (n *ℤ d) (scale n xs)
rows_scaled g n d xs p h = record { count = length-scale n xs ∙ h.count; hold = hold_scaled n d xs (conditions g) p h.hold }
