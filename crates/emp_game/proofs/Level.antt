-- A point that is least among its deviations has the rows: by one short step of each own coordinate.
use Rattle.std.proofs.Common.{◌≡◌, ◌⊎◌, inl, inr, ℕ, suc, ◌<◌, ◌≤◌, ℤ, pos, negsuc, neg_ℤ, ◌+ℤ◌, ◌-ℤ◌, ◌*ℤ◌, ◌≤ℤ◌, ◌<ℤ◌, Bool, true, false, nat_eq, List, [], ◌∷◌, All, map, length, arith, refl, sym, ap, ap₂, subst, ◌∙◌}
use Rattle.std.proofs.lemmas.Int.{ints}
use Rattle.std.proofs.lemmas.Bool.{false≢true}
use Rattle.std.proofs.lemmas.List.Elements.{All-nil, All-cons, All-head}
use lib.IntN.{zero-*ℤ}
use Rattle.emp_algebra.proofs.Ring.{var, lit, neg, ◌⊕◌, ◌⊖◌, ◌⊗◌, by_ring}
use Rattle.emp_algebra.proofs.Laws.{mul_nonneg, mul_pos}
use Rattle.emp_algebra.proofs.Order.{linear, le_or_lt, le_cancel_right}
use Rattle.emp_algebra.proofs.Vectors.{dot_comm, cell-scale, length-scale}
use Rattle.emp_algebra.specs.Vector.{cell, dot, scale, add_rows}
use Rattle.emp_algebra.specs.Deciding.{Nonneg, Weighted, value_times}
use Rattle.emp_num.specs.Ratio.{ratio}
use Rattle.emp_systems.specs.Own.{unit}
use Rattle.emp_systems.specs.Steps.{Quadratic, gradient, moved, IsBelow, IsAtMost, ForShort}
use Rattle.emp_systems.proofs.Eliminate.{cell-add_rows}
use Rattle.emp_systems.proofs.Own.{dot_unit, unit_length, unit_other}
use Rattle.emp_systems.proofs.Steps.{short_steps_fall}
use Rattle.emp_ast.specs.declared.model.Relation.{Relation}
use Rattle.emp_ast.specs.declared.model.Relation.TheVariants.{Equal, AtLeast, AtMost, Nothing}
use Rattle.emp_ast.specs.declared.model.End.{End}
use Rattle.emp_ast.specs.declared.model.End.TheVariants.{Open, At}
use Rattle.emp_ast.specs.Meets as Meets
use Rattle.emp_game.specs.Game.{Row, Rule, Purpose, goal, flow, Player, Ranges, range_at, owns, IsPurpose, IsPlayer}
use Rattle.emp_game.specs.Solved.{value_at, InRange, IsObeyed, Obeys, IsDeviation, HasSign, AreSigned, charged_purpose, AreMultipliers}
use Rattle.emp_game.specs.Conditions.{CoordinateHolds, derivative, derivatives, charged_slope, CoordinatesHold, RuleHolds, RulesHold, Holds}
use Rattle.emp_game.proofs.Numbers.{MayFall, MayRise, negative_part, coordinate_level}
use Rattle.emp_game.proofs.Slopes.{Zipped, eqb_true, eqb_refl, zipped_named, unit_same, charged_gradient}

-- ---- a point after a step of one coordinate
moved_cell : (d : ℤ) (xs vs : List ℤ) (a b : ℤ) (j : ℕ) → cell (moved d xs vs a b) j ≡ b *ℤ cell xs j +ℤ a *ℤ d *ℤ cell vs j
moved_cell d xs vs a b j = cell-add_rows (scale b xs) (scale (a *ℤ d) vs) j ∙ ap₂ (λ s t. s +ℤ t) (cell-scale b xs j) (cell-scale (a *ℤ d) vs j)

moved_other : (d : ℤ) (xs : List ℤ) (k : ℕ) (s a b : ℤ) (j : ℕ) → (k ≡ j → ⊥) → cell (moved d xs (unit k s) a b) j ≡ b *ℤ cell xs j
moved_other d xs k s a b j h =
    moved_cell d xs (unit k s) a b j ∙ (ap (λ z. b *ℤ cell xs j +ℤ a *ℤ d *ℤ z) (unit_other k j s h) ∙ by_ring (a ∷ b ∷ d ∷ cell xs j ∷ []) (var 1 ⊗ var 3 ⊕ var 0 ⊗ var 2 ⊗ lit (pos 0)) (var 1 ⊗ var 3) refl)

moved_own : (d : ℤ) (xs : List ℤ) (k : ℕ) (s a b : ℤ) → cell (moved d xs (unit k s) a b) k ≡ b *ℤ cell xs k +ℤ a *ℤ d *ℤ s
moved_own d xs k s a b = moved_cell d xs (unit k s) a b k ∙ ap (λ z. b *ℤ cell xs k +ℤ a *ℤ d *ℤ z) (unit_same k s)

add_length : (r s : List ℤ) → length s ≤ length r → length (add_rows r s) ≡ length r
add_length [] [] h = refl
add_length [] (b ∷ s) h = absurd (omega arith)
add_length (a ∷ r) [] h = refl
add_length (a ∷ r) (b ∷ s) h = ap suc (add_length r s (omega arith))

moved_count : (d : ℤ) (xs : List ℤ) (k : ℕ) (s a b : ℤ) → k < length xs → length (moved d xs (unit k s) a b) ≡ length xs
moved_count d xs k s a b h =
    add_length (scale b xs) (scale (a *ℤ d) (unit k s)) (let l = length-scale b xs in let m = length-scale (a *ℤ d) (unit k s) in let u = unit_length k s in omega arith) ∙ length-scale b xs

-- ---- ranges after the step
pub scaled_above : (lo : End) (x d b : ℤ) → pos 0 <ℤ b → Meets.IsAbove (ratio x d) lo → Meets.IsAbove (ratio (b *ℤ x) (b *ℤ d)) lo
scaled_above Open x d b p h = tt
scaled_above (At f) x d b p h =
    let some = mul_nonneg b (x *ℤ f.den -ℤ f.num *ℤ d) (omega (arith, linear, p)) (omega (arith, linear, h)) in
    let same = by_ring (b ∷ x ∷ f.den ∷ f.num ∷ d ∷ []) (var 0 ⊗ (var 1 ⊗ var 2 ⊖ var 3 ⊗ var 4)) (var 0 ⊗ var 1 ⊗ var 2 ⊖ var 3 ⊗ (var 0 ⊗ var 4)) refl in
    omega (arith, linear, some, same)

pub scaled_below : (hi : End) (x d b : ℤ) → pos 0 <ℤ b → Meets.IsBelow (ratio x d) hi → Meets.IsBelow (ratio (b *ℤ x) (b *ℤ d)) hi
scaled_below Open x d b p h = tt
scaled_below (At f) x d b p h =
    let some = mul_nonneg b (f.num *ℤ d -ℤ x *ℤ f.den) (omega (arith, linear, p)) (omega (arith, linear, h)) in
    let same = by_ring (b ∷ x ∷ f.den ∷ f.num ∷ d ∷ []) (var 0 ⊗ (var 3 ⊗ var 4 ⊖ var 1 ⊗ var 2)) (var 3 ⊗ (var 0 ⊗ var 4) ⊖ var 0 ⊗ var 1 ⊗ var 2) refl in
    omega (arith, linear, some, same)

risen_above : (lo : End) (x d a b : ℤ) → pos 0 <ℤ a → pos 0 <ℤ b → pos 0 <ℤ d → Meets.IsAbove (ratio x d) lo → Meets.IsAbove (ratio (b *ℤ x +ℤ a *ℤ d *ℤ pos 1) (b *ℤ d)) lo
risen_above Open x d a b pa pb pd h = tt
risen_above (At f) x d a b pa pb pd h =
    let some = mul_nonneg b (x *ℤ f.den -ℤ f.num *ℤ d) (omega (arith, linear, pb)) (omega (arith, linear, h)) in
    let more = mul_pos (a *ℤ d) f.den (mul_pos a d pa pd) f.positive in
    let same = by_ring (b ∷ x ∷ f.den ∷ f.num ∷ d ∷ a ∷ []) ((var 0 ⊗ var 1 ⊕ var 5 ⊗ var 4 ⊗ lit (pos 1)) ⊗ var 2 ⊖ var 3 ⊗ (var 0 ⊗ var 4)) (var 0 ⊗ (var 1 ⊗ var 2 ⊖ var 3 ⊗ var 4) ⊕ var 5 ⊗ var 4 ⊗ var 2) refl in
    omega (arith, linear, some, more, same)

fallen_below : (hi : End) (x d a b : ℤ) → pos 0 <ℤ a → pos 0 <ℤ b → pos 0 <ℤ d → Meets.IsBelow (ratio x d) hi → Meets.IsBelow (ratio (b *ℤ x +ℤ a *ℤ d *ℤ negsuc 0) (b *ℤ d)) hi
fallen_below Open x d a b pa pb pd h = tt
fallen_below (At f) x d a b pa pb pd h =
    let some = mul_nonneg b (f.num *ℤ d -ℤ x *ℤ f.den) (omega (arith, linear, pb)) (omega (arith, linear, h)) in
    let more = mul_pos (a *ℤ d) f.den (mul_pos a d pa pd) f.positive in
    let same = by_ring (b ∷ x ∷ f.den ∷ f.num ∷ d ∷ a ∷ []) (var 3 ⊗ (var 0 ⊗ var 4) ⊖ (var 0 ⊗ var 1 ⊕ var 5 ⊗ var 4 ⊗ lit (negsuc 0)) ⊗ var 2) (var 0 ⊗ (var 3 ⊗ var 4 ⊖ var 1 ⊗ var 2) ⊕ var 5 ⊗ var 4 ⊗ var 2) refl in
    omega (arith, linear, some, more, same)

-- ---- what is above 0 while the coordinate may go on
abbrev pub room_above : End → ℕ → List Weighted
room_above Open k = []
room_above (At f) k = record { factor = pos 0; kind = Nonneg; constant = f.num; cells = unit k (neg_ℤ f.den) } ∷ []

abbrev pub room_below : End → ℕ → List Weighted
room_below Open k = []
room_below (At f) k = record { factor = pos 0; kind = Nonneg; constant = neg_ℤ f.num; cells = unit k f.den } ∷ []

abbrev pub IsRoom : ℤ → List ℤ → Weighted → Type 0
IsRoom d xs w = pos 0 <ℤ value_times w.constant w.cells d xs

pub above_value : (num den d : ℤ) (xs : List ℤ) (k : ℕ) → value_times num (unit k (neg_ℤ den)) d xs ≡ num *ℤ d -ℤ cell xs k *ℤ den
above_value num den d xs k = ap (λ z. num *ℤ d +ℤ z) (dot_unit k (neg_ℤ den) xs) ∙ by_ring (num ∷ den ∷ d ∷ cell xs k ∷ []) (var 0 ⊗ var 2 ⊕ neg (var 1) ⊗ var 3) (var 0 ⊗ var 2 ⊖ var 3 ⊗ var 1) refl

pub below_value : (num den d : ℤ) (xs : List ℤ) (k : ℕ) → value_times (neg_ℤ num) (unit k den) d xs ≡ cell xs k *ℤ den -ℤ num *ℤ d
below_value num den d xs k = ap (λ z. neg_ℤ num *ℤ d +ℤ z) (dot_unit k den xs) ∙ by_ring (num ∷ den ∷ d ∷ cell xs k ∷ []) (neg (var 0) ⊗ var 2 ⊕ var 1 ⊗ var 3) (var 3 ⊗ var 1 ⊖ var 0 ⊗ var 2) refl

room_to_rise : (hi : End) (d : ℤ) (xs : List ℤ) (k : ℕ) → MayRise hi d (cell xs k) → All (IsRoom d xs) (room_above hi k)
room_to_rise Open d xs k h = All-nil (IsRoom d xs)
room_to_rise (At f) d xs k h = All-cons (IsRoom d xs) (record { factor = pos 0; kind = Nonneg; constant = f.num; cells = unit k (neg_ℤ f.den) }) [] (subst (λ z. pos 0 <ℤ z) (sym (above_value f.num f.den d xs k)) h) (All-nil (IsRoom d xs))

room_to_fall : (lo : End) (d : ℤ) (xs : List ℤ) (k : ℕ) → MayFall lo d (cell xs k) → All (IsRoom d xs) (room_below lo k)
room_to_fall Open d xs k h = All-nil (IsRoom d xs)
room_to_fall (At f) d xs k h = All-cons (IsRoom d xs) (record { factor = pos 0; kind = Nonneg; constant = neg_ℤ f.num; cells = unit k f.den }) [] (subst (λ z. pos 0 <ℤ z) (sym (below_value f.num f.den d xs k)) h) (All-nil (IsRoom d xs))

room_is_below : (hi : End) (e : ℤ) (ys : List ℤ) (k : ℕ) → All (IsRoom e ys) (room_above hi k) → Meets.IsBelow (ratio (cell ys k) e) hi
room_is_below Open e ys k h = tt
room_is_below (At f) e ys k h =
    let l = All-head (IsRoom e ys) (record { factor = pos 0; kind = Nonneg; constant = f.num; cells = unit k (neg_ℤ f.den) }) [] h in
    omega (arith, linear, l, above_value f.num f.den e ys k)

room_is_above : (lo : End) (e : ℤ) (ys : List ℤ) (k : ℕ) → All (IsRoom e ys) (room_below lo k) → Meets.IsAbove (ratio (cell ys k) e) lo
room_is_above Open e ys k h = tt
room_is_above (At f) e ys k h =
    let l = All-head (IsRoom e ys) (record { factor = pos 0; kind = Nonneg; constant = neg_ℤ f.num; cells = unit k f.den }) [] h in
    omega (arith, linear, l, below_value f.num f.den e ys k)

-- ---- no short step falls
abbrev IsLeastOf : Ranges → Player → Quadratic → ℤ → List ℤ → Type 0
IsLeastOf ranges pl q d xs = (e : ℤ) (ys : List ℤ) → pos 0 <ℤ e → IsDeviation ranges pl d xs e ys → IsAtMost q d xs e ys

no_step : (ranges : Ranges) (pl : Player) (q : Quadratic) (d : ℤ) (xs : List ℤ) (k : ℕ) (s : ℤ) (ws : List Weighted) → pos 0 <ℤ d → k < length xs → IsDeviation ranges pl d xs d xs → owns pl k ≡ true → IsLeastOf ranges pl q d xs → All (IsRoom d xs) ws
    → ((a b : ℤ) → pos 0 <ℤ a → pos 0 <ℤ b → All (IsRoom (b *ℤ d) (moved d xs (unit k s) a b)) ws → InRange (range_at ranges k) (ratio (cell (moved d xs (unit k s) a b) k) (b *ℤ d)))
    → dot (gradient q d xs) (unit k s) <ℤ pos 0 → ⊥
no_step ranges pl q d xs k s ws p l dev o least room stays falls = go (short_steps_fall q ws d xs (unit k s) p falls room)
  where
    go : ForShort (λ a b. IsBelow q (b *ℤ d) (moved d xs (unit k s) a b) d xs × All (IsRoom (b *ℤ d) (moved d xs (unit k s) a b)) ws) → ⊥
    go t = apart (t.holds (pos 1) t.limit (record { above = omega (arith, ints); named = t.positive; short = let same = by_ring (t.limit ∷ []) (lit (pos 1) ⊗ var 0) (var 0) refl in omega (arith, linear, same) }))
      where
        ys : List ℤ
        ys = moved d xs (unit k s) (pos 1) t.limit

        within : All (IsRoom (t.limit *ℤ d) ys) ws → (j : ℕ) → owns pl j ≡ true → (b : Bool) → nat_eq k j ≡ b → InRange (range_at ranges j) (ratio (cell ys j) (t.limit *ℤ d))
        within m j oj true e = subst (λ i. InRange (range_at ranges i) (ratio (cell ys i) (t.limit *ℤ d))) (eqb_true k j e) (stays (pos 1) t.limit (omega (arith, ints)) t.positive m)
        within m j oj false e =
            let same = moved_other d xs k s (pos 1) t.limit j (λ i. false≢true (sym e ∙ (ap (λ z. nat_eq z j) i ∙ eqb_refl j))) in
            let r = range_at ranges j in
            let w = dev.within j oj in
            subst (λ z. InRange r (ratio z (t.limit *ℤ d))) (sym same) (scaled_above r.0 (cell xs j) d t.limit t.positive w.0, scaled_below r.1 (cell xs j) d t.limit t.positive w.1)

        apart : IsBelow q (t.limit *ℤ d) ys d xs × All (IsRoom (t.limit *ℤ d) ys) ws → ⊥
        apart h =
            let most = least (t.limit *ℤ d) ys (mul_pos t.limit d t.positive p) (record {
              fits = moved_count d xs k s (pos 1) t.limit l ∙ dev.fits;
              others = λ j oj.
                  let same = moved_other d xs k s (pos 1) t.limit j (λ i. false≢true (sym oj ∙ (ap (owns pl) (sym i) ∙ o))) in
                  ap (λ z. z *ℤ d) same ∙ by_ring (t.limit ∷ cell xs j ∷ d ∷ []) (var 0 ⊗ var 1 ⊗ var 2) (var 1 ⊗ (var 0 ⊗ var 2)) refl;
              within = λ j oj. within h.1 j oj (nat_eq k j) refl;
            }) in
            let below = h.0 in
            omega (arith, linear, most, below)

slope_unit : (q : Quadratic) (d : ℤ) (xs : List ℤ) (k : ℕ) (s : ℤ) → dot (gradient q d xs) (unit k s) ≡ s *ℤ cell (gradient q d xs) k
slope_unit q d xs k s = dot_comm (gradient q d xs) (unit k s) ∙ dot_unit k s (gradient q d xs)

pub rises : (ranges : Ranges) (pl : Player) (q : Quadratic) (d : ℤ) (xs : List ℤ) (k : ℕ) → pos 0 <ℤ d → k < length xs → IsDeviation ranges pl d xs d xs → owns pl k ≡ true → IsLeastOf ranges pl q d xs → MayRise (range_at ranges k).1 d (cell xs k) → pos 0 ≤ℤ cell (gradient q d xs) k
rises ranges pl q d xs k p l dev o least may = go (le_or_lt (pos 0) (cell (gradient q d xs) k))
  where
    go : (pos 0 ≤ℤ cell (gradient q d xs) k) ⊎ (cell (gradient q d xs) k <ℤ pos 0) → pos 0 ≤ℤ cell (gradient q d xs) k
    go (inl h) = h
    go (inr h) =
        let r = range_at ranges k in
        absurd (no_step ranges pl q d xs k (pos 1) (room_above r.1 k) p l dev o least (room_to_rise r.1 d xs k may)
        (λ a b pa pb m. (
          subst (λ z. Meets.IsAbove (ratio z (b *ℤ d)) r.0) (sym (moved_own d xs k (pos 1) a b)) (risen_above r.0 (cell xs k) d a b pa pb p (dev.within k o).0),
          room_is_below r.1 (b *ℤ d) (moved d xs (unit k (pos 1)) a b) k m,
        ))
        (let same = slope_unit q d xs k (pos 1) in let one = by_ring (cell (gradient q d xs) k ∷ []) (lit (pos 1) ⊗ var 0) (var 0) refl in omega (arith, linear, same, one, h)))

pub falls_not : (ranges : Ranges) (pl : Player) (q : Quadratic) (d : ℤ) (xs : List ℤ) (k : ℕ) → pos 0 <ℤ d → k < length xs → IsDeviation ranges pl d xs d xs → owns pl k ≡ true → IsLeastOf ranges pl q d xs → MayFall (range_at ranges k).0 d (cell xs k) → cell (gradient q d xs) k ≤ℤ pos 0
falls_not ranges pl q d xs k p l dev o least may = go (le_or_lt (cell (gradient q d xs) k) (pos 0))
  where
    go : (cell (gradient q d xs) k ≤ℤ pos 0) ⊎ (pos 0 <ℤ cell (gradient q d xs) k) → cell (gradient q d xs) k ≤ℤ pos 0
    go (inl h) = h
    go (inr h) =
        let r = range_at ranges k in
        absurd (no_step ranges pl q d xs k (negsuc 0) (room_below r.0 k) p l dev o least (room_to_fall r.0 d xs k may)
        (λ a b pa pb m. (
          room_is_above r.0 (b *ℤ d) (moved d xs (unit k (negsuc 0)) a b) k m,
          subst (λ z. Meets.IsBelow (ratio z (b *ℤ d)) r.1) (sym (moved_own d xs k (negsuc 0) a b)) (fallen_below r.1 (cell xs k) d a b pa pb p (dev.within k o).1),
        ))
        (let same = slope_unit q d xs k (negsuc 0) in let one = by_ring (cell (gradient q d xs) k ∷ []) (lit (negsuc 0) ⊗ var 0) (neg (var 0)) refl in omega (arith, linear, same, one, h)))

-- ---- the conditions of the own coordinates
-- one number for each: the negative part of its derivative
abbrev pub own_numbers : Player → ℤ → List ℤ → List ℤ → List ℕ → List Row → List ℤ
own_numbers pl d xs us [] gs = []
own_numbers pl d xs us (j ∷ js) [] = []
own_numbers pl d xs us (j ∷ js) (g ∷ gs) = negative_part (charged_slope pl g j d xs us) ∷ own_numbers pl d xs us js gs

abbrev HoldsAt : Ranges → Player → ℤ → List ℤ → List ℤ → ℕ → Row → Type 0
HoldsAt ranges pl d xs us k f = CoordinateHolds (range_at ranges k).0 (range_at ranges k).1 d (cell xs k) (charged_slope pl f k d xs us) (negative_part (charged_slope pl f k d xs us))

coordinates_from : (ranges : Ranges) (pl : Player) (d : ℤ) (xs us : List ℤ) (js : List ℕ) (gs : List Row) → length gs ≡ length js → ((k : ℕ) (f : Row) → Zipped js gs k f → HoldsAt ranges pl d xs us k f) → CoordinatesHold ranges pl d xs us js gs (own_numbers pl d xs us js gs)
coordinates_from ranges pl d xs us [] gs e h = tt
coordinates_from ranges pl d xs us (j ∷ js) [] e h = absurd (omega arith)
coordinates_from ranges pl d xs us (j ∷ js) (g ∷ gs) e h = (h j g (inl (refl, refl)), coordinates_from ranges pl d xs us js gs (omega arith) (λ k f z. h k f (inr z)))

map_count : (q : Quadratic) (js : List ℕ) → length (map (derivative q) js) ≡ length js
map_count q [] = refl
map_count q (j ∷ js) = ap suc (map_count q js)

pub derivatives_count : (n : ℕ) (p : Purpose) (own : List ℕ) (rules : List Rule) → IsPurpose n own p → length (derivatives (record { own = own; purpose = p; rules = rules })) ≡ length own
derivatives_count n (goal q) own rules h = map_count q own
derivatives_count n (flow fs) own rules h = h.0

-- ---- rules
rules_from : (rs : List Rule) (us : List ℤ) (d : ℤ) (xs : List ℤ) → AreSigned rs us d xs → Obeys rs d xs → RulesHold rs us d xs
rules_from [] [] d xs h k = tt
rules_from [] (u ∷ us) d xs h k = absurd h
rules_from (r ∷ rs) [] d xs h k = absurd h
rules_from (r ∷ rs) (u ∷ us) d xs h k = (rule r.relation (value_at r.row d xs) u h.0 h.1 k.0, rules_from rs us d xs h.2 k.1)
  where
    turned : (v u : ℤ) → (v ≡ pos 0) ⊎ (u ≡ pos 0) → (u ≡ pos 0) ⊎ (v ≡ pos 0)
    turned v u (inl e) = inr e
    turned v u (inr e) = inl e

    opposite : (v u : ℤ) → (v ≡ pos 0) ⊎ (u ≡ pos 0) → (neg_ℤ u ≡ pos 0) ⊎ (neg_ℤ v ≡ pos 0)
    opposite v u (inl e) = inr (omega (arith, linear, e))
    opposite v u (inr e) = inl (omega (arith, linear, e))

    rule : (rel : Relation) (v u : ℤ) → HasSign rel u → (v ≡ pos 0) ⊎ (u ≡ pos 0) → IsObeyed rel v → RuleHolds rel v u
    rule Equal v u s c o = o
    rule AtLeast v u s c o = (s, o, turned v u c)
    rule AtMost v u s c o = (omega (arith, linear, s), omega (arith, linear, o), opposite v u c)
    rule Nothing v u s c o = s

-- ---- the law
-- a player with multipliers who obeys its rules has the rows, each number z being the negative part of the derivative; no
-- convexity is needed
pub multipliers_have_rows : (ranges : Ranges) (pl : Player) (d : ℤ) (xs us : List ℤ) → IsPlayer (length ranges) pl → pos 0 <ℤ d → AreMultipliers ranges pl d xs us → Obeys pl.rules d xs → Holds ranges pl d xs us (own_numbers pl d xs us pl.own (derivatives pl))
multipliers_have_rows ranges pl d xs us kept p m o = record {
  coordinates = coordinates_from ranges pl d xs us pl.own (derivatives pl) (derivatives_count (length ranges) pl.purpose pl.own pl.rules kept.purpose) at;
  rules = rules_from pl.rules us d xs m.signed o;
}
  where
    signs : (k : ℕ) (f : Row) → Zipped pl.own (derivatives pl) k f → owns pl k ≡ true → HoldsAt ranges pl d xs us k f
    signs k f z own =
        let q = charged_purpose pl d xs us in
        let s = charged_slope pl f k d xs us in
        let same = charged_gradient pl d xs us k f kept.apart z in
        let turn = by_ring (d ∷ s ∷ []) (var 0 ⊗ var 1) (var 1 ⊗ var 0) refl in
        let r = range_at ranges k in
        let w = m.among.within k own in
        let l : k < length xs = let b = kept.below k own in let c = m.among.fits in omega arith in
        coordinate_level r.0 r.1 d (cell xs k) s w.0 w.1
        (λ may. let g = falls_not ranges pl q d xs k p l m.among own m.least may in le_cancel_right s (pos 0) d (omega (arith, linear, same, turn, g, zero-*ℤ d)) p)
        (λ may. let g = rises ranges pl q d xs k p l m.among own m.least may in le_cancel_right (pos 0) s d (omega (arith, linear, same, turn, g, zero-*ℤ d)) p)

    at : (k : ℕ) (f : Row) → Zipped pl.own (derivatives pl) k f → HoldsAt ranges pl d xs us k f
    at k f z = signs k f z (zipped_named pl.own (derivatives pl) k f z)
