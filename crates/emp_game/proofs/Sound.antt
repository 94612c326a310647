-- The rows of a convex player hold at its multipliers alone, and with these it is solved.
use Rattle.std.proofs.Common.{◌≡◌, ◌⊎◌, inl, inr, ℕ, suc, ℤ, pos, neg_ℤ, ◌+ℤ◌, ◌-ℤ◌, ◌*ℤ◌, ◌≤ℤ◌, ◌<ℤ◌, Bool, true, false, ◌||◌, nat_eq, List, [], ◌∷◌, length, arith, refl, sym, ap, ap₂, subst, ◌∙◌}
use Rattle.std.proofs.lemmas.Int.{ints}
use Rattle.std.proofs.lemmas.Bool.{false≢true}
use lib.IntN.{zero-*ℤ, *ℤ-zero}
use Rattle.emp_algebra.proofs.Ring.{var, lit, neg, ◌⊕◌, ◌⊖◌, ◌⊗◌, by_ring}
use Rattle.emp_algebra.proofs.Laws.{mul_nonneg, mul_pos}
use Rattle.emp_algebra.proofs.Order.{linear, le_cancel_right}
use Rattle.emp_algebra.proofs.Vectors.{dot-scale, dot-add_rows, cell-scale}
use Rattle.emp_algebra.specs.Vector.{cell, dot, scale}
use Rattle.emp_algebra.specs.Deciding.{Weighted, value_times, total_cells, total_constant}
use Rattle.emp_systems.specs.Steps.{Quadratic, form, value_squared, gradient, way, IsAtMost}
use Rattle.emp_systems.specs.Lagrangian.{lagrangian}
use Rattle.emp_systems.proofs.Eliminate.{cell-add_rows}
use Rattle.emp_systems.proofs.Lagrangian.{value_left, square_of_lagrangian}
use Rattle.emp_systems.proofs.Lagrange.{way_own}
use Rattle.emp_systems.proofs.Steps.{least_where_level}
use Rattle.emp_ast.specs.declared.model.Relation.{Relation}
use Rattle.emp_ast.specs.declared.model.Relation.TheVariants.{Equal, AtLeast, AtMost, Nothing}
use Rattle.emp_game.specs.Game.{Row, Rule, Purpose, goal, flow, Player, Ranges, range_at, names, owns, IsPlayer}
use Rattle.emp_game.specs.Solved.{value_at, IsObeyed, Obeys, IsDeviation, purpose_at, times_at, IsSolved, HasSign, AreSigned, charged, charged_purpose, AreMultipliers, IsConvexPurpose, IsConvex}
use Rattle.emp_game.specs.Conditions.{CoordinateHolds, derivatives, charged_slope, CoordinatesHold, RuleHolds, RulesHold, Holds}
use Rattle.emp_game.proofs.Numbers.{coordinate_term, coordinate_above, coordinate_below}
use Rattle.emp_game.proofs.Slopes.{Zipped, eqb_true, charged_gradient}

-- ---- the way
pub way_cell : (d : ℤ) (xs : List ℤ) (e : ℤ) (ys : List ℤ) (k : ℕ) → cell (way d xs e ys) k ≡ d *ℤ cell ys k -ℤ e *ℤ cell xs k
way_cell d xs e ys k =
    cell-add_rows (scale d ys) (scale (neg_ℤ e) xs) k
    ∙ (ap₂ (λ s t. s +ℤ t) (cell-scale d ys k) (cell-scale (neg_ℤ e) xs k) ∙ by_ring (d ∷ e ∷ cell xs k ∷ cell ys k ∷ []) (var 0 ⊗ var 3 ⊕ neg (var 1) ⊗ var 2) (var 0 ⊗ var 3 ⊖ var 1 ⊗ var 2) refl)

pub dot_nonneg : (g v : List ℤ) → ((k : ℕ) → pos 0 ≤ℤ (cell g k *ℤ cell v k)) → pos 0 ≤ℤ dot g v
dot_nonneg [] v h = omega (arith, ints)
dot_nonneg (a ∷ g) [] h = omega (arith, ints)
dot_nonneg (a ∷ g) (x ∷ v) h =
    let here : pos 0 ≤ℤ (a *ℤ x) = h 0 in
    let rest = dot_nonneg g v (λ k. h (suc k)) in
    omega (arith, linear, here, rest)

-- ---- an own coordinate with its condition
pub record Found (ranges : Ranges) (pl : Player) (d : ℤ) (xs us : List ℤ) (js : List ℕ) (gs : List Row) (k : ℕ) : Type 0 where
  pub row : Row
  pub number : ℤ
  pub zipped : Zipped js gs k row
  pub holds : CoordinateHolds (range_at ranges k).0 (range_at ranges k).1 d (cell xs k) (charged_slope pl row k d xs us) number

pub found : (ranges : Ranges) (pl : Player) (d : ℤ) (xs us : List ℤ) (js : List ℕ) (gs : List Row) (zs : List ℤ) (k : ℕ) → CoordinatesHold ranges pl d xs us js gs zs → names js k ≡ true → Found ranges pl d xs us js gs k
found ranges pl d xs us [] gs zs k h n = absurd (false≢true n)
found ranges pl d xs us (j ∷ js) [] zs k h n = absurd h
found ranges pl d xs us (j ∷ js) (g ∷ gs) [] k h n = absurd h
found ranges pl d xs us (j ∷ js) (g ∷ gs) (z ∷ zs) k h n = go (nat_eq j k) refl (λ e. found ranges pl d xs us js gs zs k h.1 e)
  where
    go : (b : Bool) → nat_eq j k ≡ b → (names js k ≡ true → Found ranges pl d xs us js gs k) → Found ranges pl d xs us (j ∷ js) (g ∷ gs) k
    go true e rest =
        let s = eqb_true j k e in
        record {
          row = g;
          number = z;
          zipped = inl (s, refl);
          holds = subst (λ i. CoordinateHolds (range_at ranges i).0 (range_at ranges i).1 d (cell xs i) (charged_slope pl g i d xs us) z) s h.0;
        }
    go false e rest =
        let r = rest (sym (ap (λ b. b || names js k) e) ∙ n) in
        record { row = r.row; number = r.number; zipped = inr r.zipped; holds = r.holds }

pub deviates : (ranges : Ranges) (pl : Player) (d : ℤ) (xs us zs : List ℤ) → length xs ≡ length ranges → CoordinatesHold ranges pl d xs us pl.own (derivatives pl) zs → IsDeviation ranges pl d xs d xs
deviates ranges pl d xs us zs l h = record {
  fits = l;
  others = λ k o. refl;
  within = λ k o.
      let f = found ranges pl d xs us pl.own (derivatives pl) zs k h o in
      let r = range_at ranges k in
      (coordinate_above r.0 r.1 d (cell xs k) (charged_slope pl f.row k d xs us) f.number f.holds, coordinate_below r.0 r.1 d (cell xs k) (charged_slope pl f.row k d xs us) f.number f.holds);
}

-- ---- least by the rows
square_there : (pl : Player) (p : Purpose) (d : ℤ) (xs : List ℤ) (ws : List Weighted) (vs : List ℤ) → IsConvexPurpose pl p → pos 0 <ℤ d → ((k : ℕ) → owns pl k ≡ false → cell vs k ≡ pos 0) → pos 0 ≤ℤ form (lagrangian (times_at p d) (purpose_at p pl.own d xs) ws).square vs vs
square_there pl (goal q) d xs ws vs c p h =
    let some = mul_nonneg d (form q.square vs vs) (omega (arith, linear, p)) (c vs h) in
    subst (λ z. pos 0 ≤ℤ z) (sym (square_of_lagrangian d q ws vs)) some
square_there pl (flow fs) d xs ws vs c p h = omega (arith, ints)

abbrev AllAlong : Player → ℤ → List ℤ → List ℤ → ℤ → List ℤ → ℕ → Type 0
AllAlong pl d xs us e ys k = pos 0 ≤ℤ (cell (gradient (charged_purpose pl d xs us) d xs) k *ℤ cell (way d xs e ys) k)

along : (ranges : Ranges) (pl : Player) (d : ℤ) (xs us zs : List ℤ) (e : ℤ) (ys : List ℤ) → IsPlayer (length ranges) pl → pos 0 <ℤ d → CoordinatesHold ranges pl d xs us pl.own (derivatives pl) zs → IsDeviation ranges pl d xs e ys → (k : ℕ) → AllAlong pl d xs us e ys k
along ranges pl d xs us zs e ys kept p h dev k = go (owns pl k) refl
  where
    go : (b : Bool) → owns pl k ≡ b → AllAlong pl d xs us e ys k
    go true o =
        let f = found ranges pl d xs us pl.own (derivatives pl) zs k h o in
        let r = range_at ranges k in
        let s = charged_slope pl f.row k d xs us in
        let w = dev.within k o in
        let term = coordinate_term r.0 r.1 d (cell xs k) s f.number e (cell ys k) (omega (arith, linear, p)) f.holds w.0 w.1 in
        let some = mul_nonneg d (s *ℤ (d *ℤ cell ys k -ℤ e *ℤ cell xs k)) (omega (arith, linear, p)) term in
        let same : d *ℤ (s *ℤ (d *ℤ cell ys k -ℤ e *ℤ cell xs k)) ≡ cell (gradient (charged_purpose pl d xs us) d xs) k *ℤ cell (way d xs e ys) k =
        by_ring (d ∷ s ∷ (d *ℤ cell ys k -ℤ e *ℤ cell xs k) ∷ []) (var 0 ⊗ (var 1 ⊗ var 2)) (var 0 ⊗ var 1 ⊗ var 2) refl ∙ ap₂ (λ x y. x *ℤ y) (sym (charged_gradient pl d xs us k f.row kept.apart f.zipped)) (sym (way_cell d xs e ys k)) in
        subst (λ z. pos 0 ≤ℤ z) same some
    go false o =
        let none = ap (λ z. cell (gradient (charged_purpose pl d xs us) d xs) k *ℤ z) (way_own (owns pl) d xs e ys dev.others k o) ∙ *ℤ-zero (cell (gradient (charged_purpose pl d xs us) d xs) k) in
        subst (λ z. pos 0 ≤ℤ z) (sym none) (omega (arith, ints))

pub charged_least : (ranges : Ranges) (pl : Player) (d : ℤ) (xs us zs : List ℤ) → IsPlayer (length ranges) pl → IsConvex pl → pos 0 <ℤ d → CoordinatesHold ranges pl d xs us pl.own (derivatives pl) zs → (e : ℤ) (ys : List ℤ) → pos 0 <ℤ e → IsDeviation ranges pl d xs e ys → IsAtMost (charged_purpose pl d xs us) d xs e ys
charged_least ranges pl d xs us zs kept convex p h e ys r dev =
    least_where_level (charged_purpose pl d xs us) d xs e ys p r
    (square_there pl pl.purpose d xs (charged pl.rules us) (way d xs e ys) convex p (way_own (owns pl) d xs e ys dev.others))
    (dot_nonneg (gradient (charged_purpose pl d xs us) d xs) (way d xs e ys) (along ranges pl d xs us zs e ys kept p h dev))

-- ---- rules
pub rules_signed : (rs : List Rule) (us : List ℤ) (d : ℤ) (xs : List ℤ) → RulesHold rs us d xs → AreSigned rs us d xs
rules_signed [] [] d xs h = tt
rules_signed [] (u ∷ us) d xs h = absurd h
rules_signed (r ∷ rs) [] d xs h = absurd h
rules_signed (r ∷ rs) (u ∷ us) d xs h =
    let s = signed r.relation (value_at r.row d xs) u h.0 in
    (s.0, s.1, rules_signed rs us d xs h.1)
  where
    signed : (rel : Relation) (v u : ℤ) → RuleHolds rel v u → HasSign rel u × ((v ≡ pos 0) ⊎ (u ≡ pos 0))
    signed Equal v u h = (tt, inl h)
    signed AtLeast v u h = (h.0, turned h.2)
      where
        turned : (u ≡ pos 0) ⊎ (v ≡ pos 0) → (v ≡ pos 0) ⊎ (u ≡ pos 0)
        turned (inl e) = inr e
        turned (inr e) = inl e
    signed AtMost v u h = (let l = h.0 in omega (arith, linear, l), turned h.2)
      where
        turned : (neg_ℤ u ≡ pos 0) ⊎ (neg_ℤ v ≡ pos 0) → (v ≡ pos 0) ⊎ (u ≡ pos 0)
        turned (inl e) = inr (omega (arith, linear, e))
        turned (inr e) = inl (omega (arith, linear, e))
    signed Nothing v u h = (h, inr h)

pub rules_obeyed : (rs : List Rule) (us : List ℤ) (d : ℤ) (xs : List ℤ) → RulesHold rs us d xs → Obeys rs d xs
rules_obeyed [] us d xs h = tt
rules_obeyed (r ∷ rs) [] d xs h = absurd h
rules_obeyed (r ∷ rs) (u ∷ us) d xs h = (obeyed r.relation (value_at r.row d xs) u h.0, rules_obeyed rs us d xs h.1)
  where
    obeyed : (rel : Relation) (v u : ℤ) → RuleHolds rel v u → IsObeyed rel v
    obeyed Equal v u h = h
    obeyed AtLeast v u h = h.1
    obeyed AtMost v u h = let l = h.1 in omega (arith, linear, l)
    obeyed Nothing v u h = tt

-- ---- what the multipliers charge
abbrev pub total_at : List Weighted → ℤ → List ℤ → ℤ
total_at ws d xs = total_constant ws *ℤ d +ℤ dot (total_cells ws) xs

pub total_more : (w : Weighted) (ws : List Weighted) (d : ℤ) (xs : List ℤ) → total_at (w ∷ ws) d xs ≡ w.factor *ℤ value_times w.constant w.cells d xs +ℤ total_at ws d xs
total_more w ws d xs =
    ap (λ z. (w.factor *ℤ w.constant +ℤ total_constant ws) *ℤ d +ℤ z) (dot-add_rows (scale w.factor w.cells) (total_cells ws) xs ∙ ap (λ z. z +ℤ dot (total_cells ws) xs) (dot-scale w.factor w.cells xs))
    ∙ by_ring (w.factor ∷ w.constant ∷ total_constant ws ∷ d ∷ dot w.cells xs ∷ dot (total_cells ws) xs ∷ []) ((var 0 ⊗ var 1 ⊕ var 2) ⊗ var 3 ⊕ (var 0 ⊗ var 4 ⊕ var 5)) (var 0 ⊗ (var 1 ⊗ var 3 ⊕ var 4) ⊕ (var 2 ⊗ var 3 ⊕ var 5)) refl

pub no_charge : (d : ℤ) → pos 0 *ℤ d +ℤ pos 0 ≡ pos 0
no_charge d = by_ring (d ∷ []) (lit (pos 0) ⊗ var 0 ⊕ lit (pos 0)) (lit (pos 0)) refl

pub charges_here : (rs : List Rule) (us : List ℤ) (d : ℤ) (xs : List ℤ) → AreSigned rs us d xs → total_at (charged rs us) d xs ≡ pos 0
charges_here [] [] d xs h = no_charge d
charges_here [] (u ∷ us) d xs h = absurd h
charges_here (r ∷ rs) [] d xs h = absurd h
charges_here (r ∷ rs) (u ∷ us) d xs h =
    total_more (record { factor = u; kind = Rattle.emp_algebra.specs.Deciding.Zero; constant = r.row.constant; cells = r.row.cells }) (charged rs us) d xs
    ∙ ap₂ (λ s t. s +ℤ t) (none h.1) (charges_here rs us d xs h.2)
  where
    none : (value_at r.row d xs ≡ pos 0) ⊎ (u ≡ pos 0) → u *ℤ value_at r.row d xs ≡ pos 0
    none (inl e) = ap (λ z. u *ℤ z) e ∙ *ℤ-zero u
    none (inr e) = ap (λ z. z *ℤ value_at r.row d xs) e ∙ zero-*ℤ (value_at r.row d xs)

charge_term : (rel : Relation) (u v : ℤ) → HasSign rel u → IsObeyed rel v → pos 0 ≤ℤ (u *ℤ v)
charge_term Equal u v h k = let none : u *ℤ v ≡ pos 0 = ap (λ z. u *ℤ z) k ∙ *ℤ-zero u in omega (arith, linear, none)
charge_term AtLeast u v h k = mul_nonneg u v h k
charge_term AtMost u v h k =
    let some = mul_nonneg (neg_ℤ u) (neg_ℤ v) (omega (arith, linear, h)) (omega (arith, linear, k)) in
    let same = by_ring (u ∷ v ∷ []) (neg (var 0) ⊗ neg (var 1)) (var 0 ⊗ var 1) refl in
    omega (arith, linear, some, same)
charge_term Nothing u v h k = let none : u *ℤ v ≡ pos 0 = ap (λ z. z *ℤ v) h ∙ zero-*ℤ v in omega (arith, linear, none)

pub charges_there : (rs : List Rule) (us : List ℤ) (d : ℤ) (xs : List ℤ) (e : ℤ) (ys : List ℤ) → AreSigned rs us d xs → Obeys rs e ys → pos 0 ≤ℤ total_at (charged rs us) e ys
charges_there [] [] d xs e ys h k = let none = no_charge e in omega (arith, linear, none)
charges_there [] (u ∷ us) d xs e ys h k = absurd h
charges_there (r ∷ rs) [] d xs e ys h k = absurd h
charges_there (r ∷ rs) (u ∷ us) d xs e ys h k =
    let here = charge_term r.relation u (value_at r.row e ys) h.0 k.0 in
    let rest = charges_there rs us d xs e ys h.2 k.1 in
    subst (λ z. pos 0 ≤ℤ z) (sym (total_more (record { factor = u; kind = Rattle.emp_algebra.specs.Deciding.Zero; constant = r.row.constant; cells = r.row.cells }) (charged rs us) e ys)) (omega (arith, linear, here, rest))

-- what is at most R with the charges is at most R, where nothing is charged here and nothing below 0 there
charges_out : (k : ℤ) (q : Quadratic) (ws : List Weighted) (d : ℤ) (xs : List ℤ) (e : ℤ) (ys : List ℤ) → pos 0 <ℤ k → pos 0 <ℤ d → pos 0 <ℤ e → total_at ws d xs ≡ pos 0 → pos 0 ≤ℤ total_at ws e ys → IsAtMost (lagrangian k q ws) d xs e ys → IsAtMost q d xs e ys
charges_out k q ws d xs e ys kp p r here some most =
    let there = mul_nonneg (d *ℤ d) (e *ℤ total_at ws e ys) (omega (arith, linear, mul_pos d d p p)) (mul_nonneg e (total_at ws e ys) (omega (arith, linear, r)) some) in
    let left : value_squared (lagrangian k q ws) d xs *ℤ (e *ℤ e) ≡ value_squared q d xs *ℤ (e *ℤ e) *ℤ k =
    ap (λ z. z *ℤ (e *ℤ e)) (value_left k q ws d xs ∙ ap (λ z. k *ℤ value_squared q d xs -ℤ d *ℤ z) here) ∙ by_ring (k ∷ value_squared q d xs ∷ d ∷ e ∷ []) ((var 0 ⊗ var 1 ⊖ var 2 ⊗ lit (pos 0)) ⊗ (var 3 ⊗ var 3)) (var 1 ⊗ (var 3 ⊗ var 3) ⊗ var 0) refl in
    let right : value_squared (lagrangian k q ws) e ys *ℤ (d *ℤ d) ≡ value_squared q e ys *ℤ (d *ℤ d) *ℤ k -ℤ d *ℤ d *ℤ (e *ℤ total_at ws e ys) =
    ap (λ z. z *ℤ (d *ℤ d)) (value_left k q ws e ys) ∙ by_ring (k ∷ value_squared q e ys ∷ d ∷ (e *ℤ total_at ws e ys) ∷ []) ((var 0 ⊗ var 1 ⊖ var 3) ⊗ (var 2 ⊗ var 2)) (var 1 ⊗ (var 2 ⊗ var 2) ⊗ var 0 ⊖ var 2 ⊗ var 2 ⊗ var 3) refl in
    le_cancel_right (value_squared q d xs *ℤ (e *ℤ e)) (value_squared q e ys *ℤ (d *ℤ d)) k (omega (arith, linear, most, left, right, there)) kp

times_positive : (p : Purpose) (d : ℤ) → pos 0 <ℤ d → pos 0 <ℤ times_at p d
times_positive (goal q) d h = h
times_positive (flow fs) d h = omega (arith, ints)

-- ---- the laws
-- a player who obeys its rules and has multipliers is solved; no convexity is needed
pub multipliers_solve : (ranges : Ranges) (pl : Player) (d : ℤ) (xs us : List ℤ) → pos 0 <ℤ d → Obeys pl.rules d xs → AreMultipliers ranges pl d xs us → IsSolved ranges pl d xs
multipliers_solve ranges pl d xs us p obeys m = record {
  feasible = record { deviation = m.among; obeys = obeys };
  best = λ e ys r rival.
      charges_out (times_at pl.purpose d) (purpose_at pl.purpose pl.own d xs) (charged pl.rules us) d xs e ys (times_positive pl.purpose d p) p r (charges_here pl.rules us d xs m.signed)
      (charges_there pl.rules us d xs e ys m.signed rival.obeys)
      (m.least e ys r rival.deviation);
}

-- the rows of a convex player have its multipliers, and it is solved
pub rows_solve : (ranges : Ranges) (pl : Player) (d : ℤ) (xs us zs : List ℤ) → IsPlayer (length ranges) pl → IsConvex pl → pos 0 <ℤ d → length xs ≡ length ranges → Holds ranges pl d xs us zs → AreMultipliers ranges pl d xs us × IsSolved ranges pl d xs
rows_solve ranges pl d xs us zs kept convex p l h = (m, multipliers_solve ranges pl d xs us p (rules_obeyed pl.rules us d xs h.rules) m)
  where
    m : AreMultipliers ranges pl d xs us
    m = record {
      among = deviates ranges pl d xs us zs l h.coordinates;
      signed = rules_signed pl.rules us d xs h.rules;
      least = charged_least ranges pl d xs us zs kept convex p h.coordinates;
    }
