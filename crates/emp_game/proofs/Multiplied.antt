-- A convex player who is solved has multipliers, at the same point given by larger numbers.
use Rattle.std.proofs.Common.{◌≡◌, ◌⊎◌, inl, inr, ℕ, suc, ◌<◌, ◌≤◌, ℤ, pos, negsuc, neg_ℤ, ◌+ℤ◌, ◌-ℤ◌, ◌*ℤ◌, ◌≤ℤ◌, ◌<ℤ◌, Bool, true, false, ◌||◌, nat_eq, List, [], ◌∷◌, ◌++◌, All, map, length, arith, refl, sym, ap, ap₂, subst, ◌∙◌}
use Rattle.std.proofs.lemmas.Int.{ints}
use Rattle.std.proofs.lemmas.Bool.{false≢true}
use Rattle.std.proofs.lemmas.List.Elements.{All-nil, All-cons, All-head, All-tail, All-append}
use lib.IntN.{*ℤ-zero}
use Rattle.emp_algebra.proofs.Ring.{var, lit, neg, ◌⊕◌, ◌⊖◌, ◌⊗◌, by_ring}
use Rattle.emp_algebra.proofs.Laws.{mul_nonneg, mul_pos}
use Rattle.emp_algebra.proofs.Order.{linear, le_or_lt, mul_le_right, cancel_right}
use Rattle.emp_algebra.proofs.Vectors.{dot-scale, dot-add_rows, cell-scale, length-scale}
use Rattle.emp_algebra.specs.Vector.{cell, dot, scale}
use Rattle.emp_algebra.specs.Deciding.{Kind, Zero, Nonneg, Weighted, value_times, IsOfKind, FactorFits, Meets}
use Rattle.emp_num.specs.Ratio.{ratio}
use Rattle.emp_systems.specs.Systems.{weigh}
use Rattle.emp_systems.specs.Steps.{Quadratic, value_squared, IsAtMost}
use Rattle.emp_systems.specs.Multipliers.{IsWithin}
use Rattle.emp_systems.specs.Lagrangian.{lagrangian}
use Rattle.emp_systems.specs.Own.{unit, Agrees}
use Rattle.emp_systems.specs.Lagrange.{IsOwnConvex, LagrangeMultipliers}
use Rattle.emp_systems.proofs.Rows.{length-add_rows}
use Rattle.emp_systems.proofs.Forms.{value-scaled}
use Rattle.emp_systems.proofs.Lagrangian.{value_left, all_first, all_second}
use Rattle.emp_systems.proofs.Lagrange.{solved_has_multipliers}
use Rattle.emp_systems.proofs.Scaled.{value_scaled}
use Rattle.emp_systems.proofs.Own.{dot_unit, unit_length}
use Rattle.emp_ast.specs.declared.model.Relation.{Relation}
use Rattle.emp_ast.specs.declared.model.Relation.TheVariants.{Equal, AtLeast, AtMost, Nothing}
use Rattle.emp_ast.specs.declared.model.End.{End}
use Rattle.emp_ast.specs.declared.model.End.TheVariants.{Open, At}
use Rattle.emp_ast.specs.Meets as Ends
use Rattle.emp_game.specs.Game.{Row, Rule, Purpose, goal, flow, Player, Ranges, range_at, names, owns, IsPurpose, IsPlayer}
use Rattle.emp_game.specs.Solved.{value_at, InRange, IsObeyed, Obeys, IsDeviation, flow_row, purpose_at, IsSolved, HasSign, AreSigned, charged, charged_purpose, IsConvexPurpose, IsConvex}
use Rattle.emp_game.specs.Laws.{Multiplied}
use Rattle.emp_game.proofs.Slopes.{eqb_true, eqb_refl}
use Rattle.emp_game.proofs.Sound.{total_at, total_more, no_charge}
use Rattle.emp_game.proofs.Level.{room_above, room_below, above_value, below_value, scaled_above, scaled_below}

abbrev Here : ℤ → List ℤ → Weighted → Type 0
Here d xs w = IsOfKind w.kind (value_times w.constant w.cells d xs)

-- ---- rules as quantities of a kind
abbrev opposite : Row → Row
opposite r = record { constant = neg_ℤ r.constant; cells = scale (negsuc 0) r.cells }

abbrev quantity : Kind → Row → Weighted
quantity k r = record { factor = pos 0; kind = k; constant = r.constant; cells = r.cells }

abbrev nothing : Row
nothing = record { constant = pos 0; cells = [] }

abbrev signed_by : Relation → Row → Weighted
signed_by Equal r = quantity Zero r
signed_by AtLeast r = quantity Nonneg r
signed_by AtMost r = quantity Nonneg (opposite r)
signed_by Nothing r = quantity Zero nothing

abbrev signed : List Rule → List Weighted
signed rs = map (λ r. signed_by r.relation r.row) rs

opposite_value : (r : Row) (d : ℤ) (xs : List ℤ) → value_at (opposite r) d xs ≡ neg_ℤ (value_at r d xs)
opposite_value r d xs = ap (λ z. neg_ℤ r.constant *ℤ d +ℤ z) (dot-scale (negsuc 0) r.cells xs) ∙ by_ring (r.constant ∷ d ∷ dot r.cells xs ∷ []) (neg (var 0) ⊗ var 1 ⊕ lit (negsuc 0) ⊗ var 2) (neg (var 0 ⊗ var 1 ⊕ var 2)) refl

kind_obeyed : (rel : Relation) (r : Row) (d : ℤ) (xs : List ℤ) → IsObeyed rel (value_at r d xs) → Here d xs (signed_by rel r)
kind_obeyed Equal r d xs h = h
kind_obeyed AtLeast r d xs h = h
kind_obeyed AtMost r d xs h = let e = opposite_value r d xs in omega (arith, linear, h, e)
kind_obeyed Nothing r d xs h = no_charge d

obeyed_kind : (rel : Relation) (r : Row) (d : ℤ) (xs : List ℤ) → Here d xs (signed_by rel r) → IsObeyed rel (value_at r d xs)
obeyed_kind Equal r d xs h = h
obeyed_kind AtLeast r d xs h = h
obeyed_kind AtMost r d xs h = let e = opposite_value r d xs in omega (arith, linear, h, e)
obeyed_kind Nothing r d xs h = tt

meets_rules : (rs : List Rule) (d : ℤ) (xs : List ℤ) → Obeys rs d xs → Meets (signed rs) d xs
meets_rules [] d xs h = All-nil (Here d xs)
meets_rules (r ∷ rs) d xs h = All-cons (Here d xs) (signed_by r.relation r.row) (signed rs) (kind_obeyed r.relation r.row d xs h.0) (meets_rules rs d xs h.1)

rules_met : (rs : List Rule) (d : ℤ) (xs : List ℤ) → Meets (signed rs) d xs → Obeys rs d xs
rules_met [] d xs h = tt
rules_met (r ∷ rs) d xs h = (obeyed_kind r.relation r.row d xs (All-head (Here d xs) (signed_by r.relation r.row) (signed rs) h), rules_met rs d xs (All-tail (Here d xs) (signed_by r.relation r.row) (signed rs) h))

-- ---- ranges as quantities
abbrev box : Ranges → List ℕ → List Weighted
box ranges [] = []
box ranges (k ∷ ks) = room_below (range_at ranges k).0 k ++ (room_above (range_at ranges k).1 k ++ box ranges ks)

low_met : (lo : End) (k : ℕ) (e : ℤ) (ys : List ℤ) → Ends.IsAbove (ratio (cell ys k) e) lo → All (Here e ys) (room_below lo k)
low_met Open k e ys h = All-nil (Here e ys)
low_met (At f) k e ys h =
    All-cons (Here e ys) (record { factor = pos 0; kind = Nonneg; constant = neg_ℤ f.num; cells = unit k f.den }) [] (let v = below_value f.num f.den e ys k in omega (arith, linear, h, v)) (All-nil (Here e ys))

high_met : (hi : End) (k : ℕ) (e : ℤ) (ys : List ℤ) → Ends.IsBelow (ratio (cell ys k) e) hi → All (Here e ys) (room_above hi k)
high_met Open k e ys h = All-nil (Here e ys)
high_met (At f) k e ys h =
    All-cons (Here e ys) (record { factor = pos 0; kind = Nonneg; constant = f.num; cells = unit k (neg_ℤ f.den) }) [] (let v = above_value f.num f.den e ys k in omega (arith, linear, h, v)) (All-nil (Here e ys))

met_low : (lo : End) (k : ℕ) (e : ℤ) (ys : List ℤ) → All (Here e ys) (room_below lo k) → Ends.IsAbove (ratio (cell ys k) e) lo
met_low Open k e ys h = tt
met_low (At f) k e ys h =
    let l = All-head (Here e ys) (record { factor = pos 0; kind = Nonneg; constant = neg_ℤ f.num; cells = unit k f.den }) [] h in
    let v = below_value f.num f.den e ys k in
    omega (arith, linear, l, v)

met_high : (hi : End) (k : ℕ) (e : ℤ) (ys : List ℤ) → All (Here e ys) (room_above hi k) → Ends.IsBelow (ratio (cell ys k) e) hi
met_high Open k e ys h = tt
met_high (At f) k e ys h =
    let l = All-head (Here e ys) (record { factor = pos 0; kind = Nonneg; constant = f.num; cells = unit k (neg_ℤ f.den) }) [] h in
    let v = above_value f.num f.den e ys k in
    omega (arith, linear, l, v)

or_first : (b c : Bool) → b ≡ true → b || c ≡ true
or_first true c h = refl
or_first false c h = absurd (false≢true h)

or_second : (b c : Bool) → c ≡ true → b || c ≡ true
or_second true c h = refl
or_second false c h = h

meets_box : (ranges : Ranges) (ks : List ℕ) (e : ℤ) (ys : List ℤ) → ((k : ℕ) → names ks k ≡ true → InRange (range_at ranges k) (ratio (cell ys k) e)) → Meets (box ranges ks) e ys
meets_box ranges [] e ys h = All-nil (Here e ys)
meets_box ranges (k ∷ ks) e ys h =
    let r = range_at ranges k in
    let own = h k (or_first (nat_eq k k) (names ks k) (eqb_refl k)) in
    All-append (Here e ys) (room_below r.0 k) (room_above r.1 k ++ box ranges ks) (low_met r.0 k e ys own.0)
    (All-append (Here e ys) (room_above r.1 k) (box ranges ks) (high_met r.1 k e ys own.1) (meets_box ranges ks e ys (λ j n. h j (or_second (nat_eq k j) (names ks j) n))))

box_met : (ranges : Ranges) (ks : List ℕ) (e : ℤ) (ys : List ℤ) → Meets (box ranges ks) e ys → (k : ℕ) → names ks k ≡ true → InRange (range_at ranges k) (ratio (cell ys k) e)
box_met ranges [] e ys h k n = absurd (false≢true n)
box_met ranges (j ∷ ks) e ys h k n = go (nat_eq j k) refl (λ m. box_met ranges ks e ys (all_second (Here e ys) (room_above r.1 j) (box ranges ks) rest) k m)
  where
    r : End × End
    r = range_at ranges j

    rest : Meets (room_above r.1 j ++ box ranges ks) e ys
    rest = all_second (Here e ys) (room_below r.0 j) (room_above r.1 j ++ box ranges ks) h

    go : (b : Bool) → nat_eq j k ≡ b → (names ks k ≡ true → InRange (range_at ranges k) (ratio (cell ys k) e)) → InRange (range_at ranges k) (ratio (cell ys k) e)
    go true q later =
        subst (λ i. InRange (range_at ranges i) (ratio (cell ys i) e)) (eqb_true j k q)
        (met_low r.0 j e ys (all_first (Here e ys) (room_below r.0 j) (room_above r.1 j ++ box ranges ks) h), met_high r.1 j e ys (all_first (Here e ys) (room_above r.1 j) (box ranges ks) rest))
    go false q later = later (sym (ap (λ b. b || names ks k) q) ∙ n)

-- ---- nothing names a coordinate from n on
abbrev IsShort : ℕ → Weighted → Type 0
IsShort n w = length w.cells ≤ n

signed_short : (n : ℕ) (rel : Relation) (r : Row) → length r.cells ≤ n → IsShort n (signed_by rel r)
signed_short n Equal r h = h
signed_short n AtLeast r h = h
signed_short n AtMost r h = let e = length-scale (negsuc 0) r.cells in omega arith
signed_short n Nothing r h = omega arith

rules_short : (n : ℕ) (rs : List Rule) → All (λ r. length r.row.cells ≤ n) rs → All (IsShort n) (signed rs)
rules_short n [] h = All-nil (IsShort n)
rules_short n (r ∷ rs) h = All-cons (IsShort n) (signed_by r.relation r.row) (signed rs) (signed_short n r.relation r.row (All-head (λ r. length r.row.cells ≤ n) r rs h)) (rules_short n rs (All-tail (λ r. length r.row.cells ≤ n) r rs h))

low_short : (n : ℕ) (lo : End) (k : ℕ) → k < n → All (IsShort n) (room_below lo k)
low_short n Open k h = All-nil (IsShort n)
low_short n (At f) k h = All-cons (IsShort n) (record { factor = pos 0; kind = Nonneg; constant = neg_ℤ f.num; cells = unit k f.den }) [] (let e = unit_length k f.den in omega arith) (All-nil (IsShort n))

high_short : (n : ℕ) (hi : End) (k : ℕ) → k < n → All (IsShort n) (room_above hi k)
high_short n Open k h = All-nil (IsShort n)
high_short n (At f) k h = All-cons (IsShort n) (record { factor = pos 0; kind = Nonneg; constant = f.num; cells = unit k (neg_ℤ f.den) }) [] (let e = unit_length k (neg_ℤ f.den) in omega arith) (All-nil (IsShort n))

box_short : (n : ℕ) (ranges : Ranges) (ks : List ℕ) → ((k : ℕ) → names ks k ≡ true → k < n) → All (IsShort n) (box ranges ks)
box_short n ranges [] h = All-nil (IsShort n)
box_short n ranges (k ∷ ks) h =
    let r = range_at ranges k in
    let own = h k (or_first (nat_eq k k) (names ks k) (eqb_refl k)) in
    All-append (IsShort n) (room_below r.0 k) (room_above r.1 k ++ box ranges ks) (low_short n r.0 k own)
    (All-append (IsShort n) (room_above r.1 k) (box ranges ks) (high_short n r.1 k own) (box_short n ranges ks (λ j m. h j (or_second (nat_eq k j) (names ks j) m))))

flow_short : (n : ℕ) (ks : List ℕ) (fs : List Row) (d : ℤ) (xs : List ℤ) → ((k : ℕ) → names ks k ≡ true → k < n) → length (flow_row ks fs d xs) ≤ n
flow_short n [] fs d xs h = omega arith
flow_short n (k ∷ ks) [] d xs h = omega arith
flow_short n (k ∷ ks) (f ∷ fs) d xs h =
    length-add_rows (unit k (value_at f d xs)) (flow_row ks fs d xs) n
    (let e = unit_length k (value_at f d xs) in let own = h k (or_first (nat_eq k k) (names ks k) (eqb_refl k)) in omega arith)
    (flow_short n ks fs d xs (λ j m. h j (or_second (nat_eq k j) (names ks j) m)))

purpose_within : (n : ℕ) (p : Purpose) (own : List ℕ) (d : ℤ) (xs : List ℤ) (ws : List Weighted) → ((k : ℕ) → names own k ≡ true → k < n) → IsPurpose n own p → All (IsShort n) ws → IsWithin n (purpose_at p own d xs) ws
purpose_within n (goal q) own d xs ws b h s = record { linear = h.0; rows = h.1; cells = h.2; quantities = s }
purpose_within n (flow fs) own d xs ws b h s = record { linear = flow_short n own fs d xs b; rows = omega arith; cells = All-nil (λ r. length r ≤ n); quantities = s }

purpose_convex : (pl : Player) (p : Purpose) (d : ℤ) (xs : List ℤ) → IsConvexPurpose pl p → IsOwnConvex (owns pl) (purpose_at p pl.own d xs).square
purpose_convex pl (goal q) d xs c = c
purpose_convex pl (flow fs) d xs c = λ vs h. omega (arith, ints)

-- ---- the multipliers that the law of systems gives
abbrev System : Ranges → Player → ℤ → List ℤ → Type 0
System ranges pl d xs = LagrangeMultipliers (owns pl) (length ranges) (purpose_at pl.purpose pl.own d xs) (signed pl.rules) (box ranges pl.own) d xs

system_of : (ranges : Ranges) (pl : Player) (d : ℤ) (xs : List ℤ) → IsPlayer (length ranges) pl → IsConvex pl → pos 0 <ℤ d → IsSolved ranges pl d xs → System ranges pl d xs
system_of ranges pl d xs kept convex p s =
    solved_has_multipliers (owns pl) (length ranges) (purpose_at pl.purpose pl.own d xs) (signed pl.rules) (box ranges pl.own) d xs
    (purpose_within (length ranges) pl.purpose pl.own d xs (signed pl.rules ++ box ranges pl.own) kept.below kept.purpose (All-append (IsShort (length ranges)) (signed pl.rules) (box ranges pl.own) (rules_short (length ranges) pl.rules kept.rules) (box_short (length ranges) ranges pl.own kept.below)))
    (purpose_convex pl pl.purpose d xs convex)
    p
    s.feasible.deviation.fits
    (All-append (Here d xs) (signed pl.rules) (box ranges pl.own) (meets_rules pl.rules d xs s.feasible.obeys) (meets_box ranges pl.own d xs s.feasible.deviation.within))
    (λ e ys r l agree m. s.best e ys r (record {
      deviation = record { fits = l; others = agree; within = box_met ranges pl.own e ys (all_second (Here e ys) (signed pl.rules) (box ranges pl.own) m) };
      obeys = rules_met pl.rules e ys (all_first (Here e ys) (signed pl.rules) (box ranges pl.own) m);
    }))

-- ---- from factors to multipliers
abbrev unsigned_by : Relation → ℤ → ℤ
unsigned_by Equal f = f
unsigned_by AtLeast f = f
unsigned_by AtMost f = neg_ℤ f
unsigned_by Nothing f = pos 0

abbrev pub unsigned : List Rule → List ℤ → List ℤ
unsigned [] fs = []
unsigned (r ∷ rs) [] = []
unsigned (r ∷ rs) (f ∷ fs) = unsigned_by r.relation f ∷ unsigned rs fs

unsigned_term : (rel : Relation) (r : Row) (f e : ℤ) (ys : List ℤ) → unsigned_by rel f *ℤ value_at r e ys ≡ f *ℤ value_times (signed_by rel r).constant (signed_by rel r).cells e ys
unsigned_term Equal r f e ys = refl
unsigned_term AtLeast r f e ys = refl
unsigned_term AtMost r f e ys = by_ring (f ∷ value_at r e ys ∷ []) (neg (var 0) ⊗ var 1) (var 0 ⊗ neg (var 1)) refl ∙ ap (λ z. f *ℤ z) (sym (opposite_value r e ys))
unsigned_term Nothing r f e ys = by_ring (f ∷ value_at r e ys ∷ e ∷ []) (lit (pos 0) ⊗ var 1) (var 0 ⊗ (lit (pos 0) ⊗ var 2 ⊕ lit (pos 0))) refl

abbrev with_factor : Weighted → ℤ → Weighted
with_factor w f = record { factor = f; kind = w.kind; constant = w.constant; cells = w.cells }

abbrev charge : Rule → ℤ → Weighted
charge r u = record { factor = u; kind = Zero; constant = r.row.constant; cells = r.row.cells }

same_total : (rs : List Rule) (fs : List ℤ) (e : ℤ) (ys : List ℤ) → length fs ≡ length rs → total_at (charged rs (unsigned rs fs)) e ys ≡ total_at (weigh (signed rs) fs) e ys
same_total [] fs e ys h = refl
same_total (r ∷ rs) [] e ys h = absurd (omega arith)
same_total (r ∷ rs) (f ∷ fs) e ys h =
    total_more (charge r (unsigned_by r.relation f)) (charged rs (unsigned rs fs)) e ys
    ∙ (ap₂ (λ s t. s +ℤ t) (unsigned_term r.relation r.row f e ys) (same_total rs fs e ys (omega arith)) ∙ sym (total_more (with_factor (signed_by r.relation r.row) f) (weigh (signed rs) fs) e ys))

pub scaled_total : (c : ℤ) (rs : List Rule) (us : List ℤ) (e : ℤ) (ys : List ℤ) → total_at (charged rs (scale c us)) e ys ≡ c *ℤ total_at (charged rs us) e ys
scaled_total c [] us e ys = no_charge e ∙ sym (ap (λ z. c *ℤ z) (no_charge e) ∙ *ℤ-zero c)
scaled_total c (r ∷ rs) [] e ys = no_charge e ∙ sym (ap (λ z. c *ℤ z) (no_charge e) ∙ *ℤ-zero c)
scaled_total c (r ∷ rs) (u ∷ us) e ys =
    total_more (charge r (c *ℤ u)) (charged rs (scale c us)) e ys
    ∙ (ap (λ z. c *ℤ u *ℤ value_at r.row e ys +ℤ z) (scaled_total c rs us e ys)
    ∙ (by_ring (c ∷ u ∷ value_at r.row e ys ∷ total_at (charged rs us) e ys ∷ []) (var 0 ⊗ var 1 ⊗ var 2 ⊕ var 0 ⊗ var 3) (var 0 ⊗ (var 1 ⊗ var 2 ⊕ var 3)) refl ∙ ap (λ z. c *ℤ z) (sym (total_more (charge r u) (charged rs us) e ys))))

-- ---- signs
zero_product : (x y : ℤ) → x *ℤ y ≡ pos 0 → (y ≡ pos 0) ⊎ (x ≡ pos 0)
zero_product x y h = go (le_or_lt x (pos 0)) (le_or_lt (pos 0) x) (le_or_lt y (pos 0)) (le_or_lt (pos 0) y)
  where
    both : (a b : ℤ) → pos 0 <ℤ a → pos 0 <ℤ b → a *ℤ b ≡ pos 0 → ⊥
    both a b p q e = let l = mul_pos a b p q in omega (arith, linear, l, e)

    go : (x ≤ℤ pos 0) ⊎ (pos 0 <ℤ x) → (pos 0 ≤ℤ x) ⊎ (x <ℤ pos 0) → (y ≤ℤ pos 0) ⊎ (pos 0 <ℤ y) → (pos 0 ≤ℤ y) ⊎ (y <ℤ pos 0) → (y ≡ pos 0) ⊎ (x ≡ pos 0)
    go (inl a) (inl b) c d = inr (omega (arith, linear, a, b))
    go a b (inl c) (inl d) = inl (omega (arith, linear, c, d))
    go (inr a) b (inr c) d = absurd (both x y a c h)
    go (inr a) b c (inr d) = absurd (both x (neg_ℤ y) a (omega (arith, linear, d)) (by_ring (x ∷ y ∷ []) (var 0 ⊗ neg (var 1)) (neg (var 0 ⊗ var 1)) refl ∙ ap neg_ℤ h))
    go a (inr b) (inr c) d = absurd (both (neg_ℤ x) y (omega (arith, linear, b)) c (by_ring (x ∷ y ∷ []) (neg (var 0) ⊗ var 1) (neg (var 0 ⊗ var 1)) refl ∙ ap neg_ℤ h))
    go a (inr b) c (inr d) = absurd (both (neg_ℤ x) (neg_ℤ y) (omega (arith, linear, b)) (omega (arith, linear, d)) (by_ring (x ∷ y ∷ []) (neg (var 0) ⊗ neg (var 1)) (var 0 ⊗ var 1) refl ∙ h))

sign_of : (rel : Relation) (r : Row) (f : ℤ) → FactorFits (signed_by rel r).kind f → HasSign rel (unsigned_by rel f)
sign_of Equal r f h = tt
sign_of AtLeast r f h = h
sign_of AtMost r f h = omega (arith, linear, h)
sign_of Nothing r f h = refl

slack_of : (rel : Relation) (r : Row) (f d : ℤ) (xs : List ℤ) → f *ℤ value_times (signed_by rel r).constant (signed_by rel r).cells d xs ≡ pos 0 → (value_at r d xs ≡ pos 0) ⊎ (unsigned_by rel f ≡ pos 0)
slack_of rel r f d xs h = zero_product (unsigned_by rel f) (value_at r d xs) (unsigned_term rel r f d xs ∙ h)

signed_here : (rs : List Rule) (fs : List ℤ) (d : ℤ) (xs : List ℤ) → length fs ≡ length rs → All (λ w. FactorFits w.kind w.factor) (weigh (signed rs) fs) → All (λ w. w.factor *ℤ value_times w.constant w.cells d xs ≡ pos 0) (weigh (signed rs) fs) → AreSigned rs (unsigned rs fs) d xs
signed_here [] fs d xs e h k = tt
signed_here (r ∷ rs) [] d xs e h k = absurd (omega arith)
signed_here (r ∷ rs) (f ∷ fs) d xs e h k =
    let w = with_factor (signed_by r.relation r.row) f in (
      sign_of r.relation r.row f (All-head (λ w. FactorFits w.kind w.factor) w (weigh (signed rs) fs) h),
      slack_of r.relation r.row f d xs (All-head (λ w. w.factor *ℤ value_times w.constant w.cells d xs ≡ pos 0) w (weigh (signed rs) fs) k),
      signed_here rs fs d xs (omega arith) (All-tail (λ w. FactorFits w.kind w.factor) w (weigh (signed rs) fs) h) (All-tail (λ w. w.factor *ℤ value_times w.constant w.cells d xs ≡ pos 0) w (weigh (signed rs) fs) k),
    )

sign_scaled : (rel : Relation) (c u : ℤ) → pos 0 <ℤ c → HasSign rel u → HasSign rel (c *ℤ u)
sign_scaled Equal c u p h = tt
sign_scaled AtLeast c u p h = mul_nonneg c u (omega (arith, linear, p)) h
sign_scaled AtMost c u p h =
    let some = mul_nonneg c (neg_ℤ u) (omega (arith, linear, p)) (omega (arith, linear, h)) in
    let same = by_ring (c ∷ u ∷ []) (var 0 ⊗ neg (var 1)) (neg (var 0 ⊗ var 1)) refl in
    omega (arith, linear, some, same)
sign_scaled Nothing c u p h = ap (λ z. c *ℤ z) h ∙ *ℤ-zero c

-- at the point by larger numbers, and with all multipliers times c
pub signed_scaled : (c h : ℤ) (rs : List Rule) (us : List ℤ) (d : ℤ) (xs : List ℤ) → pos 0 <ℤ c → AreSigned rs us d xs → AreSigned rs (scale c us) (h *ℤ d) (scale h xs)
signed_scaled c h [] [] d xs p s = tt
signed_scaled c h [] (u ∷ us) d xs p s = absurd s
signed_scaled c h (r ∷ rs) [] d xs p s = absurd s
signed_scaled c h (r ∷ rs) (u ∷ us) d xs p s = (sign_scaled r.relation c u p s.0, slack s.1, signed_scaled c h rs us d xs p s.2)
  where
    slack : (value_at r.row d xs ≡ pos 0) ⊎ (u ≡ pos 0) → (value_at r.row (h *ℤ d) (scale h xs) ≡ pos 0) ⊎ (c *ℤ u ≡ pos 0)
    slack (inl e) = inl (value_scaled r.row.constant r.row.cells h d xs ∙ (ap (λ z. h *ℤ z) e ∙ *ℤ-zero h))
    slack (inr e) = inr (ap (λ z. c *ℤ z) e ∙ *ℤ-zero c)

-- ---- what is charged, at the point by larger numbers
pub flow_scaled : (h : ℤ) (ks : List ℕ) (fs : List Row) (d : ℤ) (xs ys : List ℤ) → dot (flow_row ks fs (h *ℤ d) (scale h xs)) ys ≡ h *ℤ dot (flow_row ks fs d xs) ys
flow_scaled h [] fs d xs ys = sym (*ℤ-zero h)
flow_scaled h (k ∷ ks) [] d xs ys = sym (*ℤ-zero h)
flow_scaled h (k ∷ ks) (f ∷ fs) d xs ys =
    dot-add_rows (unit k (value_at f (h *ℤ d) (scale h xs))) (flow_row ks fs (h *ℤ d) (scale h xs)) ys
    ∙ (ap₂ (λ s t. s +ℤ t) (dot_unit k (value_at f (h *ℤ d) (scale h xs)) ys ∙ ap (λ z. z *ℤ cell ys k) (value_scaled f.constant f.cells h d xs)) (flow_scaled h ks fs d xs ys)
    ∙ (by_ring (h ∷ value_at f d xs ∷ cell ys k ∷ dot (flow_row ks fs d xs) ys ∷ []) (var 0 ⊗ var 1 ⊗ var 2 ⊕ var 0 ⊗ var 3) (var 0 ⊗ (var 1 ⊗ var 2 ⊕ var 3)) refl
    ∙ ap (λ z. h *ℤ z) (sym (dot-add_rows (unit k (value_at f d xs)) (flow_row ks fs d xs) ys ∙ ap (λ z. z +ℤ dot (flow_row ks fs d xs) ys) (dot_unit k (value_at f d xs) ys)))))

-- what multipliers over times d are taken times
abbrev pub share : Purpose → ℤ → ℤ
share (goal q) d = d
share (flow fs) d = pos 1

share_positive : (p : Purpose) (d : ℤ) → pos 0 <ℤ d → pos 0 <ℤ share p d
share_positive (goal q) d h = h
share_positive (flow fs) d h = omega (arith, ints)

same_value : (h : ℤ) (p : Purpose) (own : List ℕ) (rs : List Rule) (us : List ℤ) (d : ℤ) (xs : List ℤ) (e : ℤ) (ys : List ℤ)
    → value_squared (charged_purpose (record { own = own; purpose = p; rules = rs }) (h *ℤ d) (scale h xs) (scale (share p d) us)) e ys ≡ share p d *ℤ (h *ℤ value_squared (purpose_at p own d xs) e ys -ℤ e *ℤ total_at (charged rs us) e ys)
same_value h (goal q) own rs us d xs e ys =
    value_left (h *ℤ d) q (charged rs (scale d us)) e ys
    ∙ (ap (λ z. h *ℤ d *ℤ value_squared q e ys -ℤ e *ℤ z) (scaled_total d rs us e ys)
    ∙ by_ring (h ∷ d ∷ value_squared q e ys ∷ e ∷ total_at (charged rs us) e ys ∷ []) (var 0 ⊗ var 1 ⊗ var 2 ⊖ var 3 ⊗ (var 1 ⊗ var 4)) (var 1 ⊗ (var 0 ⊗ var 2 ⊖ var 3 ⊗ var 4)) refl)
same_value h (flow fs) own rs us d xs e ys =
    value_left (pos 1) (purpose_at (flow fs) own (h *ℤ d) (scale h xs)) (charged rs (scale (pos 1) us)) e ys
    ∙ (ap₂ (λ s t. pos 1 *ℤ (pos 0 *ℤ (e *ℤ e) +ℤ e *ℤ s +ℤ pos 0) -ℤ e *ℤ t) (flow_scaled h own fs d xs ys) (scaled_total (pos 1) rs us e ys)
    ∙ by_ring (h ∷ e ∷ dot (flow_row own fs d xs) ys ∷ total_at (charged rs us) e ys ∷ [])
    (lit (pos 1) ⊗ (lit (pos 0) ⊗ (var 1 ⊗ var 1) ⊕ var 1 ⊗ (var 0 ⊗ var 2) ⊕ lit (pos 0)) ⊖ var 1 ⊗ (lit (pos 1) ⊗ var 3))
    (lit (pos 1) ⊗ (var 0 ⊗ (lit (pos 0) ⊗ (var 1 ⊗ var 1) ⊕ var 1 ⊗ var 2 ⊕ lit (pos 0)) ⊖ var 1 ⊗ var 3))
    refl)

-- ---- the law
pub unscaled : (own : ℕ → Bool) (h d : ℤ) (xs : List ℤ) (e : ℤ) (ys : List ℤ) → pos 0 <ℤ h → Agrees own (h *ℤ d) (scale h xs) e ys → Agrees own d xs e ys
unscaled own h d xs e ys p a k o =
    cancel_right (cell ys k *ℤ d) (cell xs k *ℤ e) h
    (by_ring (cell ys k ∷ d ∷ h ∷ []) (var 0 ⊗ var 1 ⊗ var 2) (var 0 ⊗ (var 2 ⊗ var 1)) refl ∙ (a k o ∙ (ap (λ z. z *ℤ e) (cell-scale h xs k) ∙ by_ring (h ∷ cell xs k ∷ e ∷ []) (var 0 ⊗ var 1 ⊗ var 2) (var 1 ⊗ var 2 ⊗ var 0) refl))) p

pub solved_has_multiplied : (ranges : Ranges) (pl : Player) (d : ℤ) (xs : List ℤ) → IsPlayer (length ranges) pl → IsConvex pl → pos 0 <ℤ d → IsSolved ranges pl d xs → Multiplied ranges pl d xs
solved_has_multiplied ranges pl d xs kept convex p s = from (system_of ranges pl d xs kept convex p s)
  where
    from : System ranges pl d xs → Multiplied ranges pl d xs
    from m = record {
      times = m.times;
      positive = m.positive;
      numbers = scale c us;
      multipliers = record {
        among = record {
          fits = length-scale m.times xs ∙ s.feasible.deviation.fits;
          others = λ k o. refl;
          within = λ k o.
              let r = range_at ranges k in
              let w = s.feasible.deviation.within k o in
              subst (λ z. InRange r (ratio z (m.times *ℤ d))) (sym (cell-scale m.times xs k)) (scaled_above r.0 (cell xs k) d m.times m.positive w.0, scaled_below r.1 (cell xs k) d m.times m.positive w.1);
        };
        signed = signed_scaled c m.times pl.rules us d xs (share_positive pl.purpose d p) (signed_here pl.rules m.factors d xs count m.fit m.slack);
        least = least;
      };
    }
      where
        c : ℤ
        c = share pl.purpose d

        us : List ℤ
        us = unsigned pl.rules m.factors

        q : Quadratic
        q = purpose_at pl.purpose pl.own d xs

        l : Quadratic
        l = lagrangian m.times q (weigh (signed pl.rules) m.factors)

        count : length m.factors ≡ length pl.rules
        count = m.count ∙ mapped pl.rules
          where
            mapped : (rs : List Rule) → length (signed rs) ≡ length rs
            mapped [] = refl
            mapped (r ∷ rs) = ap suc (mapped rs)

        value : (e : ℤ) (ys : List ℤ) → value_squared (charged_purpose pl (m.times *ℤ d) (scale m.times xs) (scale c us)) e ys ≡ c *ℤ value_squared l e ys
        value e ys =
            same_value m.times pl.purpose pl.own pl.rules us d xs e ys
            ∙ ap (λ z. c *ℤ z) (ap (λ z. m.times *ℤ value_squared q e ys -ℤ e *ℤ z) (same_total pl.rules m.factors e ys count) ∙ sym (value_left m.times q (weigh (signed pl.rules) m.factors) e ys))

        least : (e : ℤ) (ys : List ℤ) → pos 0 <ℤ e → IsDeviation ranges pl (m.times *ℤ d) (scale m.times xs) e ys → IsAtMost (charged_purpose pl (m.times *ℤ d) (scale m.times xs) (scale c us)) (m.times *ℤ d) (scale m.times xs) e ys
        least e ys r dev =
            let most = m.least e ys r dev.fits (unscaled (owns pl) m.times d xs e ys m.positive dev.others) (meets_box ranges pl.own e ys dev.within) in
            let f = c *ℤ (m.times *ℤ m.times) in
            let f_pos = mul_pos c (m.times *ℤ m.times) (share_positive pl.purpose d p) (mul_pos m.times m.times m.positive m.positive) in
            let grown = mul_le_right (value_squared l d xs *ℤ (e *ℤ e)) (value_squared l e ys *ℤ (d *ℤ d)) f most (omega (arith, linear, f_pos)) in
            let left : value_squared (charged_purpose pl (m.times *ℤ d) (scale m.times xs) (scale c us)) (m.times *ℤ d) (scale m.times xs) *ℤ (e *ℤ e) ≡ value_squared l d xs *ℤ (e *ℤ e) *ℤ f =
            ap (λ z. z *ℤ (e *ℤ e)) (value (m.times *ℤ d) (scale m.times xs) ∙ ap (λ z. c *ℤ z) (value-scaled l d xs m.times)) ∙ by_ring (c ∷ m.times ∷ value_squared l d xs ∷ e ∷ []) (var 0 ⊗ (var 1 ⊗ var 1 ⊗ var 2) ⊗ (var 3 ⊗ var 3)) (var 2 ⊗ (var 3 ⊗ var 3) ⊗ (var 0 ⊗ (var 1 ⊗ var 1))) refl in
            let right : value_squared (charged_purpose pl (m.times *ℤ d) (scale m.times xs) (scale c us)) e ys *ℤ (m.times *ℤ d *ℤ (m.times *ℤ d)) ≡ value_squared l e ys *ℤ (d *ℤ d) *ℤ f =
            ap (λ z. z *ℤ (m.times *ℤ d *ℤ (m.times *ℤ d))) (value e ys) ∙ by_ring (c ∷ m.times ∷ value_squared l e ys ∷ d ∷ []) (var 0 ⊗ var 2 ⊗ (var 1 ⊗ var 3 ⊗ (var 1 ⊗ var 3))) (var 2 ⊗ (var 3 ⊗ var 3) ⊗ (var 0 ⊗ (var 1 ⊗ var 1))) refl in
            omega (arith, linear, grown, left, right)
