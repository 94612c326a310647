-- The conditions of ranges and rules, one by one, as they stand among the rows.
use Rattle.std.proofs.Common.{◌≡◌, ◌↔◌, ℕ, ◌<◌, ◌≤◌, ℤ, pos, neg_ℤ, ◌+ℤ◌, ◌≤ℤ◌, Bool, true, false, ◌||◌, cond, nat_eq, List, [], ◌∷◌, ◌++◌, All, map, take, length, Option, Some, None, arith, refl, sym, ap, ap₂, subst, ◌∙◌}
use Rattle.std.proofs.lemmas.Int.{ints}
use Rattle.std.proofs.lemmas.Bool.{false≢true}
use Rattle.std.proofs.lemmas.List.Elements.{All-head, All-tail}
use Rattle.emp_algebra.proofs.Order.{linear}
use Rattle.emp_algebra.specs.Vector.{cell}
use Rattle.emp_num.specs.Ratio.{ratio}
use Rattle.emp_num.specs.declared.frac.Frac.{Frac}
use Rattle.emp_ast.specs.declared.model.Relation.{Relation}
use Rattle.emp_ast.specs.declared.model.Relation.TheVariants.{Equal, AtLeast, AtMost, Nothing}
use Rattle.emp_ast.specs.declared.model.End.{End}
use Rattle.emp_ast.specs.declared.model.End.TheVariants.{Open, At}
use Rattle.emp_game.specs.Game.{Row, Rule, Player, Ranges, range_at, names}
use Rattle.emp_game.specs.Solved.{value_at, InRange, IsObeyed, Obeys}
use Rattle.emp_game.specs.Conditions.{AreComplementary, ends_meet, over_low, under_high, BetweenHolds, CoordinateHolds, charged_slope, CoordinatesHold, RuleHolds}
use Rattle.emp_game.proofs.Numbers.{at_both, level_between}
use Rattle.emp_game.proofs.Slopes.{eqb_refl, eqb_true}
use Rattle.emp_split.specs.Games.{Leader, Game, coordinates}
use Rattle.emp_split.specs.Meaning.{LeaderObeys}
use Rattle.emp_split.proofs.Each.{or_first, or_second}
use Rattle.emp_conditions.specs.Base.{range_place, multipliers_in}
use Rattle.emp_conditions.specs.Rows.{Condition, zero_row, nonneg_row, pair, HoldsAt, HoldAt, variable, sum_row, low_row, high_row, slope_row, range_conditions, own_conditions, rule_condition, leader_range, leader_ranges, leader_rule, leader_rules, leader_conditions}
use Rattle.emp_conditions.specs.Laws.{IsLeader}
use Rattle.emp_conditions.proofs.Values.{value_take, cell_take, opposite_value, variable_value, sum_value, low_value, high_value, slope_value, IsShort}

-- ---- lists of conditions
pub hold_split : (cs ds : List Condition) (d : ℤ) (nums : List ℤ) → HoldAt (cs ++ ds) d nums → HoldAt cs d nums × HoldAt ds d nums
hold_split [] ds d nums h = (tt, h)
hold_split (c ∷ cs) ds d nums h = let r = hold_split cs ds d nums h.1 in ((h.0, r.0), r.1)

pub hold_join : (cs ds : List Condition) (d : ℤ) (nums : List ℤ) → HoldAt cs d nums → HoldAt ds d nums → HoldAt (cs ++ ds) d nums
hold_join [] ds d nums h k = k
hold_join (c ∷ cs) ds d nums h k = (h.0, hold_join cs ds d nums h.1 k)

-- ---- one coordinate
both_same : {x y u v : ℤ} → x ≡ u → y ≡ v → AreComplementary x y ↔ AreComplementary u v
both_same {x} {y} {u} {v} e f = (λ h. subst (λ z. AreComplementary z v) e (subst (λ z. AreComplementary x z) f h), λ h. subst (λ z. AreComplementary z y) (sym e) (subst (λ z. AreComplementary u z) (sym f) h))

none_same : {x u : ℤ} → x ≡ u → (x ≡ pos 0) ↔ (u ≡ pos 0)
none_same e = (λ h. sym e ∙ h, λ h. e ∙ h)

between_same : (m : Bool) (a b : Frac) (k : ℕ) (s z : Row) (d : ℤ) (nums : List ℤ) (g w : ℤ) → value_at s d nums ≡ g → value_at z d nums ≡ w
    → HoldAt (cond m (zero_row (low_row k a) ∷ []) (pair (sum_row s z) (low_row k a) ∷ pair z (high_row k b) ∷ [])) d nums ↔ BetweenHolds m a b d (cell nums k) g w
between_same true a b k s z d nums g w e f = let n = none_same (low_value k a d nums) in (λ h. n.0 h.0, λ h. (n.1 h, tt))
between_same false a b k s z d nums g w e f =
    let first = both_same (sum_value s z d nums ∙ ap₂ (λ x y. x +ℤ y) e f) (low_value k a d nums) in
    let second = both_same f (high_value k b d nums) in
    (λ h. (first.0 h.0, second.0 h.1.0), λ h. (first.1 h.0, (second.1 h.1, tt)))

pub range_same : (lo hi : End) (k : ℕ) (s z : Row) (d : ℤ) (nums : List ℤ) (g w : ℤ) → value_at s d nums ≡ g → value_at z d nums ≡ w → HoldAt (range_conditions lo hi k s z) d nums ↔ CoordinateHolds lo hi d (cell nums k) g w
range_same Open Open k s z d nums g w e f = let n = none_same e in (λ h. n.0 h.0, λ h. (n.1 h, tt))
range_same (At a) Open k s z d nums g w e f = let n = both_same e (low_value k a d nums) in (λ h. n.0 h.0, λ h. (n.1 h, tt))
range_same Open (At b) k s z d nums g w e f = let n = both_same (opposite_value s d nums ∙ ap neg_ℤ e) (high_value k b d nums) in (λ h. n.0 h.0, λ h. (n.1 h, tt))
range_same (At a) (At b) k s z d nums g w e f = between_same (ends_meet a b) a b k s z d nums g w e f

-- ---- the own coordinates of a player
abbrev pub numbers_in : Game → ℕ → List ℕ → List ℤ → List ℤ
numbers_in g j ks nums = map (λ k. cell nums (range_place g j k)) ks

abbrev Coordinates : Game → ℕ → Player → ℤ → List ℤ → List ℕ → List Row → Type 0
Coordinates g j pl d nums ks fs = CoordinatesHold g.ranges pl d (take (coordinates g) nums) (multipliers_in g j pl.rules nums) ks fs (numbers_in g j ks nums)

pub own_same : (g : Game) (j : ℕ) (pl : Player) (d : ℤ) (nums : List ℤ) (ks : List ℕ) (fs : List Row) → length fs ≡ length ks → All (IsShort (coordinates g)) fs → ((k : ℕ) → names ks k ≡ true → k < coordinates g) → HoldAt (own_conditions g j pl ks fs) d nums ↔ Coordinates g j pl d nums ks fs
own_same g j pl d nums [] fs l s b = (λ h. tt, λ h. tt)
own_same g j pl d nums (k ∷ ks) [] l s b = absurd (omega arith)
own_same g j pl d nums (k ∷ ks) (f ∷ fs) l s b =
    go (own_same g j pl d nums ks fs (omega arith) (All-tail (IsShort (coordinates g)) f fs s) (λ i n. b i (or_second (nat_eq k i) (names ks i) n)))
  where
    r : End × End
    r = range_at g.ranges k

    slope : ℤ
    slope = charged_slope pl f k d (take (coordinates g) nums) (multipliers_in g j pl.rules nums)

    number : ℤ
    number = cell nums (range_place g j k)

    same : cell nums k ≡ cell (take (coordinates g) nums) k
    same = cell_take (coordinates g) nums k (b k (or_first (nat_eq k k) (names ks k) (eqb_refl k)))

    here : HoldAt (range_conditions r.0 r.1 k (slope_row g j pl f k) (variable (range_place g j k))) d nums ↔ CoordinateHolds r.0 r.1 d (cell nums k) slope number
    here = range_same r.0 r.1 k (slope_row g j pl f k) (variable (range_place g j k)) d nums slope number (slope_value g j pl f k d nums (All-head (IsShort (coordinates g)) f fs s)) (variable_value (range_place g j k) d nums)

    go : HoldAt (own_conditions g j pl ks fs) d nums ↔ Coordinates g j pl d nums ks fs → HoldAt (own_conditions g j pl (k ∷ ks) (f ∷ fs)) d nums ↔ Coordinates g j pl d nums (k ∷ ks) (f ∷ fs)
    go rest = (
      λ h. let p = hold_split (range_conditions r.0 r.1 k (slope_row g j pl f k) (variable (range_place g j k))) (own_conditions g j pl ks fs) d nums h in (subst (λ x. CoordinateHolds r.0 r.1 d x slope number) same (here.0 p.0), rest.0 p.1),
      λ h. hold_join (range_conditions r.0 r.1 k (slope_row g j pl f k) (variable (range_place g j k))) (own_conditions g j pl ks fs) d nums (here.1 (subst (λ x. CoordinateHolds r.0 r.1 d x slope number) (sym same) h.0)) (rest.1 h.1),
    )

-- ---- one rule
pub rule_same : (rel : Relation) (r u : Row) (d : ℤ) (nums : List ℤ) (v w : ℤ) → value_at r d nums ≡ v → value_at u d nums ≡ w → HoldsAt (rule_condition rel r u) d nums ↔ RuleHolds rel v w
rule_same Equal r u d nums v w e f = none_same e
rule_same AtLeast r u d nums v w e f = both_same f e
rule_same AtMost r u d nums v w e f = both_same (opposite_value u d nums ∙ ap neg_ℤ f) (opposite_value r d nums ∙ ap neg_ℤ e)
rule_same Nothing r u d nums v w e f = none_same f

-- ---- the leader's
leader_between : (m : Bool) (a b : Frac) (k : ℕ) (d : ℤ) (nums : List ℤ) → ends_meet a b ≡ m → HoldAt (cond m (zero_row (low_row k a) ∷ []) (nonneg_row (low_row k a) ∷ nonneg_row (high_row k b) ∷ [])) d nums → (pos 0 ≤ℤ over_low a d (cell nums k)) × (pos 0 ≤ℤ under_high b d (cell nums k))
leader_between true a b k d nums m h =
    let low : over_low a d (cell nums k) ≡ pos 0 = sym (low_value k a d nums) ∙ h.0 in
    let high = at_both a b d (cell nums k) m low in
    (omega (arith, linear, low), omega (arith, linear, high))
leader_between false a b k d nums m h =
    let low = h.0 in
    let high = h.1.0 in
    (omega (arith, linear, low, low_value k a d nums), omega (arith, linear, high, high_value k b d nums))

leader_range_in : (lo hi : End) (k : ℕ) (d : ℤ) (nums : List ℤ) → HoldAt (leader_range lo hi k) d nums → InRange (lo, hi) (ratio (cell nums k) d)
leader_range_in Open Open k d nums h = (tt, tt)
leader_range_in (At a) Open k d nums h = (let l = h.0 in omega (arith, linear, l, low_value k a d nums), tt)
leader_range_in Open (At b) k d nums h = (tt, let l = h.0 in omega (arith, linear, l, high_value k b d nums))
leader_range_in (At a) (At b) k d nums h = let p = leader_between (ends_meet a b) a b k d nums refl h in (let l = p.0 in omega (arith, linear, l), let l = p.1 in omega (arith, linear, l))

pub leader_ranges_in : (ranges : Ranges) (ks : List ℕ) (d : ℤ) (nums : List ℤ) → HoldAt (leader_ranges ranges ks) d nums → (k : ℕ) → names ks k ≡ true → InRange (range_at ranges k) (ratio (cell nums k) d)
leader_ranges_in ranges [] d nums h k n = absurd (false≢true n)
leader_ranges_in ranges (j ∷ ks) d nums h k n = go (nat_eq j k) refl (λ t. leader_ranges_in ranges ks d nums p.1 k t)
  where
    p : HoldAt (leader_range (range_at ranges j).0 (range_at ranges j).1 j) d nums × HoldAt (leader_ranges ranges ks) d nums
    p = hold_split (leader_range (range_at ranges j).0 (range_at ranges j).1 j) (leader_ranges ranges ks) d nums h

    go : (b : Bool) → nat_eq j k ≡ b → (names ks k ≡ true → InRange (range_at ranges k) (ratio (cell nums k) d)) → InRange (range_at ranges k) (ratio (cell nums k) d)
    go true q rest = subst (λ i. InRange (range_at ranges i) (ratio (cell nums i) d)) (eqb_true j k q) (leader_range_in (range_at ranges j).0 (range_at ranges j).1 j d nums p.0)
    go false q rest = rest (sym (ap (λ b. b || names ks k) q) ∙ n)

leader_rule_in : (rel : Relation) (r : Row) (d : ℤ) (nums : List ℤ) → HoldAt (leader_rule rel r) d nums → IsObeyed rel (value_at r d nums)
leader_rule_in Equal r d nums h = h.0
leader_rule_in AtLeast r d nums h = h.0
leader_rule_in AtMost r d nums h = let l = h.0 in omega (arith, linear, l, opposite_value r d nums)
leader_rule_in Nothing r d nums h = tt

leader_rules_in : (n : ℕ) (rs : List Rule) (d : ℤ) (nums : List ℤ) → All (λ r. length r.row.cells ≤ n) rs → HoldAt (leader_rules rs) d nums → Obeys rs d (take n nums)
leader_rules_in n [] d nums s h = tt
leader_rules_in n (r ∷ rs) d nums s h =
    let p = hold_split (leader_rule r.relation r.row) (leader_rules rs) d nums h in
    (subst (λ z. IsObeyed r.relation z) (value_take n r.row d nums (All-head (λ r. length r.row.cells ≤ n) r rs s)) (leader_rule_in r.relation r.row d nums p.0), leader_rules_in n rs d nums (All-tail (λ r. length r.row.cells ≤ n) r rs s) p.1)

pub leader_obeys : (g : Game) (l : Option Leader) (d : ℤ) (nums : List ℤ) → IsLeader (coordinates g) l → HoldAt (leader_conditions g l) d nums → LeaderObeys g l d (take (coordinates g) nums)
leader_obeys g None d nums k h = tt
leader_obeys g (Some l) d nums k h =
    let p = hold_split (leader_ranges g.ranges l.own) (leader_rules l.rules) d nums h in
    (leader_rules_in (coordinates g) l.rules d nums k.1 p.1, λ i n. subst (λ z. InRange (range_at g.ranges i) (ratio z d)) (cell_take (coordinates g) nums i (k.0 i n)) (leader_ranges_in g.ranges l.own d nums p.0 i n))

-- and the other way
leader_within : (m : Bool) (a b : Frac) (k : ℕ) (d : ℤ) (nums : List ℤ) → ends_meet a b ≡ m → pos 0 ≤ℤ over_low a d (cell nums k) → pos 0 ≤ℤ under_high b d (cell nums k) → HoldAt (cond m (zero_row (low_row k a) ∷ []) (nonneg_row (low_row k a) ∷ nonneg_row (high_row k b) ∷ [])) d nums
leader_within true a b k d nums m low high = (low_value k a d nums ∙ level, tt)
  where
    level : over_low a d (cell nums k) ≡ pos 0
    level = level_between true a b d (cell nums k) (pos 0) m low high (λ _. omega (arith, ints)) (λ _. omega (arith, ints))
leader_within false a b k d nums m low high = (omega (arith, linear, low, low_value k a d nums), (omega (arith, linear, high, high_value k b d nums), tt))

in_leader_range : (lo hi : End) (k : ℕ) (d : ℤ) (nums : List ℤ) → InRange (lo, hi) (ratio (cell nums k) d) → HoldAt (leader_range lo hi k) d nums
in_leader_range Open Open k d nums h = tt
in_leader_range (At a) Open k d nums h = (let l = h.0 in omega (arith, linear, l, low_value k a d nums), tt)
in_leader_range Open (At b) k d nums h = (let l = h.1 in omega (arith, linear, l, high_value k b d nums), tt)
in_leader_range (At a) (At b) k d nums h = leader_within (ends_meet a b) a b k d nums refl (let l = h.0 in omega (arith, linear, l)) (let l = h.1 in omega (arith, linear, l))

in_leader_ranges : (ranges : Ranges) (ks : List ℕ) (d : ℤ) (nums : List ℤ) → ((k : ℕ) → names ks k ≡ true → InRange (range_at ranges k) (ratio (cell nums k) d)) → HoldAt (leader_ranges ranges ks) d nums
in_leader_ranges ranges [] d nums h = tt
in_leader_ranges ranges (k ∷ ks) d nums h =
    hold_join (leader_range (range_at ranges k).0 (range_at ranges k).1 k) (leader_ranges ranges ks) d nums (in_leader_range (range_at ranges k).0 (range_at ranges k).1 k d nums (h k (or_first (nat_eq k k) (names ks k) (eqb_refl k)))) (in_leader_ranges ranges ks d nums (λ i n. h i (or_second (nat_eq k i) (names ks i) n)))

in_leader_rule : (rel : Relation) (r : Row) (d : ℤ) (nums : List ℤ) → IsObeyed rel (value_at r d nums) → HoldAt (leader_rule rel r) d nums
in_leader_rule Equal r d nums h = (h, tt)
in_leader_rule AtLeast r d nums h = (h, tt)
in_leader_rule AtMost r d nums h = (omega (arith, linear, h, opposite_value r d nums), tt)
in_leader_rule Nothing r d nums h = tt

in_leader_rules : (n : ℕ) (rs : List Rule) (d : ℤ) (nums : List ℤ) → All (λ r. length r.row.cells ≤ n) rs → Obeys rs d (take n nums) → HoldAt (leader_rules rs) d nums
in_leader_rules n [] d nums s h = tt
in_leader_rules n (r ∷ rs) d nums s h =
    hold_join (leader_rule r.relation r.row) (leader_rules rs) d nums
    (in_leader_rule r.relation r.row d nums (subst (λ z. IsObeyed r.relation z) (sym (value_take n r.row d nums (All-head (λ r. length r.row.cells ≤ n) r rs s))) h.0))
    (in_leader_rules n rs d nums (All-tail (λ r. length r.row.cells ≤ n) r rs s) h.1)

pub obeys_leader : (g : Game) (l : Option Leader) (d : ℤ) (nums : List ℤ) → IsLeader (coordinates g) l → LeaderObeys g l d (take (coordinates g) nums) → HoldAt (leader_conditions g l) d nums
obeys_leader g None d nums k h = tt
obeys_leader g (Some l) d nums k h =
    hold_join (leader_ranges g.ranges l.own) (leader_rules l.rules) d nums
    (in_leader_ranges g.ranges l.own d nums (λ i n. subst (λ z. InRange (range_at g.ranges i) (ratio z d)) (sym (cell_take (coordinates g) nums i (k.0 i n))) (h.1 i n)))
    (in_leader_rules (coordinates g) l.rules d nums k.1 h.0)
