-- What splits a game is that of a row point: the numbers of ranges are the negative parts of the derivatives.
use Rattle.std.proofs.Common.{◌≡◌, inl, inr, ℕ, zero, suc, ◌<◌, ◌≤◌, ◌+◌, ℤ, pos, ◌<ℤ◌, Bool, true, false, ◌||◌, ◌&&◌, not, cond, nat_eq, List, [], ◌∷◌, ◌++◌, All, map, take, drop, length, Option, Some, None, arith, refl, sym, ap, ap₂, subst, ◌∙◌, length-append}
use Rattle.std.proofs.lemmas.Bool.{eqb-true, false≢true}
use Rattle.std.proofs.lemmas.List.{get_or-take, get_or_append_left, get_or-append-add}
use Rattle.std.proofs.lemmas.List.Elements.{All-head, All-tail}
use Rattle.emp_algebra.specs.Vector.{cell}
use Rattle.emp_num.specs.declared.frac.Frac.{Frac}
use Rattle.emp_ast.specs.declared.model.End.{End}
use Rattle.emp_ast.specs.declared.model.End.TheVariants.{Open, At}
use Rattle.emp_game.specs.Game.{Row, Rule, Player, names, range_at, AreApart, IsPlayer}
use Rattle.emp_game.specs.Solved.{value_at, IsSolved, AreMultipliers}
use Rattle.emp_game.specs.Conditions.{ends_meet, BetweenHolds, CoordinateHolds, derivatives, charged_slope, CoordinatesHold, RulesHold, Holds}
use Rattle.emp_game.proofs.Numbers.{negative_part}
use Rattle.emp_game.proofs.Slopes.{eqb_refl, Zipped, zipped_named}
use Rattle.emp_game.proofs.Level.{derivatives_count, own_numbers, multipliers_have_rows}
use Rattle.emp_split.specs.Games.{Game, coordinates, EachPlayer, has_rule, dual_of, IsGame}
use Rattle.emp_split.specs.Numbers.{holder, Slot, player_slots, slots_from, slots, index_of, place_by, place, multipliers_at}
use Rattle.emp_split.specs.Meaning.{LeaderObeys, IsSplit}
use Rattle.emp_split.proofs.Each.{each, each_both, each_above, or_first, or_second}
use Rattle.emp_split.proofs.Places.{same_slot, has_slot, HolderHas, holders_have}
use Rattle.emp_split.proofs.Complete.{map_rules}
use Rattle.emp_split.proofs.Lifting.{front_is}
use Rattle.emp_conditions.specs.Base.{Base, range, multiplier, two_ends, range_slots, base_from, base_slots, same_base, index_base, range_place, multiplier_place, multipliers_in, split_of}
use Rattle.emp_conditions.specs.Rows.{HoldsAt, HoldAt, variable, own_conditions, rule_condition, rule_conditions, leader_conditions, player_conditions, SolvesRows}
use Rattle.emp_conditions.specs.Laws.{IsLeader}
use Rattle.emp_conditions.proofs.Values.{value_take, variable_value, derivatives_short}
use Rattle.emp_conditions.proofs.Ranges.{hold_join, numbers_in, own_same, rule_same, obeys_leader}
use Rattle.emp_conditions.proofs.Sound.{PlayerHolds, front_count}
use Rattle.emp_conditions.proofs.Distinct.{and_parts, map_slots, found_again, slots_distinct}

-- ---- base variables in a list
abbrev pub has_base : Base → List Base → Bool
has_base s [] = false
has_base s (t ∷ ts) = same_base t s || has_base s ts

base_is : (f : Base → ℤ) (t s : Base) → same_base t s ≡ true → f t ≡ f s
base_is f (range i k) (range j l) h = let p = and_parts (nat_eq i j) (nat_eq k l) h in ap₂ (λ a b. f (range a b)) (eqb-true i j p.0) (eqb-true k l p.1)
base_is f (range i k) (multiplier j e) h = absurd (false≢true h)
base_is f (multiplier i e) (range j k) h = absurd (false≢true h)
base_is f (multiplier i e) (multiplier j k) h = let p = and_parts (nat_eq i j) (nat_eq e k) h in ap₂ (λ a b. f (multiplier a b)) (eqb-true i j p.0) (eqb-true e k p.1)

base_there : (f : Base → ℤ) (s : Base) (ts : List Base) → has_base s ts ≡ true → cell (map f ts) (index_base s ts) ≡ f s
base_there f s [] h = absurd (false≢true h)
base_there f s (t ∷ ts) h = go (same_base t s) refl (λ k. base_there f s ts k)
  where
    go : (b : Bool) → same_base t s ≡ b → (has_base s ts ≡ true → cell (map f ts) (index_base s ts) ≡ f s) → cell (map f (t ∷ ts)) (index_base s (t ∷ ts)) ≡ f s
    go true q rest = subst (λ b. cell (map f (t ∷ ts)) (cond b 0 (suc (index_base s ts))) ≡ f s) (sym q) (base_is f t s q)
    go false q rest = subst (λ b. cell (map f (t ∷ ts)) (cond b 0 (suc (index_base s ts))) ≡ f s) (sym q) (rest (sym (ap (λ b. b || has_base s ts) q) ∙ h))

base_left : (s : Base) (us ts : List Base) → has_base s us ≡ true → has_base s (us ++ ts) ≡ true
base_left s [] ts h = absurd (false≢true h)
base_left s (u ∷ us) ts h = go (same_base u s) refl (λ k. base_left s us ts k)
  where
    go : (b : Bool) → same_base u s ≡ b → (has_base s us ≡ true → has_base s (us ++ ts) ≡ true) → has_base s (u ∷ (us ++ ts)) ≡ true
    go true q rest = or_first (same_base u s) (has_base s (us ++ ts)) q
    go false q rest = or_second (same_base u s) (has_base s (us ++ ts)) (rest (sym (ap (λ b. b || has_base s us) q) ∙ h))

base_right : (s : Base) (us ts : List Base) → has_base s ts ≡ true → has_base s (us ++ ts) ≡ true
base_right s [] ts h = h
base_right s (u ∷ us) ts h = or_second (same_base u s) (has_base s (us ++ ts)) (base_right s us ts h)

mapped_slot : (j e : ℕ) (ss : List Slot) → has_base (multiplier j e) (map (λ s. multiplier s.0 s.1) ss) ≡ has_slot (j, e) ss
mapped_slot j e [] = refl
mapped_slot j e (s ∷ ss) = ap (λ b. same_slot s (j, e) || b) (mapped_slot j e ss)

-- each slot is among the base variables
slot_based : (g : Game) (at : ℕ) (ps : List Player) (j e : ℕ) → has_slot (j, e) (slots_from g at ps) ≡ true → has_base (multiplier j e) (base_from g at ps) ≡ true
slot_based g at [] j e h = absurd (false≢true h)
slot_based g at (pl ∷ pls) j e h =
    base_right (multiplier j e) (range_slots g.ranges at pl.own) (map (λ s. multiplier s.0 s.1) (player_slots g at pl.rules) ++ base_from g (suc at) pls)
    (go (player_slots g at pl.rules) h (λ k. slot_based g (suc at) pls j e k))
  where
    go : (us : List Slot) → has_slot (j, e) (us ++ slots_from g (suc at) pls) ≡ true → (has_slot (j, e) (slots_from g (suc at) pls) ≡ true → has_base (multiplier j e) (base_from g (suc at) pls) ≡ true) → has_base (multiplier j e) (map (λ s. multiplier s.0 s.1) us ++ base_from g (suc at) pls) ≡ true
    go [] k rest = rest k
    go (u ∷ us) k rest = by (same_slot u (j, e)) refl (λ t. go us t rest)
      where
        by : (b : Bool) → same_slot u (j, e) ≡ b → (has_slot (j, e) (us ++ slots_from g (suc at) pls) ≡ true → has_base (multiplier j e) (map (λ s. multiplier s.0 s.1) us ++ base_from g (suc at) pls) ≡ true) → has_base (multiplier j e) (map (λ s. multiplier s.0 s.1) (u ∷ us) ++ base_from g (suc at) pls) ≡ true
        by true q more = or_first (same_slot u (j, e)) (has_base (multiplier j e) (map (λ s. multiplier s.0 s.1) us ++ base_from g (suc at) pls)) q
        by false q more = or_second (same_slot u (j, e)) (has_base (multiplier j e) (map (λ s. multiplier s.0 s.1) us ++ base_from g (suc at) pls)) (more (sym (ap (λ b. b || has_slot (j, e) (us ++ slots_from g (suc at) pls)) q) ∙ k))

abbrev RangesBased : Game → List Base → ℕ → Player → Type 0
RangesBased g bs j pl = (k : ℕ) → names pl.own k ≡ true → two_ends (range_at g.ranges k).0 (range_at g.ranges k).1 ≡ true → has_base (range j k) bs ≡ true

range_based : (g : Game) (j : ℕ) (ks : List ℕ) (k : ℕ) → names ks k ≡ true → two_ends (range_at g.ranges k).0 (range_at g.ranges k).1 ≡ true → has_base (range j k) (range_slots g.ranges j ks) ≡ true
range_based g j [] k n t = absurd (false≢true n)
range_based g j (i ∷ ks) k n t = go (nat_eq i k) refl (λ m. range_based g j ks k m t)
  where
    ends : ℕ → Bool
    ends i = two_ends (range_at g.ranges i).0 (range_at g.ranges i).1

    kept : (b : Bool) (s u : Base) (us : List Base) → has_base s us ≡ true → has_base s (cond b (u ∷ us) us) ≡ true
    kept true s u us h = or_second (same_base u s) (has_base s us) h
    kept false s u us h = h

    go : (b : Bool) → nat_eq i k ≡ b → (names ks k ≡ true → has_base (range j k) (range_slots g.ranges j ks) ≡ true) → has_base (range j k) (range_slots g.ranges j (i ∷ ks)) ≡ true
    go true q rest =
        let own : two_ends (range_at g.ranges i).0 (range_at g.ranges i).1 ≡ true = ap (λ z. two_ends (range_at g.ranges z).0 (range_at g.ranges z).1) (eqb-true i k q) ∙ t in
        subst (λ b. has_base (range j k) (cond b (range j i ∷ range_slots g.ranges j ks) (range_slots g.ranges j ks)) ≡ true) (sym own) (or_first (nat_eq j j && nat_eq i k) (has_base (range j k) (range_slots g.ranges j ks)) (ap₂ (λ b c. b && c) (eqb_refl j) q))
    go false q rest = kept (two_ends (range_at g.ranges i).0 (range_at g.ranges i).1) (range j k) (range j i) (range_slots g.ranges j ks) (rest (sym (ap (λ b. b || names ks k) q) ∙ n))

ranges_based : (g : Game) (at : ℕ) (ps : List Player) → EachPlayer (RangesBased g (base_from g at ps)) at ps
ranges_based g at [] = tt
ranges_based g at (pl ∷ pls) = (
  λ k n t. base_left (range at k) (range_slots g.ranges at pl.own) (map (λ s. multiplier s.0 s.1) (player_slots g at pl.rules) ++ base_from g (suc at) pls) (range_based g at pl.own k n t),
  each (RangesBased g (base_from g (suc at) pls)) (RangesBased g (base_from g at (pl ∷ pls)))
      (λ i q f k n t. base_right (range i k) (range_slots g.ranges at pl.own) (map (λ s. multiplier s.0 s.1) (player_slots g at pl.rules) ++ base_from g (suc at) pls) (base_right (range i k) (map (λ s. multiplier s.0 s.1) (player_slots g at pl.rules)) (base_from g (suc at) pls) (f k n t)))
      (suc at) pls (ranges_based g (suc at) pls),
)

-- ---- the numbers of ranges
abbrev number_at : Player → ℤ → List ℤ → List ℤ → List ℕ → List Row → ℕ → ℤ
number_at pl d xs us [] fs k = pos 0
number_at pl d xs us (i ∷ is) [] k = pos 0
number_at pl d xs us (i ∷ is) (f ∷ fs) k = cond (nat_eq i k) (negative_part (charged_slope pl f i d xs us)) (number_at pl d xs us is fs k)

number_zipped : (pl : Player) (d : ℤ) (xs us : List ℤ) (is : List ℕ) (fs : List Row) (k : ℕ) (f : Row) → AreApart is → Zipped is fs k f → number_at pl d xs us is fs k ≡ negative_part (charged_slope pl f k d xs us)
number_zipped pl d xs us [] fs k f a h = absurd h
number_zipped pl d xs us (i ∷ is) [] k f a h = absurd h
number_zipped pl d xs us (i ∷ is) (e ∷ fs) k f a (inl h) =
    ap (λ b. cond b (negative_part (charged_slope pl e i d xs us)) (number_at pl d xs us is fs k)) (ap (λ z. nat_eq z k) h.0 ∙ eqb_refl k) ∙ ap₂ (λ (z : ℕ) (r : Row). negative_part (charged_slope pl r z d xs us)) h.0 h.1
number_zipped pl d xs us (i ∷ is) (e ∷ fs) k f a (inr h) = go (nat_eq i k) refl (number_zipped pl d xs us is fs k f a.1 h)
  where
    go : (b : Bool) → nat_eq i k ≡ b → number_at pl d xs us is fs k ≡ negative_part (charged_slope pl f k d xs us) → number_at pl d xs us (i ∷ is) (e ∷ fs) k ≡ negative_part (charged_slope pl f k d xs us)
    go true q rest = absurd (false≢true (sym a.0 ∙ (ap (names is) (eqb-true i k q) ∙ zipped_named is fs k f h)))
    go false q rest = ap (λ b. cond b (negative_part (charged_slope pl e i d xs us)) (number_at pl d xs us is fs k)) q ∙ rest

abbrev numbers_from : Game → ℤ → List ℤ → ℕ → List Player → ℕ → ℕ → ℤ
numbers_from g d nums at [] j k = pos 0
numbers_from g d nums at (pl ∷ pls) j k = cond (nat_eq j at) (number_at pl d (take (coordinates g) nums) (multipliers_at g j pl.rules nums) pl.own (derivatives pl) k) (numbers_from g d nums (suc at) pls j k)

abbrev HasNumbers : Game → ℤ → List ℤ → (ℕ → ℕ → ℤ) → ℕ → Player → Type 0
HasNumbers g d nums z j pl = (k : ℕ) → z j k ≡ number_at pl d (take (coordinates g) nums) (multipliers_at g j pl.rules nums) pl.own (derivatives pl) k

has_numbers : (g : Game) (d : ℤ) (nums : List ℤ) (at : ℕ) (ps : List Player) → EachPlayer (HasNumbers g d nums (numbers_from g d nums at ps)) at ps
has_numbers g d nums at [] = tt
has_numbers g d nums at (pl ∷ pls) = (
  λ k. ap (λ b. cond b (number_at pl d (take (coordinates g) nums) (multipliers_at g at pl.rules nums) pl.own (derivatives pl) k) (numbers_from g d nums (suc at) pls at k)) (eqb_refl at),
  each_above (HasNumbers g d nums (numbers_from g d nums (suc at) pls)) (HasNumbers g d nums (numbers_from g d nums at (pl ∷ pls))) at (λ j q l h k. other j k l (nat_eq j at) refl ∙ h k) (suc at) pls (omega arith) (has_numbers g d nums (suc at) pls),
)
  where
    other : (j k : ℕ) → at < j → (b : Bool) → nat_eq j at ≡ b → numbers_from g d nums at (pl ∷ pls) j k ≡ numbers_from g d nums (suc at) pls j k
    other j k l true q = absurd (let e = eqb-true j at q in omega arith)
    other j k l false q = ap (λ b. cond b (number_at pl d (take (coordinates g) nums) (multipliers_at g j pl.rules nums) pl.own (derivatives pl) k) (numbers_from g d nums (suc at) pls j k)) q

-- a number counts only where both ends are there and differ
between_number : (m : Bool) (a b : Frac) (d x s z w : ℤ) → (not m ≡ true → z ≡ w) → BetweenHolds m a b d x s z → BetweenHolds m a b d x s w
between_number true a b d x s z w e h = h
between_number false a b d x s z w e h = subst (λ v. BetweenHolds false a b d x s v) (e refl) h

coordinate_number : (lo hi : End) (d x s z w : ℤ) → (two_ends lo hi ≡ true → z ≡ w) → CoordinateHolds lo hi d x s z → CoordinateHolds lo hi d x s w
coordinate_number Open Open d x s z w e h = h
coordinate_number (At a) Open d x s z w e h = h
coordinate_number Open (At b) d x s z w e h = h
coordinate_number (At a) (At b) d x s z w e h = between_number (ends_meet a b) a b d x s z w e h

renumbered : (g : Game) (j : ℕ) (pl : Player) (d : ℤ) (xs us rows : List ℤ) (is : List ℕ) (fs : List Row) → ((k : ℕ) (f : Row) → Zipped is fs k f → two_ends (range_at g.ranges k).0 (range_at g.ranges k).1 ≡ true → negative_part (charged_slope pl f k d xs us) ≡ cell rows (range_place g j k)) → CoordinatesHold g.ranges pl d xs us is fs (own_numbers pl d xs us is fs) → CoordinatesHold g.ranges pl d xs us is fs (numbers_in g j is rows)
renumbered g j pl d xs us rows [] fs e h = tt
renumbered g j pl d xs us rows (i ∷ is) [] e h = absurd h
renumbered g j pl d xs us rows (i ∷ is) (f ∷ fs) e h = (
  coordinate_number (range_at g.ranges i).0 (range_at g.ranges i).1 d (cell xs i) (charged_slope pl f i d xs us) (negative_part (charged_slope pl f i d xs us)) (cell rows (range_place g j i)) (e i f (inl (refl, refl))) h.0,
  renumbered g j pl d xs us rows is fs (λ k r z. e k r (inr z)) h.1,
)

-- ---- the conditions of rules
rules_held : (g : Game) (j : ℕ) (rs : List Rule) (d : ℤ) (rows : List ℤ) → All (λ r. length r.row.cells ≤ coordinates g) rs → RulesHold rs (multipliers_in g j rs rows) d (take (coordinates g) rows) → HoldAt (rule_conditions g j rs) d rows
rules_held g j [] d rows s h = tt
rules_held g j (r ∷ rs) d rows s h =
    held (nat_eq (holder g j r.equation) j)
    ((rule_same r.relation r.row (variable (multiplier_place g j r.equation)) d rows (value_at r.row d (take (coordinates g) rows)) (cell rows (multiplier_place g j r.equation)) (value_take (coordinates g) r.row d rows (All-head (λ r. length r.row.cells ≤ coordinates g) r rs s)) (variable_value (multiplier_place g j r.equation) d rows)).1 h.0)
    (rules_held g j rs d rows (All-tail (λ r. length r.row.cells ≤ coordinates g) r rs s) h.1)
  where
    held : (b : Bool) → HoldsAt (rule_condition r.relation r.row (variable (multiplier_place g j r.equation))) d rows → HoldAt (rule_conditions g j rs) d rows → HoldAt (cond b (rule_condition r.relation r.row (variable (multiplier_place g j r.equation)) ∷ rule_conditions g j rs) (rule_conditions g j rs)) d rows
    held true h k = (h, k)
    held false h k = k

all_hold : (g : Game) (d : ℤ) (rows : List ℤ) (j : ℕ) (ps : List Player) → EachPlayer (PlayerHolds g d rows) j ps → HoldAt (player_conditions g j ps) d rows
all_hold g d rows j [] h = tt
all_hold g d rows j (pl ∷ pls) h =
    hold_join (own_conditions g j pl pl.own (derivatives pl)) (rule_conditions g j pl.rules ++ player_conditions g (suc j) pls) d rows h.0.0 (hold_join (rule_conditions g j pl.rules) (player_conditions g (suc j) pls) d rows h.0.1 (all_hold g d rows (suc j) pls h.1))

-- ---- the row point
back_count : (n : ℕ) (xs : List ℤ) (m : ℕ) → length xs ≡ n + m → length (drop n xs) ≡ m
back_count zero xs m h = omega arith
back_count (suc n) [] m h = absurd (omega arith)
back_count (suc n) (x ∷ xs) m h = back_count n xs m (omega arith)

parted : (n : ℕ) (xs : List ℤ) → take n xs ++ drop n xs ≡ xs
parted zero xs = refl
parted (suc n) [] = refl
parted (suc n) (x ∷ xs) = ap (λ (ys : List ℤ). x ∷ ys) (parted n xs)

map_length : (f : Base → ℤ) (ts : List Base) → length (map f ts) ≡ length ts
map_length f [] = refl
map_length f (t ∷ ts) = ap suc (map_length f ts)

module _ (g : Game) (d : ℤ) (nums : List ℤ) (kept : IsGame g) (lead : IsLeader (coordinates g) g.leader) (p : pos 0 <ℤ d) (s : IsSplit g d nums) where
  abbrev xs : List ℤ
  xs = take (coordinates g) nums

  abbrev number : Base → ℤ
  number (range j k) = numbers_from g d nums 0 g.players j k
  number (multiplier j e) = cell nums (coordinates g + index_of (j, e) (slots g))

  abbrev rows : List ℤ
  rows = xs ++ map number (base_slots g)

  count : length xs ≡ coordinates g
  count = front_count (coordinates g) nums (length (slots g)) s.count

  ahead : take (coordinates g) rows ≡ xs
  ahead = front_is (coordinates g) xs (map number (base_slots g)) count

  behind : (i : ℕ) → cell rows (coordinates g + i) ≡ cell (map number (base_slots g)) i
  behind i = ap (λ n. cell rows (n + i)) (sym count) ∙ get_or-append-add xs (map number (base_slots g)) i (pos 0)

  of_slot : (j e : ℕ) → has_slot (j, e) (slots g) ≡ true → cell rows (coordinates g + index_base (multiplier j e) (base_slots g)) ≡ cell nums (coordinates g + index_of (j, e) (slots g))
  of_slot j e h = behind (index_base (multiplier j e) (base_slots g)) ∙ base_there number (multiplier j e) (base_slots g) (slot_based g 0 g.players j e h)

  same_multipliers : EachPlayer (λ j pl. multipliers_in g j pl.rules rows ≡ multipliers_at g j pl.rules nums) 0 g.players
  same_multipliers = each (HolderHas g) (λ j pl. multipliers_in g j pl.rules rows ≡ multipliers_at g j pl.rules nums) (λ j pl h. map_rules pl.rules (λ e. cell rows (multiplier_place g j e)) (λ e. cell nums (place g j e)) (placed j pl h)) 0 g.players (holders_have g)
    where
      placed : (j : ℕ) (pl : Player) → HolderHas g j pl → (e : ℕ) → has_rule pl.rules e ≡ true → cell rows (multiplier_place g j e) ≡ cell nums (place g j e)
      placed j pl h e k = go (dual_of g.duals e) refl
        where
          go : (o : Option ℕ) → dual_of g.duals e ≡ o → cell rows (multiplier_place g j e) ≡ cell nums (place g j e)
          go (Some i) q =
              ap (λ o. cell rows (place_by o (coordinates g + index_base (multiplier (holder g j e) e) (base_slots g)))) q
              ∙ (get_or_append_left xs (map number (base_slots g)) (pos 0) i (let b = kept.duals i e q in omega (arith, count))
              ∙ (get_or-take (coordinates g) nums i (pos 0) (kept.duals i e q) ∙ sym (ap (λ o. cell nums (place_by o (coordinates g + index_of (holder g j e, e) (slots g)))) q)))
          go None q =
              ap (λ o. cell rows (place_by o (coordinates g + index_base (multiplier (holder g j e) e) (base_slots g)))) q
              ∙ (of_slot (holder g j e) e (h e k q) ∙ sym (ap (λ o. cell nums (place_by o (coordinates g + index_of (holder g j e, e) (slots g)))) q))

  abbrev Known : ℕ → Player → Type 0
  Known j pl = ((IsPlayer (coordinates g) pl × (IsSolved g.ranges pl d xs × AreMultipliers g.ranges pl d xs (multipliers_at g j pl.rules nums))) × (HasNumbers g d nums (numbers_from g d nums 0 g.players) j pl × RangesBased g (base_slots g) j pl)) × (multipliers_in g j pl.rules rows ≡ multipliers_at g j pl.rules nums)

  known : EachPlayer Known 0 g.players
  known =
      each_both (λ j pl. (IsPlayer (coordinates g) pl × (IsSolved g.ranges pl d xs × AreMultipliers g.ranges pl d xs (multipliers_at g j pl.rules nums))) × (HasNumbers g d nums (numbers_from g d nums 0 g.players) j pl × RangesBased g (base_slots g) j pl)) (λ j pl. multipliers_in g j pl.rules rows ≡ multipliers_at g j pl.rules nums) 0 g.players
      (each_both (λ j pl. IsPlayer (coordinates g) pl × (IsSolved g.ranges pl d xs × AreMultipliers g.ranges pl d xs (multipliers_at g j pl.rules nums))) (λ j pl. HasNumbers g d nums (numbers_from g d nums 0 g.players) j pl × RangesBased g (base_slots g) j pl) 0 g.players
      (each_both (λ j pl. IsPlayer (coordinates g) pl) (λ j pl. IsSolved g.ranges pl d xs × AreMultipliers g.ranges pl d xs (multipliers_at g j pl.rules nums)) 0 g.players kept.players (each_both (λ j pl. IsSolved g.ranges pl d xs) (λ j pl. AreMultipliers g.ranges pl d xs (multipliers_at g j pl.rules nums)) 0 g.players s.solved s.multipliers))
      (each_both (HasNumbers g d nums (numbers_from g d nums 0 g.players)) (RangesBased g (base_slots g)) 0 g.players (has_numbers g d nums 0 g.players) (ranges_based g 0 g.players)))
      same_multipliers

  player_holds : (j : ℕ) (pl : Player) → Known j pl → PlayerHolds g d rows j pl
  player_holds j pl k = (
    (own_same g j pl d rows pl.own (derivatives pl) (derivatives_count (coordinates g) pl.purpose pl.own pl.rules player.purpose) (derivatives_short (coordinates g) pl.purpose pl.own pl.rules player.purpose) player.below).1
        (subst (λ ys. CoordinatesHold g.ranges pl d ys (multipliers_in g j pl.rules rows) pl.own (derivatives pl) (numbers_in g j pl.own rows)) (sym ahead) (subst (λ us. CoordinatesHold g.ranges pl d xs us pl.own (derivatives pl) (numbers_in g j pl.own rows)) (sym k.1)
        (renumbered g j pl d xs us rows pl.own (derivatives pl) same_number holds.coordinates))),
    rules_held g j pl.rules d rows player.rules (subst (λ ys. RulesHold pl.rules (multipliers_in g j pl.rules rows) d ys) (sym ahead) (subst (λ us. RulesHold pl.rules us d xs) (sym k.1) holds.rules)),
  )
    where
      us : List ℤ
      us = multipliers_at g j pl.rules nums

      player : IsPlayer (coordinates g) pl
      player = k.0.0.0

      holds : Holds g.ranges pl d xs us (own_numbers pl d xs us pl.own (derivatives pl))
      holds = multipliers_have_rows g.ranges pl d xs us player p k.0.0.1.1 k.0.0.1.0.feasible.obeys

      same_number : (i : ℕ) (f : Row) → Zipped pl.own (derivatives pl) i f → two_ends (range_at g.ranges i).0 (range_at g.ranges i).1 ≡ true → negative_part (charged_slope pl f i d xs us) ≡ cell rows (range_place g j i)
      same_number i f z t =
          sym (behind (index_base (range j i) (base_slots g))
          ∙ (base_there number (range j i) (base_slots g) (k.0.1.1 i (zipped_named pl.own (derivatives pl) i f z) t) ∙ (k.0.1.0 i ∙ number_zipped pl d xs us pl.own (derivatives pl) i f player.apart z)))

  found : split_of g rows ≡ nums
  found = ap₂ (λ (ys zs : List ℤ). ys ++ zs) ahead (map_slots (slots g) (λ t. cell rows (coordinates g + index_base (multiplier t.0 t.1) (base_slots g))) (λ t. cell (drop (coordinates g) nums) (index_of t (slots g))) of_each ∙ found_again (slots g) (drop (coordinates g) nums) (slots_distinct g 0 g.players kept.apart) (back_count (coordinates g) nums (length (slots g)) s.count)) ∙ parted (coordinates g) nums
    where
      of_each : (t : Slot) → has_slot t (slots g) ≡ true → cell rows (coordinates g + index_base (multiplier t.0 t.1) (base_slots g)) ≡ cell (drop (coordinates g) nums) (index_of t (slots g))
      of_each t h =
          of_slot t.0 t.1 h
          ∙ (ap (λ (ys : List ℤ). cell ys (coordinates g + index_of t (slots g))) (sym (parted (coordinates g) nums))
          ∙ (ap (λ n. cell (xs ++ drop (coordinates g) nums) (n + index_of t (slots g))) (sym count) ∙ get_or-append-add xs (drop (coordinates g) nums) (index_of t (slots g)) (pos 0)))

  pub has_rows : (rs : List ℤ) × SolvesRows g d rs × (split_of g rs ≡ nums)
  has_rows = (
    rows,
    record {
      count = length-append xs (map number (base_slots g)) ∙ ap₂ (λ i j. i + j) count (map_length number (base_slots g));
      hold = hold_join (leader_conditions g g.leader) (player_conditions g 0 g.players) d rows (obeys_leader g g.leader d rows lead (subst (λ ys. LeaderObeys g g.leader d ys) (sym ahead) s.leads)) (all_hold g d rows 0 g.players (each Known (PlayerHolds g d rows) player_holds 0 g.players known));
    },
    found,
  )

pub split_has_rows : (g : Game) (d : ℤ) (nums : List ℤ) → IsGame g → IsLeader (coordinates g) g.leader → pos 0 <ℤ d → IsSplit g d nums → (rs : List ℤ) × SolvesRows g d rs × (split_of g rs ≡ nums)
split_has_rows g d nums kept lead p s = has_rows g d nums kept lead p s
