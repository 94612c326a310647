-- The coordinates and multipliers of a row point split the game.
use Rattle.std.proofs.Common.{◌≡◌, ℕ, zero, suc, ◌≤◌, ◌+◌, ℤ, pos, ◌<ℤ◌, Bool, true, false, ◌||◌, cond, nat_eq, List, [], ◌∷◌, ◌++◌, All, map, take, length, Option, Some, None, arith, refl, sym, ap, ap₂, subst, ◌∙◌, length-append}
use Rattle.std.proofs.lemmas.Bool.{eqb-true, false≢true}
use Rattle.std.proofs.lemmas.List.{get_or-take, get_or_append_left, get_or-append-add}
use Rattle.std.proofs.lemmas.List.Elements.{All-head, All-tail}
use Rattle.emp_algebra.specs.Vector.{cell}
use Rattle.emp_game.specs.Game.{Rule, Player, names, IsPlayer}
use Rattle.emp_game.specs.Solved.{value_at, IsSolved, AreMultipliers, IsConvex}
use Rattle.emp_game.specs.Conditions.{derivatives, RuleHolds, RulesHold}
use Rattle.emp_game.proofs.Sound.{rows_solve}
use Rattle.emp_game.proofs.Slopes.{eqb_refl}
use Rattle.emp_game.proofs.Level.{derivatives_count}
use Rattle.emp_split.specs.Games.{Game, coordinates, EachPlayer, has_rule, dual_of, IsGame, IsConvexGame}
use Rattle.emp_split.specs.Numbers.{first_with, holder, slots, index_of, place_by, place, multipliers_at}
use Rattle.emp_split.specs.Meaning.{LeaderObeys, IsSplit}
use Rattle.emp_split.proofs.Each.{each, each_both, some_has, each_has, Found, at_first}
use Rattle.emp_split.proofs.Places.{index_there, holder_first, holder_self, HolderHas, holders_have}
use Rattle.emp_split.proofs.Complete.{self_rule, later_rule, map_rules}
use Rattle.emp_split.proofs.Lifting.{front_is, map_count}
use Rattle.emp_conditions.specs.Base.{multiplier, base_slots, index_base, multiplier_place, multipliers_in, split_of}
use Rattle.emp_conditions.specs.Rows.{Condition, HoldAt, variable, own_conditions, rule_condition, rule_conditions, leader_conditions, player_conditions, SolvesRows}
use Rattle.emp_conditions.specs.Laws.{HasOneRule, IsLeader}
use Rattle.emp_conditions.proofs.Values.{value_take, variable_value, derivatives_short}
use Rattle.emp_conditions.proofs.Ranges.{hold_split, numbers_in, own_same, rule_same, leader_obeys}

-- ---- the conditions of each player
abbrev pub PlayerHolds : Game → ℤ → List ℤ → ℕ → Player → Type 0
PlayerHolds g d nums j pl = HoldAt (own_conditions g j pl pl.own (derivatives pl)) d nums × HoldAt (rule_conditions g j pl.rules) d nums

each_holds : (g : Game) (d : ℤ) (nums : List ℤ) (j : ℕ) (ps : List Player) → HoldAt (player_conditions g j ps) d nums → EachPlayer (PlayerHolds g d nums) j ps
each_holds g d nums j [] h = tt
each_holds g d nums j (pl ∷ pls) h =
    let p = hold_split (own_conditions g j pl pl.own (derivatives pl)) (rule_conditions g j pl.rules ++ player_conditions g (suc j) pls) d nums h in
    let q = hold_split (rule_conditions g j pl.rules) (player_conditions g (suc j) pls) d nums p.1 in
    ((p.0, q.0), each_holds g d nums (suc j) pls q.1)

-- ---- rules
-- the rule of the equation holds with player j's multiplier of it
abbrev pub EquationHolds : (g : Game) → (ℕ → Rule) → ℤ → List ℤ → ℕ → ℕ → Type 0
EquationHolds g rule d nums j e = RuleHolds (rule e).relation (value_at (rule e).row d (take (coordinates g) nums)) (cell nums (multiplier_place g j e))

abbrev AllRules : (ℕ → Rule) → List Rule → Type 0
AllRules rule rs = All (λ r. r ≡ rule r.equation) rs

abbrev AllShort : ℕ → List Rule → Type 0
AllShort n rs = All (λ r. length r.row.cells ≤ n) rs

rest_holds : (b : Bool) (c : Condition) (cs : List Condition) (d : ℤ) (nums : List ℤ) → HoldAt (cond b (c ∷ cs) cs) d nums → HoldAt cs d nums
rest_holds true c cs d nums h = h.1
rest_holds false c cs d nums h = h

own_rules : (g : Game) (rule : ℕ → Rule) (d : ℤ) (nums : List ℤ) (j : ℕ) (rs : List Rule) → AllRules rule rs → AllShort (coordinates g) rs → HoldAt (rule_conditions g j rs) d nums → (e : ℕ) → has_rule rs e ≡ true → holder g j e ≡ j → EquationHolds g rule d nums j e
own_rules g rule d nums j [] a s h e k o = absurd (false≢true k)
own_rules g rule d nums j (r ∷ rs) a s h e k o = go (nat_eq r.equation e) refl (λ t. own_rules g rule d nums j rs (All-tail (λ r. r ≡ rule r.equation) r rs a) (All-tail (λ r. length r.row.cells ≤ coordinates g) r rs s) (rest_holds (nat_eq (holder g j r.equation) j) (rule_condition r.relation r.row (variable (multiplier_place g j r.equation))) (rule_conditions g j rs) d nums h) e t o)
  where
    go : (b : Bool) → nat_eq r.equation e ≡ b → (has_rule rs e ≡ true → EquationHolds g rule d nums j e) → EquationHolds g rule d nums j e
    go true q rest =
        let same : r.equation ≡ e = eqb-true r.equation e q in
        let own : nat_eq (holder g j r.equation) j ≡ true = ap (λ f. nat_eq (holder g j f) j) same ∙ (ap (λ i. nat_eq i j) o ∙ eqb_refl j) in
        let first = subst (λ b. HoldAt (cond b (rule_condition r.relation r.row (variable (multiplier_place g j r.equation)) ∷ rule_conditions g j rs) (rule_conditions g j rs)) d nums) own h in
        let holds : RuleHolds r.relation (value_at r.row d (take (coordinates g) nums)) (cell nums (multiplier_place g j r.equation)) =
        (rule_same r.relation r.row (variable (multiplier_place g j r.equation)) d nums (value_at r.row d (take (coordinates g) nums)) (cell nums (multiplier_place g j r.equation)) (value_take (coordinates g) r.row d nums (All-head (λ r. length r.row.cells ≤ coordinates g) r rs s)) (variable_value (multiplier_place g j r.equation) d nums)).0 first.0 in
        subst (λ f. EquationHolds g rule d nums j f) same (subst (λ (t : Rule). RuleHolds t.relation (value_at t.row d (take (coordinates g) nums)) (cell nums (multiplier_place g j r.equation))) (All-head (λ r. r ≡ rule r.equation) r rs a) holds)
    go false q rest = rest (sym (ap (λ b. b || has_rule rs e) q) ∙ k)

abbrev pub OwnEquations : (g : Game) → (ℕ → Rule) → ℤ → List ℤ → ℕ → Player → Type 0
OwnEquations g rule d nums j pl = (e : ℕ) → has_rule pl.rules e ≡ true → holder g j e ≡ j → EquationHolds g rule d nums j e

-- by the holder's conditions
pub all_equations : (g : Game) (rule : ℕ → Rule) (d : ℤ) (nums : List ℤ) → EachPlayer (OwnEquations g rule d nums) 0 g.players → EachPlayer (λ j pl. (e : ℕ) → has_rule pl.rules e ≡ true → EquationHolds g rule d nums j e) 0 g.players
all_equations g rule d nums h =
    each (λ j pl. OwnEquations g rule d nums j pl × ((e : ℕ) → has_rule pl.rules e ≡ true → some_has g.players e ≡ true)) (λ j pl. (e : ℕ) → has_rule pl.rules e ≡ true → EquationHolds g rule d nums j e) by_holder 0 g.players
    (each_both (OwnEquations g rule d nums) (λ j pl. (e : ℕ) → has_rule pl.rules e ≡ true → some_has g.players e ≡ true) 0 g.players h (each_has 0 g.players))
  where
    first : (j e : ℕ) → names g.visols e ≡ true → Found (OwnEquations g rule d nums) (first_with 0 g.players e) e → EquationHolds g rule d nums j e
    first j e v f =
        let i = first_with 0 g.players e in
        let there : EquationHolds g rule d nums i e = f.holds e f.has (holder_first g i e v) in
        let same : holder g i e ≡ holder g j e = holder_first g i e v ∙ sym (holder_first g j e v) in
        subst (λ k. RuleHolds (rule e).relation (value_at (rule e).row d (take (coordinates g) nums)) (cell nums (place_by (dual_of g.duals e) (coordinates g + index_base (multiplier k e) (base_slots g))))) same there

    by_holder : (j : ℕ) (pl : Player) → OwnEquations g rule d nums j pl × ((e : ℕ) → has_rule pl.rules e ≡ true → some_has g.players e ≡ true) → (e : ℕ) → has_rule pl.rules e ≡ true → EquationHolds g rule d nums j e
    by_holder j pl f e k = go (names g.visols e) refl
      where
        go : (b : Bool) → names g.visols e ≡ b → EquationHolds g rule d nums j e
        go true v = first j e v (at_first (OwnEquations g rule d nums) 0 g.players e h (f.1 e k))
        go false v = f.0 e k (holder_self g j e v)

rules_hold : (g : Game) (rule : ℕ → Rule) (d : ℤ) (nums : List ℤ) (j : ℕ) (rs : List Rule) → AllRules rule rs → ((e : ℕ) → has_rule rs e ≡ true → EquationHolds g rule d nums j e) → RulesHold rs (multipliers_in g j rs nums) d (take (coordinates g) nums)
rules_hold g rule d nums j [] a h = tt
rules_hold g rule d nums j (r ∷ rs) a h = (
  subst (λ (t : Rule). RuleHolds t.relation (value_at t.row d (take (coordinates g) nums)) (cell nums (multiplier_place g j r.equation))) (sym (All-head (λ r. r ≡ rule r.equation) r rs a)) (h r.equation (self_rule r rs)),
  rules_hold g rule d nums j rs (All-tail (λ r. r ≡ rule r.equation) r rs a) (λ e k. h e (later_rule r rs e k)),
)

-- ---- the split point
pub front_count : (n : ℕ) (xs : List ℤ) (m : ℕ) → length xs ≡ n + m → length (take n xs) ≡ n
front_count zero xs m h = refl
front_count (suc n) [] m h = absurd (omega arith)
front_count (suc n) (x ∷ xs) m h = ap suc (front_count n xs m (omega arith))

abbrev number_of : Game → List ℤ → ℕ → ℕ → ℤ
number_of g nums j e = cell nums (coordinates g + index_base (multiplier j e) (base_slots g))

pub split_front : (g : Game) (nums : List ℤ) (m : ℕ) → length nums ≡ coordinates g + m → take (coordinates g) (split_of g nums) ≡ take (coordinates g) nums
split_front g nums m h = front_is (coordinates g) (take (coordinates g) nums) (map (λ s. number_of g nums s.0 s.1) (slots g)) (front_count (coordinates g) nums m h)

-- the multipliers stand in the split point as among the base variables
pub same_multipliers : (g : Game) (nums : List ℤ) (m : ℕ) → IsGame g → length nums ≡ coordinates g + m → EachPlayer (λ j pl. multipliers_at g j pl.rules (split_of g nums) ≡ multipliers_in g j pl.rules nums) 0 g.players
same_multipliers g nums m kept l =
    each (HolderHas g) (λ j pl. multipliers_at g j pl.rules (split_of g nums) ≡ multipliers_in g j pl.rules nums) (λ j pl h. map_rules pl.rules (λ e. cell (split_of g nums) (place g j e)) (λ e. cell nums (multiplier_place g j e)) (placed j pl h)) 0 g.players (holders_have g)
  where
    count : length (take (coordinates g) nums) ≡ coordinates g
    count = front_count (coordinates g) nums m l

    placed : (j : ℕ) (pl : Player) → HolderHas g j pl → (e : ℕ) → has_rule pl.rules e ≡ true → cell (split_of g nums) (place g j e) ≡ cell nums (multiplier_place g j e)
    placed j pl h e k = go (dual_of g.duals e) refl
      where
        go : (o : Option ℕ) → dual_of g.duals e ≡ o → cell (split_of g nums) (place g j e) ≡ cell nums (multiplier_place g j e)
        go (Some i) q =
            ap (λ o. cell (split_of g nums) (place_by o (coordinates g + index_of (holder g j e, e) (slots g)))) q
            ∙ (get_or_append_left (take (coordinates g) nums) (map (λ s. number_of g nums s.0 s.1) (slots g)) (pos 0) i (let b = kept.duals i e q in omega (arith, count))
            ∙ (get_or-take (coordinates g) nums i (pos 0) (kept.duals i e q) ∙ sym (ap (λ o. cell nums (place_by o (coordinates g + index_base (multiplier (holder g j e) e) (base_slots g)))) q)))
        go None q =
            ap (λ o. cell (split_of g nums) (place_by o (coordinates g + index_of (holder g j e, e) (slots g)))) q
            ∙ (ap (λ n. cell (split_of g nums) (n + index_of (holder g j e, e) (slots g))) (sym count)
            ∙ (get_or-append-add (take (coordinates g) nums) (map (λ s. number_of g nums s.0 s.1) (slots g)) (index_of (holder g j e, e) (slots g)) (pos 0)
            ∙ (index_there (number_of g nums) (holder g j e, e) (slots g) (h e k q) ∙ sym (ap (λ o. cell nums (place_by o (coordinates g + index_base (multiplier (holder g j e) e) (base_slots g)))) q))))

-- ---- the law
pub rows_are_split : (g : Game) (d : ℤ) (nums : List ℤ) → IsGame g → IsConvexGame g → HasOneRule g → IsLeader (coordinates g) g.leader → pos 0 <ℤ d → SolvesRows g d nums → IsSplit g d (split_of g nums)
rows_are_split g d nums kept convex one lead p s = record {
  count = length-append xs (map (λ t. number_of g nums t.0 t.1) (slots g)) ∙ ap₂ (λ i j. i + j) (front_count (coordinates g) nums (length (base_slots g)) s.count) (map_count (number_of g nums) (slots g));
  leads = subst (λ ys. LeaderObeys g g.leader d ys) (sym ahead) (leader_obeys g g.leader d nums lead parts.0);
  solved = each Solved (λ j pl. IsSolved g.ranges pl d (take (coordinates g) (split_of g nums))) (λ j pl h. subst (λ ys. IsSolved g.ranges pl d ys) (sym ahead) h.1) 0 g.players solved;
  multipliers =
      each (λ j pl. Solved j pl × (multipliers_at g j pl.rules (split_of g nums) ≡ multipliers_in g j pl.rules nums)) (λ j pl. AreMultipliers g.ranges pl d (take (coordinates g) (split_of g nums)) (multipliers_at g j pl.rules (split_of g nums)))
      (λ j pl h. subst (λ ys. AreMultipliers g.ranges pl d ys (multipliers_at g j pl.rules (split_of g nums))) (sym ahead) (subst (λ us. AreMultipliers g.ranges pl d xs us) (sym h.1) h.0.0)) 0 g.players
      (each_both Solved (λ j pl. multipliers_at g j pl.rules (split_of g nums) ≡ multipliers_in g j pl.rules nums) 0 g.players solved (same_multipliers g nums (length (base_slots g)) kept s.count));
}
  where
    xs : List ℤ
    xs = take (coordinates g) nums

    ahead : take (coordinates g) (split_of g nums) ≡ xs
    ahead = split_front g nums (length (base_slots g)) s.count

    parts : HoldAt (leader_conditions g g.leader) d nums × HoldAt (player_conditions g 0 g.players) d nums
    parts = hold_split (leader_conditions g g.leader) (player_conditions g 0 g.players) d nums s.hold

    Solved : ℕ → Player → Type 0
    Solved j pl = AreMultipliers g.ranges pl d xs (multipliers_in g j pl.rules nums) × IsSolved g.ranges pl d xs

    Kept : ℕ → Player → Type 0
    Kept j pl = (IsPlayer (coordinates g) pl × IsConvex pl) × (AllRules one.rule pl.rules × PlayerHolds g d nums j pl)

    each_kept : EachPlayer Kept 0 g.players
    each_kept =
        each_both (λ j pl. IsPlayer (coordinates g) pl × IsConvex pl) (λ j pl. AllRules one.rule pl.rules × PlayerHolds g d nums j pl) 0 g.players
        (each_both (λ j pl. IsPlayer (coordinates g) pl) (λ j pl. IsConvex pl) 0 g.players kept.players convex)
        (each_both (λ j pl. AllRules one.rule pl.rules) (PlayerHolds g d nums) 0 g.players one.each (each_holds g d nums 0 g.players parts.1))

    equations : EachPlayer (λ j pl. (e : ℕ) → has_rule pl.rules e ≡ true → EquationHolds g one.rule d nums j e) 0 g.players
    equations = all_equations g one.rule d nums (each Kept (OwnEquations g one.rule d nums) (λ j pl h. own_rules g one.rule d nums j pl.rules h.1.0 h.0.0.rules h.1.1.1) 0 g.players each_kept)

    solved : EachPlayer Solved 0 g.players
    solved =
        each (λ j pl. Kept j pl × ((e : ℕ) → has_rule pl.rules e ≡ true → EquationHolds g one.rule d nums j e)) Solved
        (λ j pl h. rows_solve g.ranges pl d xs (multipliers_in g j pl.rules nums) (numbers_in g j pl.own nums) h.0.0.0 h.0.0.1 p (front_count (coordinates g) nums (length (base_slots g)) s.count) (record {
          coordinates = (own_same g j pl d nums pl.own (derivatives pl) (derivatives_count (coordinates g) pl.purpose pl.own pl.rules h.0.0.0.purpose) (derivatives_short (coordinates g) pl.purpose pl.own pl.rules h.0.0.0.purpose) h.0.0.0.below).0 h.0.1.1.0;
          rules = rules_hold g one.rule d nums j pl.rules h.0.1.0 h.1;
        })) 0 g.players
        (each_both Kept (λ j pl. (e : ℕ) → has_rule pl.rules e ≡ true → EquationHolds g one.rule d nums j e) 0 g.players each_kept equations)
