-- Where the parts of a problem stand.
use Rattle.std.proofs.Common.{◌≡◌, negsuc, ℕ, zero, suc, ◌+◌, ◌<◌, ◌≤◌, ℤ, pos, ◌-ℤ◌, ◌*ℤ◌, Bool, true, false, cond, List, [], ◌∷◌, ◌++◌, length, get_or, drop, map, refl, sym, ap, ◌∙◌, append_assoc, arith, nat_eq}
use Rattle.std.proofs.lemmas.Int.{ints}
use Rattle.std.proofs.lemmas.List.{drop_more, drop_all, map-append}
use Rattle.std.proofs.lemmas.Bool.{eq-eqb, ne_eqb}
use Rattle.emp_algebra.proofs.Ring.{var, lit, ◌⊖◌, ◌⊗◌, by_ring}
use Rattle.emp_num.proofs.Same.{same_value}
use Rattle.emp_num.specs.declared.frac.Frac.{Frac}
use Rattle.emp_ast.specs.declared.tree.VarId.{VarId}
use Rattle.emp_algebra.specs.Vector.{is_zero}
use Rattle.emp_game.specs.Conditions.{ends_meet}
use Rattle.emp_game.specs.Game.{range_at}
use Rattle.emp_split.specs.Games.{has_rule}
use Rattle.emp_split.specs.Numbers.{first_with, needs_own, player_slots}
use Rattle.emp_conditions.specs.Base.{Base, two_ends, range_slots, base_from, index_base, same_base, multiplier}
use Rattle.emp_problem.specs.declared.problem.LeftVariable.{LeftVariable}
use Rattle.emp_problem.specs.declared.problem.Rule.{Rule}
use Rattle.emp_problem.specs.declared.problem.BlockPart.{BlockPart}
use Rattle.emp_problem.specs.declared.problem.AgentProblem.{AgentProblem}
use Rattle.emp_problem.specs.Left.{place_in}
use Rattle.emp_problem.specs.Problem.{left_of, game_player, place_of}
use Rattle.emp_kkt.specs.declared.extras.Extra.{Extra}
use Rattle.emp_kkt.specs.declared.extras.Extra.TheVariants.{Range, Multiplier}
use Rattle.emp_kkt.specs.Items.{shape, base_of}
use Rattle.emp_kkt.specs.Making.{own_places, rules_at}
use Rattle.emp_kkt.proofs.Putting.{put_end}

-- ---- the first place at which a test holds
module _ {X : Type 0} (F : List X → ℕ) (t : X → Bool) (none : F [] ≡ 0) (one : (x : X) (xs : List X) → F (x ∷ xs) ≡ cond (t x) 0 (suc (F xs))) where
  pub found : (xs : List X) (at : ℕ) (x : X) (all : ℕ) → at < length xs → x ≡ get_or xs at x → t x ≡ true → all ≡ at + F (drop at xs) → at ≡ all
  found xs at x all h is holds inv =
      let e : F (drop at xs) ≡ 0 = ap F (drop_more xs at x h ∙ ap (λ y. y ∷ drop (at + 1) xs) (sym is)) ∙ (one x (drop (at + 1) xs) ∙ ap (λ b. cond b 0 (suc (F (drop (at + 1) xs)))) holds) in
      omega (arith, e, inv)

  pub passed : (xs : List X) (at : ℕ) (x : X) (all : ℕ) → at < length xs → x ≡ get_or xs at x → t x ≡ false → all ≡ at + F (drop at xs) → all ≡ (at + 1) + F (drop (at + 1) xs)
  passed xs at x all h is fails inv =
      let e : F (drop at xs) ≡ suc (F (drop (at + 1) xs)) = ap F (drop_more xs at x h ∙ ap (λ y. y ∷ drop (at + 1) xs) (sym is)) ∙ (one x (drop (at + 1) xs) ∙ ap (λ b. cond b 0 (suc (F (drop (at + 1) xs)))) fails) in
      omega (arith, e, inv)

  pub ended : (xs : List X) (at all : ℕ) → length xs ≤ at → at ≤ length xs → all ≡ at + F (drop at xs) → length xs ≡ all
  ended xs at all h k inv =
      let e : F (drop at xs) ≡ 0 = ap F (drop_all at xs h) ∙ none in
      omega (arith, e, inv)

-- ---- variables
abbrev pub numbers : List LeftVariable → List ℕ
numbers vs = map (λ v. v.variable.at) vs

pub place_found : (vs : List LeftVariable) (at : ℕ) (x : LeftVariable) (v all : ℕ) → at < length vs → x ≡ get_or vs at x → x.variable.at ≡ v → all ≡ at + place_in (numbers (drop at vs)) v → at ≡ all
place_found vs at x v all h is e inv = found (λ ys. place_in (numbers ys) v) (λ y. nat_eq y.variable.at v) refl (λ y ys. refl) vs at x all h is (eq-eqb x.variable.at v e) inv

pub place_passed : (vs : List LeftVariable) (at : ℕ) (x : LeftVariable) (v all : ℕ) → at < length vs → x ≡ get_or vs at x → (x.variable.at ≡ v → ⊥) → all ≡ at + place_in (numbers (drop at vs)) v → all ≡ (at + 1) + place_in (numbers (drop (at + 1) vs)) v
place_passed vs at x v all h is e inv = passed (λ ys. place_in (numbers ys) v) (λ y. nat_eq y.variable.at v) refl (λ y ys. refl) vs at x all h is (ne_eqb x.variable.at v e) inv

pub place_ended : (vs : List LeftVariable) (at v all : ℕ) → length vs ≤ at → at ≤ length vs → all ≡ at + place_in (numbers (drop at vs)) v → length vs ≡ all
place_ended vs at v all h k inv = ended (λ ys. place_in (numbers ys) v) (λ y. nat_eq y.variable.at v) refl (λ y ys. refl) vs at all h k inv

-- ---- base variables
pub extra_found : (xs : List Extra) (at : ℕ) (x : Extra) (b : Base) (all : ℕ) → at < length xs → x ≡ get_or xs at x → same_base (base_of x) b ≡ true → all ≡ at + index_base b (map base_of (drop at xs)) → at ≡ all
extra_found xs at x b all h is e inv = found (λ ys. index_base b (map base_of ys)) (λ y. same_base (base_of y) b) refl (λ y ys. refl) xs at x all h is e inv

pub extra_passed : (xs : List Extra) (at : ℕ) (x : Extra) (b : Base) (all : ℕ) → at < length xs → x ≡ get_or xs at x → same_base (base_of x) b ≡ false → all ≡ at + index_base b (map base_of (drop at xs)) → all ≡ (at + 1) + index_base b (map base_of (drop (at + 1) xs))
extra_passed xs at x b all h is e inv = passed (λ ys. index_base b (map base_of ys)) (λ y. same_base (base_of y) b) refl (λ y ys. refl) xs at x all h is e inv

pub extra_ended : (xs : List Extra) (at : ℕ) (b : Base) (all : ℕ) → length xs ≤ at → at ≤ length xs → all ≡ at + index_base b (map base_of (drop at xs)) → length xs ≡ all
extra_ended xs at b all h k inv = ended (λ ys. index_base b (map base_of ys)) (λ y. same_base (base_of y) b) refl (λ y ys. refl) xs at all h k inv

-- ---- blocks
abbrev pub rest_with : AgentProblem → ℕ → ℕ → ℕ
rest_with pr at e = first_with at (map (game_player (pos 1) (left_of pr)) (drop at pr.blocks)) e

block_step : (pr : AgentProblem) (at : ℕ) (b : BlockPart) (e : ℕ) → at < length pr.blocks → b ≡ get_or pr.blocks at b → rest_with pr at e ≡ cond (has_rule (rules_at pr b.rules) e) at (rest_with pr (at + 1) e)
block_step pr at b e h is = ap (λ bs. first_with at (map (game_player (pos 1) (left_of pr)) bs) e) (drop_more pr.blocks at b h ∙ ap (λ y. y ∷ drop (at + 1) pr.blocks) (sym is)) ∙ ap (λ k. cond (has_rule (rules_at pr b.rules) e) at (first_with k (map (game_player (pos 1) (left_of pr)) (drop (at + 1) pr.blocks)) e)) (let z : suc at ≡ at + 1 = omega arith in z)

pub block_found : (pr : AgentProblem) (at : ℕ) (b : BlockPart) (e all : ℕ) → at < length pr.blocks → b ≡ get_or pr.blocks at b → has_rule (rules_at pr b.rules) e ≡ true → rest_with pr at e ≡ all → at ≡ all
block_found pr at b e all h is holds inv = ap (λ t. cond t at (rest_with pr (at + 1) e)) (sym holds) ∙ (sym (block_step pr at b e h is) ∙ inv)

pub block_passed : (pr : AgentProblem) (at : ℕ) (b : BlockPart) (e all : ℕ) → at < length pr.blocks → b ≡ get_or pr.blocks at b → has_rule (rules_at pr b.rules) e ≡ false → rest_with pr at e ≡ all → rest_with pr (at + 1) e ≡ all
block_passed pr at b e all h is fails inv = ap (λ t. cond t at (rest_with pr (at + 1) e)) (sym fails) ∙ (sym (block_step pr at b e h is) ∙ inv)

pub block_ended : (pr : AgentProblem) (at e all : ℕ) → length pr.blocks ≤ at → at ≤ length pr.blocks → rest_with pr at e ≡ all → length pr.blocks ≡ all
block_ended pr at e all h k inv = let z : length pr.blocks ≡ at = omega (arith, h, k) in z ∙ (ap (λ bs. first_with at (map (game_player (pos 1) (left_of pr)) bs) e) (sym (drop_all at pr.blocks h)) ∙ inv)

pub ruleset placing = (place_found, place_passed, place_ended, extra_found, extra_passed, extra_ended, block_found, block_passed, block_ended)

-- ---- ends
zero_difference : (z : ℤ) → is_zero z ≡ true → z ≡ pos 0
zero_difference (pos zero) e = refl
zero_difference (pos (suc n)) e = cc
zero_difference (negsuc n) e = cc

cross_of : (x y : ℤ) → is_zero (x -ℤ y) ≡ true → x ≡ y
cross_of x y e = let z : x -ℤ y ≡ pos 0 = zero_difference (x -ℤ y) e in omega (arith, ints, z)

pub ends_same : (a b : Frac) → a.num ≡ b.num → a.den ≡ b.den → true ≡ ends_meet a b
ends_same a b n d =
    let z : a.num *ℤ b.den -ℤ b.num *ℤ a.den ≡ pos 0 = ap (λ x. x *ℤ b.den -ℤ b.num *ℤ a.den) n ∙ (ap (λ x. b.num *ℤ b.den -ℤ b.num *ℤ x) d ∙ by_ring (b.num ∷ b.den ∷ []) (var 0 ⊗ var 1 ⊖ var 0 ⊗ var 1) (lit (pos 0)) refl) in
    ap is_zero (sym z)

-- where they are one number they have the same parts
pub ends_parts : (a b : Frac) → ends_meet a b ≡ true → (a.num ≡ b.num) × (a.den ≡ b.den)
ends_parts a b e = let s : a ≡ b = same_value a b (cross_of (a.num *ℤ b.den) (b.num *ℤ a.den) e) in (ap (λ (f : Frac). f.num) s, ap (λ (f : Frac). f.den) s)

pub ends_differ : (a b : Frac) → ((a.num ≡ b.num) × (a.den ≡ b.den) → ⊥) → false ≡ ends_meet a b
ends_differ a b n = go (ends_meet a b) refl
  where
    go : (t : Bool) → ends_meet a b ≡ t → false ≡ t
    go true e = absurd (n (ends_parts a b e))
    go false e = refl

pub ruleset ends = (ends_same, ends_differ)

-- ---- base variables that are put
abbrev pub range_one : AgentProblem → ℕ → ℕ → List Base
range_one pr j k = range_slots (shape pr).ranges j (k ∷ [])

pub ranges_put : (pr : AgentProblem) (j : ℕ) (vs : List VarId) (at : ℕ) (v : VarId) (out new : List Extra) (all : List Base) → at < length vs → v ≡ get_or vs at v → two_ends (range_at (shape pr).ranges (place_of pr v)).0 (range_at (shape pr).ranges (place_of pr v)).1 ≡ true → new ≡ out ++ Range j (place_of pr v) ∷ [] → map base_of out ++ range_slots (shape pr).ranges j (own_places pr (drop at vs)) ≡ all → map base_of new ++ range_slots (shape pr).ranges j (own_places pr (drop (at + 1) vs)) ≡ all
ranges_put pr j vs at v out new all h is both e inv =
    ap (λ l. map base_of l ++ rest) e
    ∙ (ap (λ l. l ++ rest) (map-append base_of out (Range j (place_of pr v) ∷ []))
    ∙ (append_assoc (map base_of out) (base_of (Range j (place_of pr v)) ∷ []) rest
    ∙ (ap (λ t. map base_of out ++ cond t (base_of (Range j (place_of pr v)) ∷ rest) rest) (sym both)
    ∙ (ap (λ l. map base_of out ++ range_slots (shape pr).ranges j (own_places pr l)) (ap (λ y. y ∷ drop (at + 1) vs) is ∙ sym (drop_more vs at v h)) ∙ inv))))
  where
    rest : List Base
    rest = range_slots (shape pr).ranges j (own_places pr (drop (at + 1) vs))

pub ranges_left : (pr : AgentProblem) (j : ℕ) (vs : List VarId) (at : ℕ) (v : VarId) (out : List Extra) (all : List Base) → at < length vs → v ≡ get_or vs at v → two_ends (range_at (shape pr).ranges (place_of pr v)).0 (range_at (shape pr).ranges (place_of pr v)).1 ≡ false → map base_of out ++ range_slots (shape pr).ranges j (own_places pr (drop at vs)) ≡ all → map base_of out ++ range_slots (shape pr).ranges j (own_places pr (drop (at + 1) vs)) ≡ all
ranges_left pr j vs at v out all h is both inv =
    ap (λ t. map base_of out ++ cond t (base_of (Range j (place_of pr v)) ∷ rest) rest) (sym both)
    ∙ (ap (λ l. map base_of out ++ range_slots (shape pr).ranges j (own_places pr l)) (ap (λ y. y ∷ drop (at + 1) vs) is ∙ sym (drop_more vs at v h)) ∙ inv)
  where
    rest : List Base
    rest = range_slots (shape pr).ranges j (own_places pr (drop (at + 1) vs))

pub ranges_end : (pr : AgentProblem) (j : ℕ) (vs : List VarId) (at : ℕ) (out : List Extra) (all : List Base) → length vs ≤ at → map base_of out ++ range_slots (shape pr).ranges j (own_places pr (drop at vs)) ≡ all → map base_of out ≡ all
ranges_end pr j vs at out all h inv = put_end (λ k l. range_slots (shape pr).ranges j (own_places pr l)) vs at (map base_of out) all (λ k. refl) h inv

-- the multipliers of these rules that have a number of their own
abbrev pub own_multipliers : AgentProblem → ℕ → List Rule → List Base
own_multipliers pr j rs = map (λ s. multiplier s.0 s.1) (player_slots (shape pr) j (rules_at pr rs))

multipliers_step : (pr : AgentProblem) (j : ℕ) (r : Rule) (rs : List Rule) (t : Bool) → needs_own (shape pr) j r.equation.at ≡ t → own_multipliers pr j (r ∷ rs) ≡ cond t (multiplier j r.equation.at ∷ own_multipliers pr j rs) (own_multipliers pr j rs)
multipliers_step pr j r rs t e = ap (λ b. map (λ s. multiplier s.0 s.1) (cond b ((j, r.equation.at) ∷ player_slots (shape pr) j (rules_at pr rs)) (player_slots (shape pr) j (rules_at pr rs)))) e ∙ go t
  where
    go : (b : Bool) → map (λ s. multiplier s.0 s.1) (cond b ((j, r.equation.at) ∷ player_slots (shape pr) j (rules_at pr rs)) (player_slots (shape pr) j (rules_at pr rs))) ≡ cond b (multiplier j r.equation.at ∷ own_multipliers pr j rs) (own_multipliers pr j rs)
    go true = refl
    go false = refl

pub multipliers_put : (pr : AgentProblem) (j : ℕ) (rs : List Rule) (at : ℕ) (r : Rule) (out new : List Extra) (all : List Base) → at < length rs → r ≡ get_or rs at r → needs_own (shape pr) j r.equation.at ≡ true → new ≡ out ++ Multiplier j r.equation.at ∷ [] → map base_of out ++ own_multipliers pr j (drop at rs) ≡ all → map base_of new ++ own_multipliers pr j (drop (at + 1) rs) ≡ all
multipliers_put pr j rs at r out new all h is needs e inv =
    ap (λ l. map base_of l ++ own_multipliers pr j (drop (at + 1) rs)) e
    ∙ (ap (λ l. l ++ own_multipliers pr j (drop (at + 1) rs)) (map-append base_of out (Multiplier j r.equation.at ∷ []))
    ∙ (append_assoc (map base_of out) (multiplier j r.equation.at ∷ []) (own_multipliers pr j (drop (at + 1) rs))
    ∙ (ap (λ l. map base_of out ++ l) (sym (multipliers_step pr j r (drop (at + 1) rs) true needs))
    ∙ (ap (λ l. map base_of out ++ own_multipliers pr j l) (ap (λ y. y ∷ drop (at + 1) rs) is ∙ sym (drop_more rs at r h)) ∙ inv))))

pub multipliers_left : (pr : AgentProblem) (j : ℕ) (rs : List Rule) (at : ℕ) (r : Rule) (out : List Extra) (all : List Base) → at < length rs → r ≡ get_or rs at r → needs_own (shape pr) j r.equation.at ≡ false → map base_of out ++ own_multipliers pr j (drop at rs) ≡ all → map base_of out ++ own_multipliers pr j (drop (at + 1) rs) ≡ all
multipliers_left pr j rs at r out all h is needs inv =
    ap (λ l. map base_of out ++ l) (sym (multipliers_step pr j r (drop (at + 1) rs) false needs))
    ∙ (ap (λ l. map base_of out ++ own_multipliers pr j l) (ap (λ y. y ∷ drop (at + 1) rs) is ∙ sym (drop_more rs at r h)) ∙ inv)

pub multipliers_end : (pr : AgentProblem) (j : ℕ) (rs : List Rule) (at : ℕ) (out : List Extra) (all : List Base) → length rs ≤ at → map base_of out ++ own_multipliers pr j (drop at rs) ≡ all → map base_of out ≡ all
multipliers_end pr j rs at out all h inv = put_end (λ k l. own_multipliers pr j l) rs at (map base_of out) all (λ k. refl) h inv

-- ---- block by block
abbrev pub rest_base : AgentProblem → ℕ → List BlockPart → List Base
rest_base pr at bs = base_from (shape pr) at (map (game_player (pos 1) (left_of pr)) bs)

pub block_put : (pr : AgentProblem) (at : ℕ) (b : BlockPart) (out middle new all : List Base) → at < length pr.blocks → b ≡ get_or pr.blocks at b → middle ≡ out ++ range_slots (shape pr).ranges at (own_places pr b.own) → new ≡ middle ++ own_multipliers pr at b.rules → out ++ rest_base pr at (drop at pr.blocks) ≡ all → new ++ rest_base pr (at + 1) (drop (at + 1) pr.blocks) ≡ all
block_put pr at b out middle new all h is first second inv =
    ap (λ l. l ++ rest) (second ∙ ap (λ l. l ++ own_multipliers pr at b.rules) first)
    ∙ (append_assoc (out ++ ranges) (own_multipliers pr at b.rules) rest
    ∙ (append_assoc out ranges (own_multipliers pr at b.rules ++ rest)
    ∙ (ap (λ k. out ++ (ranges ++ (own_multipliers pr at b.rules ++ base_from (shape pr) k (map (game_player (pos 1) (left_of pr)) (drop (at + 1) pr.blocks))))) (let z : at + 1 ≡ suc at = omega arith in z)
    ∙ (ap (λ l. out ++ rest_base pr at l) (ap (λ y. y ∷ drop (at + 1) pr.blocks) is ∙ sym (drop_more pr.blocks at b h)) ∙ inv))))
  where
    rest : List Base
    rest = rest_base pr (at + 1) (drop (at + 1) pr.blocks)

    ranges : List Base
    ranges = range_slots (shape pr).ranges at (own_places pr b.own)

pub base_end : (pr : AgentProblem) (at : ℕ) (out all : List Base) → length pr.blocks ≤ at → out ++ rest_base pr at (drop at pr.blocks) ≡ all → out ≡ all
base_end pr at out all h inv = put_end (rest_base pr) pr.blocks at out all (λ k. refl) h inv

pub ruleset extending = (ranges_put, ranges_left, ranges_end, multipliers_put, multipliers_left, multipliers_end, block_put, base_end)
