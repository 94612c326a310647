-- The game of a file is one: coordinates and rules of a player differ, each equation has one rule, and nothing is named beyond
-- the coordinates.
use Rattle.std.proofs.Common.{◌≡◌, ◌⊎◌, inl, inr, ℕ, suc, ◌+◌, ◌<◌, ◌≤◌, ℤ, pos, ◌*ℤ◌, ◌<ℤ◌, int_div, unsigned_abs, Bool, true, false, not, ◌||◌, cond, nat_eq, List, [], ◌∷◌, ◌++◌, All, map, length, slice_index_or, Option, Some, None, arith, refl, sym, ap, ap₂, subst, ◌∙◌}
use Rattle.std.specs.Prelude.{slice_get, ◌&&◌}
use Rattle.std.specs.List.{list_any, filter, count_by}
use Rattle.std.proofs.lemmas.Int.{unsigned_abs-mul}
use Rattle.std.proofs.lemmas.Bool.{or_parts, false≢true, cases_Bool, not-true, leb-false, false_from_ne_true}
use Rattle.std.proofs.lemmas.Option.{same_Some, slice_get_within}
use Rattle.std.proofs.lemmas.List.{length-map, length-append, ext_get_or, get_or-map, get_or_default}
use Rattle.std.proofs.lemmas.List.Folds.{list_any_at}
use Rattle.std.proofs.lemmas.List.Sums.{sum_by-append}
use Rattle.std.proofs.lemmas.List.Elements.{All-nil, All-cons, All-head, All-tail, All-filter, All-weaker}
use Rattle.std.proofs.Math.Nat.{dvd-mul_left}
use Prim.Native.Nat.{◌∣◌}
use Rattle.emp_algebra.specs.Vector.{cell}
use Rattle.emp_algebra.proofs.Order.{cancel_right}
use Rattle.emp_num.proofs.Gcds.{quot_exact}
use Rattle.emp_ast.specs.declared.tree.VarId.{VarId}
use Rattle.emp_ast.specs.declared.tree.EquId.{EquId}
use Rattle.emp_ast.specs.declared.model.Equation.{Equation}
use Rattle.emp_ast.specs.declared.model.Relation.{Relation}
use Rattle.emp_ast.specs.declared.model.Relation.TheVariants.{Equal}
use Rattle.emp_ast.specs.declared.model.Model.{Model}
use Rattle.emp_ast.specs.declared.annot.Block.{Block}
use Rattle.emp_ast.specs.declared.annot.Block.TheVariants.{Agent, Vi}
use Rattle.emp_ast.specs.declared.annot.Annot.{Annot}
use Rattle.emp_ast.specs.Parties.{Party, leader, block, names_variable, names_equation, is_implicit_equation, block_variables, listed_equations, block_equations, block_owns, equations, equations_by, owns, block_objective, objective, is_defined_by, is_defined_of, is_defined, is_constraint, constraints}
use Rattle.emp_ast.specs.Convex.{counted_by, counted}
use Rattle.emp_form.specs.Form.{Form}
use Rattle.emp_form.specs.Expansion.{form}
use Rattle.emp_form.proofs.FormLaws.{entry_of}
use Rattle.emp_owner.specs.Rules.{variable_times, equation_times, is_twice, is_listed, is_function, listings, own_namings, leader_namings, dual_namings}
use Rattle.emp_owner.specs.Settled.{IsKept}
use Rattle.emp_owner.proofs.Lists.{count_map}
use Rattle.emp_game.specs.Game.{Row, Rule, Purpose, goal, flow, Player, names, AreApart, IsPurpose, IsPlayer}
use Rattle.emp_game.proofs.Slopes.{eqb_refl}
use Rattle.emp_split.specs.Games.{Leader, Game, coordinates, dual_of, IsGame}
use Rattle.emp_conditions.specs.Laws.{HasOneRule, IsLeader}
use Rattle.emp_quantities.specs.Laws.{GoalIsShort}
use Rattle.emp_agents.specs.Given.{difference}
use Rattle.emp_problem.specs.Left.{left, place, leader_own, block_flow}
use Rattle.emp_problem.specs.GameOf.{IsRowOf, AreFlowsOf, IsPurposeOf, IsRuleOf, AreRulesOf, IsPlayerOf, LeadsAs, IsGameOf}
use Rattle.emp_problem.specs.Class.{IsClassFile}
use Rattle.emp_meaning.specs.Laws.{IsWellMade}
use Rattle.emp_meaning.specs.Ties.{left_at, Places}
use Rattle.emp_meaning.proofs.Move.{block_fits, range_count}
use Rattle.emp_meaning.proofs.MoveGame.{each_player}
use Rattle.emp_meaning.proofs.PriceLists.{all_here, equations_below, EachListed, constraints_listed}
use Rattle.emp_meaning.proofs.Prices.{dual_left}
use Rattle.emp_meaning.proofs.TieLists.{map_source, filter_all}
use Rattle.emp_meaning.proofs.Owners.{block_fit, player_owners}
use Rattle.emp_meaning.proofs.FillLists.{not_here, count_none, count_filter, all_filter_with, apart_map}

-- ---- the rules of ownership
pub variable_once : (m : Model) (a : Annot) (k : ℕ) (b : Block) (v : ℕ) → IsKept m a → slice_get a.blocks k ≡ Some b → v < length m.variables → variable_times v (block_variables b) < 2
variable_once m a k b v kept at l =
    let rule = kept.0.0.0.0.0.0.0.0.0.1 v l in
    let b1 = is_twice (leader_namings m a v + own_namings a v + dual_namings a v) in
    let b2 = list_any (λ c. is_twice (variable_times v (block_variables c))) a.blocks in
    let none = (or_parts b1 b2 (or_parts (b1 || b2) (is_twice (count_by (λ i. nat_eq i.0.at v) a.implicits)) rule).0).1 in
    leb-false 2 (variable_times v (block_variables b)) (not_here (λ c. is_twice (variable_times v (block_variables c))) a.blocks k b at none)

pub equation_once : (m : Model) (a : Annot) (k : ℕ) (b : Block) (e : ℕ) → IsKept m a → slice_get a.blocks k ≡ Some b → e < length m.equations → equation_times e (block_equations a b) < 2
equation_once m a k b e kept at l = go (cases_Bool (is_implicit_equation a e))
  where
    b1 : Bool
    b1 = list_any (λ c. is_twice (equation_times e (listed_equations c))) a.blocks

    b2 : Bool
    b2 = is_function a e && is_twice (listings a e)

    b3 : Bool
    b3 = is_implicit_equation a e && is_listed a e

    b4 : Bool
    b4 = is_twice (count_by (λ i. nat_eq i.1.at e) a.implicits)

    all : (b1 ≡ false) × (b3 ≡ false) × (b4 ≡ false)
    all =
        let rule = kept.0.0.0.0.0.0.0.0.1 e l in
        let last = or_parts (b1 || b2 || b3) b4 rule in
        let third = or_parts (b1 || b2) b3 last.0 in
        ((or_parts b1 b2 third.0).0, third.1, last.1)

    tied : List (VarId × EquId)
    tied = filter (λ i. names_variable (block_variables b) i.0.at) a.implicits

    count : equation_times e (block_equations a b) ≡ equation_times e (listed_equations b) + count_by (λ i. nat_eq i.1.at e) tied
    count = sum_by-append (λ x. cond (nat_eq x.at e) 1 0) (listed_equations b) (map (λ i. i.1) tied) ∙ ap (λ n. equation_times e (listed_equations b) + n) (count_map (λ x. nat_eq x.at e) (λ i. i.1) tied)

    fewer : count_by (λ i. nat_eq i.1.at e) tied ≤ count_by (λ i. nat_eq i.1.at e) a.implicits
    fewer = count_filter (λ i. nat_eq i.1.at e) (λ i. names_variable (block_variables b) i.0.at) a.implicits

    go : (is_implicit_equation a e ≡ true) ⊎ (is_implicit_equation a e ≡ false) → equation_times e (block_equations a b) < 2
    go (inl s) =
        let unlisted : is_listed a e ≡ false = sym (ap (λ c. c && is_listed a e) s) ∙ all.1 in
        let none = count_none (λ x. nat_eq x.at e) (listed_equations b) (not_here (λ c. names_equation (listed_equations c) e) a.blocks k b at unlisted) in
        let few = leb-false 2 (count_by (λ i. nat_eq i.1.at e) a.implicits) all.2 in
        omega (arith, count, fewer, none, few)
    go (inr s) =
        let none = count_none (λ i. nat_eq i.1.at e) a.implicits s in
        let few = leb-false 2 (equation_times e (listed_equations b)) (not_here (λ c. is_twice (equation_times e (listed_equations c))) a.blocks k b at all.0) in
        omega (arith, count, fewer, none, few)

-- ---- rules
rules_each : (n : ℤ) (m : Model) (a : Annot) (k : Party) (P : Rule → Type 0) → ((e : ℕ) (q : Equation) (r : Rule) → slice_get m.equations e ≡ Some q → IsRuleOf n m (left m a) e r → P r) → (es : List EquId) (rs : List Rule) → EachListed m a k es → AreRulesOf n m (left m a) es rs → All P rs
rules_each n m a k P f [] [] listed are = All-nil P
rules_each n m a k P f [] (r ∷ rs) listed are = absurd are
rules_each n m a k P f (e ∷ es) [] listed are = absurd are
rules_each n m a k P f (e ∷ es) (r ∷ rs) listed are = All-cons P r rs (f e.at listed.0.equation r listed.0.at are.0) (rules_each n m a k P f es rs listed.1 are.1)

rules_short : (n : ℤ) (m : Model) (a : Annot) (k : Party) (bound : ℕ) → length (left m a) ≡ bound → (es : List EquId) (rs : List Rule) → EachListed m a k es → AreRulesOf n m (left m a) es rs → All (λ r. length r.row.cells ≤ bound) rs
rules_short n m a k bound same es rs = rules_each n m a k (λ r. length r.row.cells ≤ bound) (λ e q r at of. let c = (of.row q at).count in omega (arith, c, same)) es rs

rule_equations : (n : ℤ) (m : Model) (vs : List ℕ) (es : List EquId) (rs : List Rule) → AreRulesOf n m vs es rs → map (λ r. r.equation) rs ≡ map (λ e. e.at) es
rule_equations n m vs [] [] are = refl
rule_equations n m vs [] (r ∷ rs) are = absurd are
rule_equations n m vs (e ∷ es) [] are = absurd are
rule_equations n m vs (e ∷ es) (r ∷ rs) are = ap₂ (λ i is. i ∷ is) are.0.equation (rule_equations n m vs es rs are.1)

-- ---- the rule of an equation
quotient_is : (x y d : ℤ) → pos 0 <ℤ d → x *ℤ d ≡ y → x ≡ int_div y d
quotient_is x y d h e =
    let divides : unsigned_abs d ∣ unsigned_abs y = subst (λ (z : ℤ). unsigned_abs d ∣ unsigned_abs z) e (subst (λ (z : ℕ). unsigned_abs d ∣ z) (sym (unsigned_abs-mul x d)) (dvd-mul_left (unsigned_abs d) (unsigned_abs x))) in
    cancel_right x (int_div y d) d (e ∙ sym (quot_exact y d divides)) h

abbrev divided_row : ℤ → List ℕ → Form → Row
divided_row n vs f = record { constant = int_div (n *ℤ f.constant) f.den; cells = map (λ v. int_div (n *ℤ f.linear v) f.den) vs }

abbrev row_made : ℤ → List ℤ → Row
row_made c cells = record { constant = c; cells = cells }

row_is : (n : ℤ) (vs : List ℕ) (f : Form) (r : Row) → pos 0 <ℤ f.den → IsRowOf n vs f r → r ≡ divided_row n vs f
row_is n vs f r h is = ap₂ row_made constant cells
  where
    constant : r.constant ≡ int_div (n *ℤ f.constant) f.den
    constant = quotient_is r.constant (n *ℤ f.constant) f.den h is.constant

    cells : r.cells ≡ map (λ v. int_div (n *ℤ f.linear v) f.den) vs
    cells =
        ext_get_or (pos 0) r.cells (map (λ v. int_div (n *ℤ f.linear v) f.den) vs) (is.count ∙ sym (length-map vs (λ v. int_div (n *ℤ f.linear v) f.den)))
        (λ i l.
        let inside : i < length vs = let c = is.count in omega (arith, c, l) in
        quotient_is (cell r.cells i) (n *ℤ f.linear (slice_index_or vs i 0)) f.den h (is.each i inside)
        ∙ sym (get_or-map (λ v. int_div (n *ℤ f.linear v) f.den) vs i 0 (pos 0) inside))

abbrev rule_made : ℕ → Relation → Row → Rule
rule_made e relation row = record { equation = e; relation = relation; row = row }

abbrev rule_by : ℤ → List ℕ → ℕ → Option Equation → Rule
rule_by n vs e (Some q) = rule_made e q.relation (divided_row n vs (form (difference q)))
rule_by n vs e None = rule_made e Equal (row_made (pos 0) [])

abbrev pub rule_for : ℤ → Model → Annot → ℕ → Rule
rule_for n m a e = rule_by n (left m a) e (slice_get m.equations e)

pub difference_den : (m : Model) (a : Annot) (e : ℕ) (q : Equation) → IsClassFile m a → slice_get m.equations e ≡ Some q → pos 0 <ℤ (form (difference q)).den
difference_den m a e q class at = let sides = class.expanded e q at in (entry_of (record { den = pos 1; nums = []; positive = omega arith }) (difference q) (tt, sides.0, sides.1)).2.den

rule_is : (n : ℤ) (m : Model) (a : Annot) (e : ℕ) (q : Equation) (r : Rule) → IsClassFile m a → slice_get m.equations e ≡ Some q → IsRuleOf n m (left m a) e r → r ≡ rule_for n m a r.equation
rule_is n m a e q r class at of =
    ap₂ (λ relation row. rule_made r.equation relation row) (of.relation q at) (row_is n (left m a) (form (difference q)) r.row (difference_den m a e q class at) (of.row q at))
    ∙ sym (ap (λ o. rule_by n (left m a) r.equation o) (ap (λ i. slice_get m.equations i) of.equation ∙ at))

-- ---- flows
flows_count : (n : ℤ) (m : Model) (vs : List ℕ) (gs : List (Option ℕ)) (rs : List Row) → AreFlowsOf n m vs gs rs → length rs ≡ length gs
flows_count n m vs [] [] are = refl
flows_count n m vs [] (r ∷ rs) are = absurd are
flows_count n m vs (g ∷ gs) [] are = absurd are
flows_count n m vs (g ∷ gs) (r ∷ rs) are = ap suc (flows_count n m vs gs rs are.1)

flows_short : (n : ℤ) (m : Model) (vs : List ℕ) (bound : ℕ) → length vs ≡ bound → (gs : List (Option ℕ)) (rs : List Row) → AreFlowsOf n m vs gs rs → All (λ r. length r.cells ≤ bound) rs
flows_short n m vs bound same [] [] are = All-nil (λ r. length r.cells ≤ bound)
flows_short n m vs bound same [] (r ∷ rs) are = absurd are
flows_short n m vs bound same (g ∷ gs) [] are = absurd are
flows_short n m vs bound same (g ∷ gs) (r ∷ rs) are = All-cons (λ x. length x.cells ≤ bound) r rs (let c = are.0.count in omega (arith, c, same)) (flows_short n m vs bound same gs rs are.1)

-- ---- the game of a file
module _ (n : ℤ) (m : Model) (a : Annot) (g : Game) (class : IsClassFile m a) (game : IsGameOf n m a g) (places : Places m a) where
  count : length (left m a) ≡ coordinates g
  count = sym (range_count m a g.ranges game.ranges)

  -- the number is that of a variable that is left
  abbrev IsLeft : ℕ → Type 0
  IsLeft v = (v < length m.variables) × (is_defined m a v ≡ false)

  place_below : (v : ℕ) → IsLeft v → place m a v < coordinates g
  place_below v h = let l = (places.placed v h.0 h.1).0 in let c = count in omega (arith, l, c)

  place_tells : (v w : ℕ) → IsLeft v → IsLeft w → place m a v ≡ place m a w → v ≡ w
  place_tells v w h k e = sym (places.placed v h.0 h.1).1 ∙ (ap (left_at m a) e ∙ (places.placed w k.0 k.1).1)

  -- ---- own coordinates
  counted_is : (k : ℕ) (b : Block) → slice_get a.blocks k ≡ Some b → counted m a k ≡ filter (λ v. not (is_defined_of m a (block k) v.at)) (block_variables b)
  counted_is k b at = ap (counted_by m a k) at

  counted_left : (k : ℕ) (b : Block) → slice_get a.blocks k ≡ Some b → All (λ v. IsLeft v.at) (counted m a k)
  counted_left k b at =
      subst (λ vs. All (λ v. IsLeft v.at) vs) (sym (counted_is k b at))
      (all_filter_with (λ v. not (is_defined_of m a (block k) v.at)) (λ v. names_variable (block_variables b) v.at ≡ true) (λ v. IsLeft v.at) one (block_variables b)
      (λ i d l. list_any_at (λ x. nat_eq x.at (slice_index_or (block_variables b) i d).at) (block_variables b) i d l (eqb_refl (slice_index_or (block_variables b) i d).at)))
    where
      one : (v : VarId) → names_variable (block_variables b) v.at ≡ true → not (is_defined_of m a (block k) v.at) ≡ true → IsLeft v.at
      one v h t =
          let l = block_fit (length m.variables) (length m.equations) b v.at (block_fits m a k b class at) h in (
            l,
            false_from_ne_true (is_defined m a v.at) (λ s. false≢true (sym (not-true (is_defined_of m a (block k) v.at) t) ∙ places.own (block k) v.at (slice_get_within a.blocks k b at) l (ap (λ o. block_owns o v.at) at ∙ h) s)),
          )

  own_apart : (k : ℕ) (b : Block) → slice_get a.blocks k ≡ Some b → AreApart (map (λ v. place m a v.at) (counted m a k))
  own_apart k b at =
      apart_map (λ v. v.at) (λ v. place m a v.at) (λ v. IsLeft v.at) (length m.variables) (λ v w. place_tells v.at w.at) (λ v h. h.0) (counted m a k) (counted_left k b at)
      (λ v l.
      let few = variable_once m a k b v class.kept at l in
      let fewer = count_filter (λ x. nat_eq x.at v) (λ x. not (is_defined_of m a (block k) x.at)) (block_variables b) in
      subst (λ vs. count_by (λ x. nat_eq x.at v) vs < 2) (sym (counted_is k b at)) (omega (arith, few, fewer)))

  -- ---- purposes
  abbrev none_for : VarId → Option ℕ
  none_for z = None

  flow_count : (k : ℕ) (zeros : List VarId) (pairs : List (EquId × VarId)) (equs : List EquId) (fs : List Row) → slice_get a.blocks k ≡ Some (Vi zeros pairs equs) → AreFlowsOf n m (left m a) (block_flow (Vi zeros pairs equs)) fs → length fs ≡ length (counted m a k)
  flow_count k zeros pairs equs fs at are =
      let all = filter_all (λ v. not (is_defined_of m a (block k) v.at)) (λ v. ap (λ o. not (is_defined_by m a (block k) v.at (block_objective o))) at) (zeros ++ map (λ q. q.1) pairs) in
      let rows = flows_count n m (left m a) (block_flow (Vi zeros pairs equs)) fs are in
      let two = length-append (map none_for zeros) (map (λ q. Some q.0.at) pairs) in
      let one = length-append zeros (map (λ q. q.1) pairs) in
      let z = length-map zeros none_for in
      let p = length-map pairs (λ q. Some q.0.at) in
      let v = length-map pairs (λ q. q.1) in
      let own : length (counted m a k) ≡ length (zeros ++ map (λ q. q.1) pairs) = ap length (counted_is k (Vi zeros pairs equs) at ∙ all) in
      omega (arith, rows, two, one, z, p, v, own)

  purpose_fits : (k : ℕ) (b : Block) (p : Purpose) (own : List ℕ) → slice_get a.blocks k ≡ Some b → length own ≡ length (counted m a k) → IsPurposeOf n m a k b p → IsPurpose (coordinates g) own p
  purpose_fits k (Agent sense objective vars equs) (goal q) own at same of =
      let c = count in
      let linear = of.count in
      let rows = of.rows in
      (omega (arith, c, linear), omega (arith, c, rows), All-weaker (λ r. length r ≡ length (left m a)) (λ r. length r ≤ coordinates g) (λ r w. omega (arith, w, c)) q.square of.widths)
  purpose_fits k (Agent sense objective vars equs) (flow fs) own at same of = absurd of
  purpose_fits k (Vi zeros pairs equs) (goal q) own at same of = absurd of
  purpose_fits k (Vi zeros pairs equs) (flow fs) own at same of = (flow_count k zeros pairs equs fs at of ∙ sym same, flows_short n m (left m a) (coordinates g) count (block_flow (Vi zeros pairs equs)) fs of)

  -- ---- players
  listed : (k : ℕ) (b : Block) → slice_get a.blocks k ≡ Some b → EachListed m a (block k) (constraints m a (block k))
  listed k b at = constraints_listed m a class (block k) (slice_get_within a.blocks k b at)

  player_fits : (k : ℕ) (b : Block) (pl : Player) → slice_get a.blocks k ≡ Some b → IsPlayerOf n m a k b pl → IsPlayer (coordinates g) pl
  player_fits k b pl at of = record {
    below = λ i h. let l = (player_owners n m a class k b pl at of).below i h in let c = count in omega (arith, l, c);
    apart = subst AreApart (sym of.own) (own_apart k b at);
    purpose = purpose_fits k b pl.purpose pl.own at (ap length of.own ∙ length-map (counted m a k) (λ v. place m a v.at)) of.purpose;
    rules = rules_short n m a (block k) (coordinates g) count (constraints m a (block k)) pl.rules (listed k b at) of.rules;
  }

  rules_apart : (k : ℕ) (b : Block) (pl : Player) → slice_get a.blocks k ≡ Some b → IsPlayerOf n m a k b pl → AreApart (map (λ r. r.equation) pl.rules)
  rules_apart k b pl at of =
      subst AreApart (sym (rule_equations n m (left m a) (constraints m a (block k)) pl.rules of.rules))
      (apart_map (λ e. e.at) (λ e. e.at) (λ e. e.at < length m.equations) (length m.equations) (λ x y px py s. s) (λ e l. l) (constraints m a (block k))
      (All-filter (λ e. is_constraint m a (block k) e.at) (λ e. e.at < length m.equations) (equations m a (block k)) (equations_below m a class (block k)))
      (λ e l.
      let few : equation_times e (equations m a (block k)) < 2 = subst (λ es. equation_times e es < 2) (sym (ap (equations_by a) at)) (equation_once m a k b e class.kept at l) in
      let fewer = count_filter (λ x. nat_eq x.at e) (λ x. is_constraint m a (block k) x.at) (equations m a (block k)) in
      omega (arith, few, fewer)))

  one_rule : (k : ℕ) (b : Block) (pl : Player) → slice_get a.blocks k ≡ Some b → IsPlayerOf n m a k b pl → All (λ r. r ≡ rule_for n m a r.equation) pl.rules
  one_rule k b pl at of = rules_each n m a (block k) (λ r. r ≡ rule_for n m a r.equation) (λ e q r is rule. rule_is n m a e q r class is rule) (constraints m a (block k)) pl.rules (listed k b at) of.rules

  -- ---- duals
  dual_below : (ds : List (VarId × EquId)) (k e : ℕ) → All (λ d. IsLeft d.0.at) ds → dual_of (map (λ d. (place m a d.0.at, d.1.at)) ds) e ≡ Some k → k < coordinates g
  dual_below [] k e all h = cc
  dual_below (d ∷ ds) k e all h = go (cases_Bool (nat_eq d.1.at e)) (λ s. dual_below ds k e (All-tail (λ x. IsLeft x.0.at) d ds all) s)
    where
      rest_of : Option ℕ
      rest_of = dual_of (map (λ x. (place m a x.0.at, x.1.at)) ds) e

      go : (nat_eq d.1.at e ≡ true) ⊎ (nat_eq d.1.at e ≡ false) → (rest_of ≡ Some k → k < coordinates g) → k < coordinates g
      go (inl s) rest =
          let same : Some (place m a d.0.at) ≡ Some k = sym (ap (λ b. cond b (Some (place m a d.0.at)) rest_of) s) ∙ h in
          subst (λ j. j < coordinates g) (same_Some (place m a d.0.at) k same) (place_below d.0.at (All-head (λ x. IsLeft x.0.at) d ds all))
      go (inr s) rest = rest (sym (ap (λ b. cond b (Some (place m a d.0.at)) rest_of) s) ∙ h)

  duals_left : All (λ d. IsLeft d.0.at) a.duals
  duals_left i d l = (
    (class.fits.duals i d l).0,
    dual_left m a (slice_index_or a.duals i d).0.at (list_any_at (λ x. nat_eq x.0.at (slice_index_or a.duals i d).0.at) a.duals i d l (eqb_refl (slice_index_or a.duals i d).0.at)),
  )

  is_game : IsGame g
  is_game = record {
    players = each_player n m a g (λ j pl. IsPlayer (coordinates g) pl) game player_fits;
    apart = each_player n m a g (λ j pl. AreApart (map (λ r. r.equation) pl.rules)) game rules_apart;
    duals = λ k e h. dual_below a.duals k e duals_left (ap (λ ds. dual_of ds e) (sym game.duals) ∙ h);
  }

  has_one_rule : HasOneRule g
  has_one_rule = record { rule = rule_for n m a; each = each_player n m a g (λ j pl. All (λ r. r ≡ rule_for n m a r.equation) pl.rules) game one_rule }

  -- ---- the leader
  leader_left : All (λ v. IsLeft v) (leader_own m a)
  leader_left = All-filter (λ v. owns m a leader v) IsLeft (left m a) (λ i d l. subst IsLeft (get_or_default (left m a) i 0 d l) ((places.at i l).0, (places.at i l).1))

  leads : (b : Bool) (o : Option Leader) → a.bilevel ≡ b → LeadsAs n m a b o → IsLeader (coordinates g) o × GoalIsShort (coordinates g) o
  leads true (Some l) at of = (
    (
      λ i h.
          let s = map_source (place m a) (leader_own m a) i (ap (λ own. names own i) (sym of.own) ∙ h) in
          subst (λ j. j < coordinates g) s.is (place_below s.entry (all_here IsLeft (leader_own m a) s.index s.entry s.at leader_left)),
      rules_short n m a leader (coordinates g) count (constraints m a leader) l.rules (constraints_listed m a class leader at) of.rules,
    ),
    let c = count in let cells = of.goal.count in omega (arith, c, cells),
  )
  leads true None at of = absurd of
  leads false (Some l) at of = absurd of
  leads false None at of = (tt, tt)

  pub well_made : IsWellMade g
  well_made = record {
    game = is_game;
    rules = has_one_rule;
    leader = (leads a.bilevel g.leader refl game.leads).0;
    goal = (leads a.bilevel g.leader refl game.leads).1;
  }
