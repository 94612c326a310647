-- The leader of a bilevel file and that of its game.
use Rattle.std.proofs.Common.{◌≡◌, ◌⊎◌, inl, inr, ◌↔◌, ℕ, zero, suc, ◌<◌, ℤ, pos, neg_ℤ, ◌+ℤ◌, ◌*ℤ◌, ◌≤ℤ◌, ◌<ℤ◌, true, false, cond, nat_lt, List, [], ◌∷◌, map, length, Option, Some, None, arith, refl, sym, ap, ap₂, subst, ◌∙◌}
use Rattle.std.specs.Prelude.{slice_get, slice_index_or}
use Rattle.std.proofs.lemmas.Bool.{cases_Bool}
use Rattle.std.proofs.lemmas.Option.{slice_get_within, get_or_from_slice_get}
use Rattle.std.proofs.lemmas.List.{length-map}
use Rattle.std.proofs.lemmas.List.Elements.{All-map}
use lib.IntN.{*ℤ-zero, zero-*ℤ}
use Rattle.emp_algebra.proofs.Ring.{var, lit, ◌⊕◌, ◌⊗◌, by_ring}
use Rattle.emp_algebra.proofs.Laws.{mul_pos, neg_ℤ-*ℤ}
use Rattle.emp_algebra.proofs.Order.{linear, mul_le_right, mul_lt_right, le_or_lt}
use Rattle.emp_algebra.specs.Vector.{cell, dot}
use Rattle.emp_num.specs.Ratio.{Ratio, ratio}
use Rattle.emp_num.specs.Point.{Point, coordinate}
use Rattle.emp_systems.specs.Steps.{Quadratic, value_squared, form as square_form}
use Rattle.emp_ast.specs.declared.model.Variable.{Variable}
use Rattle.emp_ast.specs.declared.model.Sense.{Sense}
use Rattle.emp_ast.specs.declared.model.Sense.TheVariants.{Min, Max}
use Rattle.emp_ast.specs.declared.model.Model.{Model}
use Rattle.emp_ast.specs.declared.annot.Annot.{Annot}
use Rattle.emp_ast.specs.SameLaws.{SameFraction}
use Rattle.emp_ast.specs.Meets.{MeetsEquation, MeetsBounds}
use Rattle.emp_ast.specs.Parties.{leader, objective, owns, is_defined, EachDefinition}
use Rattle.emp_ast.specs.Rivals.{Fits, IsFeasible}
use Rattle.emp_ast.specs.Solved.{IsSmaller}
use Rattle.emp_ast.specs.Solved as Solved
use Rattle.emp_ast.specs.Bilevel.{IsBetterForLeader, IsBetterBy}
use Rattle.emp_ast.proofs.Fractions.{fraction_on, fraction_back, smaller_same}
use Rattle.emp_form.specs.Form.{Form, IsLinear}
use Rattle.emp_game.specs.Game.{names, range_at}
use Rattle.emp_game.specs.Conditions.{row_of}
use Rattle.emp_game.specs.Solved.{value_at, InRange}
use Rattle.emp_split.specs.Games.{Leader, Game}
use Rattle.emp_split.specs.Meaning.{LeaderObeys, IsBetter}
use Rattle.emp_left.specs.Left.{upper}
use Rattle.emp_agents.specs.Given.{given_form, given_for, definition}
use Rattle.emp_problem.specs.Left.{left, place, no_variable, range_of, leader_own, signed, signed_for, goal_form}
use Rattle.emp_problem.specs.GameOf.{IsRowOf, IsQuadraticOf, IsLeaderOf, LeadsAs}
use Rattle.emp_meaning.specs.Laws.{left_nums}
use Rattle.emp_meaning.specs.Ties.{left_at, signed_ratio}
use Rattle.emp_meaning.proofs.Move.{placed_cell, range_is, defined_unbound}
use Rattle.emp_meaning.proofs.PriceLists.{there_is}
use Rattle.emp_meaning.proofs.MoveRules.{obeys_down, obeys_up}
use Rattle.emp_meaning.proofs.Multipliers.{nothing_value}
use Rattle.emp_meaning.proofs.Prices.{AreTied}
use Rattle.emp_meaning.proofs.TieLists.{Source, map_source, map_named, Kept, filter_source, filter_has}
use Rattle.emp_meaning.proofs.Places.{named_left, left_named}

map_id : (vs : List ℕ) → map (λ u. u) vs ≡ vs
map_id [] = refl
map_id (v ∷ vs) = ap (λ (us : List ℕ). v ∷ us) (map_id vs)

-- ---- the leader of the game
pub record Led (n : ℤ) (m : Model) (a : Annot) (g : Game) : Type 0 where
  pub led : Leader
  pub at : g.leader ≡ Some led
  pub is : IsLeaderOf n m a led

led_of : (n : ℤ) (m : Model) (a : Annot) (g : Game) (o : Option Leader) → g.leader ≡ o → LeadsAs n m a true o → Led n m a g
led_of n m a g None s h = absurd h
led_of n m a g (Some l) s h = record { led = l; at = s; is = h }

pub led : (n : ℤ) (m : Model) (a : Annot) (g : Game) → a.bilevel ≡ true → LeadsAs n m a a.bilevel g.leader → Led n m a g
led n m a g bilevel h = led_of n m a g g.leader refl (subst (λ b. LeadsAs n m a b g.leader) bilevel h)

-- in a file that is not bilevel no game has a leader
unled : (n : ℤ) (m : Model) (a : Annot) (o : Option Leader) → LeadsAs n m a false o → o ≡ None
unled n m a None h = refl
unled n m a (Some l) h = absurd h

pub not_led : (n : ℤ) (m : Model) (a : Annot) (g : Game) → a.bilevel ≡ false → LeadsAs n m a a.bilevel g.leader → g.leader ≡ None
not_led n m a g h l = unled n m a g.leader (subst (λ b. LeadsAs n m a b g.leader) h l)

module _ (n : ℤ) (m : Model) (a : Annot) (g : Game) (t : AreTied n m a g) (bilevel : a.bilevel ≡ true) (l : Leader) (is : IsLeaderOf n m a l) where
  -- ---- ranges
  range_of_variable : (v : ℕ) (x : Variable) → slice_get m.variables v ≡ Some x → range_of m v ≡ (x.low, x.high)
  range_of_variable v x at = ap (λ y. (y.low, y.high)) (get_or_from_slice_get m.variables v x no_variable at)

  ranges_down : (p : Point) → ((v : ℕ) (x : Variable) → slice_get m.variables v ≡ Some x → owns m a leader v ≡ true → MeetsBounds p v x) → (i : ℕ) → names l.own i ≡ true → InRange (range_at g.ranges i) (ratio (cell (left_nums m a p) i) p.den)
  ranges_down p h i own = by_variable (there_is m.variables v within.0)
    where
      s : Source (place m a) (leader_own m a) i
      s = map_source (place m a) (leader_own m a) i (ap (λ (vs : List ℕ). names vs i) (sym is.own) ∙ own)

      v : ℕ
      v = s.entry

      kept : Kept (λ u. owns m a leader u) (left m a) v
      kept = filter_source (λ u. owns m a leader u) (left m a) s.index v s.at

      within : (v < length m.variables) × (is_defined m a v ≡ false)
      within = named_left m a v (subst (λ us. names us v ≡ true) (map_id (left m a)) (map_named (λ (u : ℕ). u) (left m a) kept.index v kept.at))

      at : (place m a v < length (left m a)) × (left_at m a (place m a v) ≡ v)
      at = t.places.placed v within.0 within.1

      by_variable : (x : Variable) × (slice_get m.variables v ≡ Some x) → InRange (range_at g.ranges i) (ratio (cell (left_nums m a p) i) p.den)
      by_variable x =
          subst (λ j. InRange (range_at g.ranges j) (ratio (cell (left_nums m a p) j) p.den)) s.is
          (subst (λ r. InRange r (ratio (cell (left_nums m a p) (place m a v)) p.den)) (sym (range_is m a g.ranges (place m a v) t.game.ranges at.0 ∙ (ap (range_of m) at.1 ∙ range_of_variable v x.0 x.1)))
          (subst (λ z. InRange (x.0.low, x.0.high) (ratio z p.den)) (sym (placed_cell m a p v t.places within.0 within.1)) (h v x.0 x.1 kept.passes)))

  ranges_up : (p : Point) → ((i : ℕ) → names l.own i ≡ true → InRange (range_at g.ranges i) (ratio (cell (left_nums m a p) i) p.den)) → (v : ℕ) (x : Variable) → slice_get m.variables v ≡ Some x → owns m a leader v ≡ true → MeetsBounds p v x
  ranges_up p h v x at own = go (cases_Bool (is_defined m a v))
    where
      below : v < length m.variables
      below = slice_get_within m.variables v x at

      go : (is_defined m a v ≡ true) ⊎ (is_defined m a v ≡ false) → MeetsBounds p v x
      go (inl d) = defined_unbound m a leader v x (coordinate p v) (t.places.own leader v bilevel below own d) at
      go (inr d) =
          let i = place m a v in
          let stands = t.places.placed v below d in
          let named = map_source (λ (u : ℕ). u) (left m a) v (subst (λ us. names us v ≡ true) (sym (map_id (left m a))) (left_named m a v below d)) in
          let found = filter_has (λ u. owns m a leader u) (left m a) named.index v (named.at ∙ ap Some named.is) own in
          let mine : names l.own i ≡ true = ap (λ (vs : List ℕ). names vs i) is.own ∙ map_named (place m a) (leader_own m a) found.index v found.at in
          subst (λ z. InRange (x.low, x.high) (ratio z p.den)) (placed_cell m a p v t.places below d)
          (subst (λ r. InRange r (ratio (cell (left_nums m a p) i) p.den)) (range_is m a g.ranges i t.game.ranges stands.0 ∙ (ap (range_of m) stands.1 ∙ range_of_variable v x at)) (h i mine))

  -- ---- both ways
  pub leads_down : (p : Point) → Fits m p → IsFeasible m a leader p → LeaderObeys g (Some l) p.den (left_nums m a p)
  leads_down p f h = (obeys_down n m a leader bilevel t.class t.values l.rules is.rules p f h.constraints, ranges_down p h.deviation.bounds)

  pub leads_up : (p : Point) → Fits m p → EachDefinition m a leader (λ e q. MeetsEquation p q) → LeaderObeys g (Some l) p.den (left_nums m a p) → IsFeasible m a leader p
  leads_up p f def h = record {
    deviation = record { fits = f; others = λ v k o. refl; bounds = ranges_up p h.1; definition = def };
    constraints = obeys_up n m a leader bilevel t.class t.values l.rules is.rules p f h.0;
  }

  -- ---- the order of the leader's points
  -- the goal has no products
  abbrev none_square : List (List ℤ)
  none_square = map (λ u. map (λ v. pos 0) (left m a)) (left m a)

  abbrev goal_square : Quadratic
  goal_square = record { constant = l.goal.constant; linear = l.goal.cells; square = none_square }

  none_cell : (vs : List ℕ) (j : ℕ) → cell (map (λ v. pos 0) vs) j ≡ pos 0
  none_cell [] j = refl
  none_cell (v ∷ vs) zero = refl
  none_cell (v ∷ vs) (suc j) = none_cell vs j

  none_cells : (vs us : List ℕ) (i j : ℕ) → cell (row_of (map (λ u. map (λ v. pos 0) us) vs) i) j ≡ pos 0
  none_cells [] us i j = refl
  none_cells (v ∷ vs) us zero j = none_cell us j
  none_cells (v ∷ vs) us (suc i) j = none_cells vs us i j

  none_dot : (us : List ℕ) (xs : List ℤ) → dot (map (λ v. pos 0) us) xs ≡ pos 0
  none_dot [] xs = refl
  none_dot (u ∷ us) [] = refl
  none_dot (u ∷ us) (x ∷ xs) = ap (λ z. pos 0 *ℤ x +ℤ z) (none_dot us xs) ∙ by_ring (x ∷ []) (lit (pos 0) ⊗ var 0 ⊕ lit (pos 0)) (lit (pos 0)) refl

  none_form : (vs us : List ℕ) (xs ys : List ℤ) → square_form (map (λ u. map (λ v. pos 0) us) vs) xs ys ≡ pos 0
  none_form [] us xs ys = refl
  none_form (v ∷ vs) us [] ys = refl
  none_form (v ∷ vs) us (x ∷ xs) ys = ap₂ (λ s z. x *ℤ s +ℤ z) (none_dot us ys) (none_form vs us xs ys) ∙ by_ring (x ∷ []) (var 0 ⊗ lit (pos 0) ⊕ lit (pos 0)) (lit (pos 0)) refl

  goal_value : (d : ℤ) (xs : List ℤ) → value_squared goal_square d xs ≡ d *ℤ value_at l.goal d xs
  goal_value d xs =
      ap (λ z. l.goal.constant *ℤ (d *ℤ d) +ℤ d *ℤ dot l.goal.cells xs +ℤ z) (none_form (left m a) (left m a) xs xs)
      ∙ by_ring (l.goal.constant ∷ d ∷ dot l.goal.cells xs ∷ []) (var 0 ⊗ (var 1 ⊗ var 1) ⊕ var 1 ⊗ var 2 ⊕ lit (pos 0)) (var 1 ⊗ (var 0 ⊗ var 1 ⊕ var 2)) refl

  signed_linear : (s : Sense) (f : Form) → IsLinear f → IsLinear (signed s f)
  signed_linear Min f h = h
  signed_linear Max f h = record { square = λ i j k. ap neg_ℤ (h.square i j k) }

  goal_linear : (s : Sense) (w : ℕ) → objective m a leader ≡ Some (s, w) → IsLinear (goal_form m a leader)
  goal_linear s w o = subst (λ x. IsLinear (signed_for x (given_form m a leader))) (sym o) (signed_linear s (given_form m a leader) (t.class.leads bilevel))

  no_upper : (f : Form) → IsLinear f → (i j : ℕ) → upper f.square i j ≡ pos 0
  no_upper f h i j = go (cases_Bool (nat_lt j i))
    where
      go : (nat_lt j i ≡ true) ⊎ (nat_lt j i ≡ false) → upper f.square i j ≡ pos 0
      go (inl s) = ap (λ b. cond b (pos 0) (f.square i j)) s
      go (inr s) = ap (λ b. cond b (pos 0) (f.square i j)) s ∙ h.square i j (grind (arith))

  goal_is : (s : Sense) (w : ℕ) → objective m a leader ≡ Some (s, w) → IsQuadraticOf n (left m a) (goal_form m a leader) goal_square
  goal_is s w o = record {
    count = is.goal.count;
    constant = is.goal.constant;
    each = is.goal.each;
    rows = length-map (left m a) (λ u. map (λ v. pos 0) (left m a));
    widths = All-map (λ r. length r ≡ length (left m a)) (λ u. map (λ v. pos 0) (left m a)) (left m a) (λ i d k. length-map (left m a) (λ v. pos 0));
    products = λ i j k r.
        let f = goal_form m a leader in
        ap (λ z. z *ℤ f.den) (none_cells (left m a) (left m a) i j)
        ∙ (zero-*ℤ f.den ∙ sym (ap (λ z. n *ℤ z) (no_upper f (goal_linear s w o) (slice_index_or (left m a) i 0) (slice_index_or (left m a) j 0)) ∙ *ℤ-zero n));
  }

  -- the leader's objective at a point, with its sign, is the goal's value over n times the point's den
  objective_is : (s : Sense) (w : ℕ) → objective m a leader ≡ Some (s, w) → (p : Point) → Fits m p → EachDefinition m a leader (λ e q. MeetsEquation p q) → SameFraction (signed_ratio s (coordinate p w)) (ratio (value_at l.goal p.den (left_nums m a p)) (n *ℤ p.den))
  objective_is s w o p f def =
      let v = value_at l.goal p.den (left_nums m a p) in
      let top = value_squared goal_square p.den (left_nums m a p) in
      let pn = t.game.positive in
      let squares = mul_pos n (p.den *ℤ p.den) pn (mul_pos p.den p.den p.positive p.positive) in
      fraction_on (signed_ratio s (coordinate p w)) (ratio top (n *ℤ (p.den *ℤ p.den))) (ratio v (n *ℤ p.den))
      (record { left = signed_positive s; right = squares; same = (t.values.given leader s w goal_square p bilevel o (goal_is s w o) f).0 def })
      (record {
        left = squares;
        right = mul_pos n p.den pn p.positive;
        same = ap (λ z. z *ℤ (n *ℤ p.den)) (goal_value p.den (left_nums m a p)) ∙ by_ring (p.den ∷ v ∷ n ∷ []) (var 0 ⊗ var 1 ⊗ (var 2 ⊗ var 0)) (var 1 ⊗ (var 2 ⊗ (var 0 ⊗ var 0))) refl;
      })
    where
      signed_positive : (r : Sense) → pos 0 <ℤ (signed_ratio r (coordinate p w)).bottom
      signed_positive Min = p.positive
      signed_positive Max = p.positive

  -- the values over n times the denominators stand as the values over the denominators
  smaller_whole : (x y d e : ℤ) → IsSmaller (ratio x (n *ℤ d)) (ratio y (n *ℤ e)) ↔ ((x *ℤ e) <ℤ (y *ℤ d))
  smaller_whole x y d e = (down, up)
    where
      left_side : x *ℤ (n *ℤ e) ≡ x *ℤ e *ℤ n
      left_side = by_ring (x ∷ n ∷ e ∷ []) (var 0 ⊗ (var 1 ⊗ var 2)) (var 0 ⊗ var 2 ⊗ var 1) refl

      right_side : y *ℤ (n *ℤ d) ≡ y *ℤ d *ℤ n
      right_side = by_ring (y ∷ n ∷ d ∷ []) (var 0 ⊗ (var 1 ⊗ var 2)) (var 0 ⊗ var 2 ⊗ var 1) refl

      positive : pos 0 <ℤ n
      positive = t.game.positive

      down : (x *ℤ (n *ℤ e)) <ℤ (y *ℤ (n *ℤ d)) → (x *ℤ e) <ℤ (y *ℤ d)
      down h = go (le_or_lt (y *ℤ d) (x *ℤ e))
        where
          go : ((y *ℤ d) ≤ℤ (x *ℤ e)) ⊎ ((x *ℤ e) <ℤ (y *ℤ d)) → (x *ℤ e) <ℤ (y *ℤ d)
          go (inl k) = absurd (let w = mul_le_right (y *ℤ d) (x *ℤ e) n k (omega (arith, linear, positive)) in omega (arith, linear, h, w, left_side, right_side))
          go (inr k) = k

      up : (x *ℤ e) <ℤ (y *ℤ d) → (x *ℤ (n *ℤ e)) <ℤ (y *ℤ (n *ℤ d))
      up h = let w = mul_lt_right (x *ℤ e) (y *ℤ d) n h positive in omega (arith, linear, w, left_side, right_side)

  better_signed : (s : Sense) (x y : Ratio) → Solved.IsBetter s x y ↔ IsSmaller (signed_ratio s x) (signed_ratio s y)
  better_signed Min x y = (λ h. h, λ h. h)
  better_signed Max x y = (λ h. omega (arith, linear, h, neg_ℤ-*ℤ x.top y.bottom, neg_ℤ-*ℤ y.top x.bottom), λ h. omega (arith, linear, h, neg_ℤ-*ℤ x.top y.bottom, neg_ℤ-*ℤ y.top x.bottom))

  pub better_same : (p q : Point) → Fits m p → Fits m q → EachDefinition m a leader (λ e c. MeetsEquation p c) → EachDefinition m a leader (λ e c. MeetsEquation q c) → IsBetter (Some l) p.den (left_nums m a p) q.den (left_nums m a q) ↔ IsBetterForLeader m a p q
  better_same p q f fq def defq = go (objective m a leader) refl
    where
      x : ℤ
      x = value_at l.goal p.den (left_nums m a p)

      y : ℤ
      y = value_at l.goal q.den (left_nums m a q)

      go : (o : Option (Sense × ℕ)) → objective m a leader ≡ o → ((x *ℤ q.den) <ℤ (y *ℤ p.den)) ↔ IsBetterBy o p q
      go None o = (λ h. none h, λ h. absurd h)
        where
          row : IsRowOf n (left m a) (signed_for None (given_for None (definition m a leader))) l.goal
          row = subst (λ w. IsRowOf n (left m a) (signed_for w (given_for w (definition m a leader))) l.goal) o is.goal

          none : (x *ℤ q.den) <ℤ (y *ℤ p.den) → ⊥
          none h =
              let zx : x *ℤ q.den ≡ pos 0 = ap (λ z. z *ℤ q.den) (nothing_value n m a t.game.positive l.goal p.den (left_nums m a p) row) ∙ zero-*ℤ q.den in
              let zy : y *ℤ p.den ≡ pos 0 = ap (λ z. z *ℤ p.den) (nothing_value n m a t.game.positive l.goal q.den (left_nums m a q) row) ∙ zero-*ℤ p.den in
              omega (arith, linear, h, zx, zy)
      go (Some w) o =
          let one = objective_is w.0 w.1 o p f def in
          let two = objective_is w.0 w.1 o q fq defq in
          let gx = ratio x (n *ℤ p.den) in
          let gy = ratio y (n *ℤ q.den) in
          let fx = signed_ratio w.0 (coordinate p w.1) in
          let fy = signed_ratio w.0 (coordinate q w.1) in (
            λ h. (better_signed w.0 (coordinate p w.1) (coordinate q w.1)).1 (smaller_same gx fx gy fy (fraction_back fx gx one) (fraction_back fy gy two) ((smaller_whole x y p.den q.den).1 h)),
            λ h. (smaller_whole x y p.den q.den).0 (smaller_same fx gx fy gy one two ((better_signed w.0 (coordinate p w.1) (coordinate q w.1)).0 h)),
          )
