-- The multipliers of a block are those of its player, over a common denominator.
use Rattle.std.proofs.Common.{◌≡◌, ◌⊎◌, inl, inr, ℕ, zero, suc, ◌<◌, ℤ, pos, ◌+ℤ◌, ◌*ℤ◌, ◌≤ℤ◌, ◌<ℤ◌, true, false, ◌||◌, not, nat_eq, List, [], ◌∷◌, ◌++◌, All, map, length, Option, Some, None, arith, refl, sym, ap, ap₂, subst, ◌∙◌}
use Rattle.std.specs.Prelude.{slice_get, slice_index_or, option_map}
use Rattle.std.proofs.lemmas.Int.{ints}
use Rattle.std.proofs.lemmas.Bool.{eqb-true, false≢true, cases_Bool}
use Rattle.std.proofs.lemmas.Option.{slice_get_within}
use Rattle.std.proofs.lemmas.List.Elements.{All-head, All-tail}
use Rattle.std.proofs.lemmas.List.Folds.{list_any-append}
use lib.IntN.{*ℤ-zero}
use Rattle.emp_algebra.proofs.Ring.{var, lit, neg, ◌⊕◌, ◌⊖◌, ◌⊗◌, by_ring}
use Rattle.emp_algebra.proofs.Laws.{mul_pos}
use Rattle.emp_algebra.proofs.Order.{linear, mul_le_right, le_cancel_right}
use Rattle.emp_algebra.proofs.Vectors.{dot-add_rows, dot-zeros, cell-scale, length-scale}
use Rattle.emp_algebra.specs.Vector.{cell, dot, scale}
use Rattle.emp_algebra.specs.Deciding.{Zero, Weighted}
use Rattle.emp_num.specs.Ratio.{Ratio, ratio, negated, plus, minus, times, SameRatio, AtMostRatio}
use Rattle.emp_num.specs.Point.{Point, coordinate}
use Rattle.emp_num.specs.SamePoint.{SamePoint}
use Rattle.emp_num.proofs.SamePoints.{same_back}
use Rattle.emp_systems.specs.Steps.{Quadratic, value_squared, IsAtMost}
use Rattle.emp_systems.specs.Own.{unit}
use Rattle.emp_systems.proofs.Forms.{value-scaled}
use Rattle.emp_systems.proofs.Lagrangian.{value_left}
use Rattle.emp_systems.proofs.Own.{dot_unit}
use Rattle.emp_ast.specs.declared.tree.VarId.{VarId}
use Rattle.emp_ast.specs.declared.tree.EquId.{EquId}
use Rattle.emp_ast.specs.declared.model.Relation.{Relation}
use Rattle.emp_ast.specs.declared.model.Relation.TheVariants.{Equal, AtLeast, AtMost, Nothing}
use Rattle.emp_ast.specs.declared.model.Equation.{Equation}
use Rattle.emp_ast.specs.declared.model.Sense.{Sense}
use Rattle.emp_ast.specs.declared.model.Sense.TheVariants.{Min, Max}
use Rattle.emp_ast.specs.declared.model.Model.{Model}
use Rattle.emp_ast.specs.declared.annot.Block.{Block}
use Rattle.emp_ast.specs.declared.annot.Block.TheVariants.{Agent, Vi}
use Rattle.emp_ast.specs.declared.annot.Annot.{Annot}
use Rattle.emp_ast.specs.SameLaws.{SameFraction, SameValue}
use Rattle.emp_ast.specs.Meets.{IfBoth, MeetsEquation}
use Rattle.emp_ast.specs.Parties.{Party, block, objective, block_objective, block_variables, functions, owns, block_owns, names_variable, names_equation, is_defined, is_defined_of, is_defined_by, is_constraint, constraints, EachDefinition}
use Rattle.emp_ast.specs.Rivals.{Fits, IsDeviation}
use Rattle.emp_ast.specs.Solved.{sides_gap, gap_by, gap, flow}
use Rattle.emp_ast.specs.Multipliers.{IsMultiplier, AreComplementary, purpose, charge, lagrangian}
use Rattle.emp_ast.specs.Multipliers as File
use Rattle.emp_ast.specs.Convex.{counted, counted_by}
use Rattle.emp_ast.proofs.Fractions.{fraction_on, fraction_back, fraction_plus, fraction_minus, fraction_times, sign_from, sign_to, sign_none, at_most_same, from_nought, to_nought}
use Rattle.emp_ast.proofs.SameValues.{joined_both, if_both}
use Rattle.emp_ast.proofs.SameWords.{same_deviation, same_multipliers}
use Rattle.emp_form.specs.Form.{form_of}
use Rattle.emp_game.specs.Game.{Row, Rule, Purpose, goal, flow as flow_by, Player, Ranges}
use Rattle.emp_game.specs.Solved.{value_at, flow_row, purpose_at, times_at, AreSigned, charged, charged_purpose}
use Rattle.emp_game.specs.Solved as Play
use Rattle.emp_game.proofs.Slopes.{eqb_refl}
use Rattle.emp_game.proofs.Sound.{total_at, total_more, no_charge}
use Rattle.emp_split.proofs.Each.{or_first, or_second}
use Rattle.emp_left.specs.Left.{selected}
use Rattle.emp_problem.specs.Left.{left, place, equation_form}
use Rattle.emp_problem.specs.GameOf.{IsRowOf, AreFlowsOf, IsPurposeOf, IsRuleOf, AreRulesOf}
use Rattle.emp_problem.specs.Class.{is_affine, IsClassFile}
use Rattle.emp_meaning.specs.Laws.{left_nums}
use Rattle.emp_meaning.specs.Ties.{Places, GapIs, signed_ratio, Values, Deviates}
use Rattle.emp_meaning.proofs.Move.{IsTied, block_fits, placed_cell}
use Rattle.emp_meaning.proofs.Deviations.{deviations}
use Rattle.emp_meaning.proofs.PriceLists.{there_is, Listed, EachListed, constraint_named, constraints_listed, function_affine}
use Rattle.emp_meaning.proofs.TieLists.{filter_all}

-- ---- values that are there
value_on : (x : Option Ratio) (y z : Ratio) → SameValue x (Some y) → SameFraction y z → SameValue x (Some z)
value_on (Some x) y z h k = fraction_on x y z h k
value_on None y z h k = h

gap_value : (p : Point) (q : Equation) (top bottom : ℤ) → pos 0 <ℤ bottom → GapIs p q top bottom → SameValue (sides_gap p q) (Some (ratio top bottom))
gap_value p q top bottom h g = subst (λ o. SameValue o (Some (ratio top bottom))) (sym g.is) (record { left = g.positive; right = h; same = g.same })

weighed : (u x : Ratio) (o : Option Ratio) (y : Ratio) → SameFraction u x → SameValue o (Some y) → SameValue (option_map (λ g. times u g) o) (Some (times x y))
weighed u x (Some g) y h k = fraction_times u x g y h k
weighed u x None y h k = k

weighed_by : (u x : Ratio) (o : Option Ratio) (y : Ratio) → SameFraction u x → SameValue o (Some y) → SameValue (option_map (λ g. times g u) o) (Some (times y x))
weighed_by u x (Some g) y h k = fraction_times g y u x k h
weighed_by u x None y h k = k

-- fractions over one number
added : (a b d : ℤ) → pos 0 <ℤ d → SameFraction (plus (ratio a d) (ratio b d)) (ratio (a +ℤ b) d)
added a b d h = record { left = mul_pos d d h h; right = h; same = by_ring (a ∷ b ∷ d ∷ []) ((var 0 ⊗ var 2 ⊕ var 1 ⊗ var 2) ⊗ var 2) ((var 0 ⊕ var 1) ⊗ (var 2 ⊗ var 2)) refl }

none_over : (a d : ℤ) → pos 0 <ℤ d → a ≡ pos 0 → SameFraction (ratio (pos 0) (pos 1)) (ratio a d)
none_over a d h e = record { left = omega (arith, ints); right = h; same = by_ring (d ∷ []) (lit (pos 0) ⊗ var 0) (lit (pos 0) ⊗ lit (pos 1)) refl ∙ ap (λ z. z *ℤ pos 1) (sym e) }

-- ---- signs
sign_in : (rel : Relation) (u : Ratio) (z d : ℤ) → pos 0 <ℤ u.bottom → pos 0 <ℤ d → SameRatio u (ratio z d) → File.HasSign rel u → Play.HasSign rel z
sign_in Equal u z d h p s k = tt
sign_in AtLeast u z d h p s k = sign_from u.top u.bottom z d h p s ((from_nought u).0 k)
sign_in AtMost u z d h p s k = sign_to u.top u.bottom z d h p s ((to_nought u).0 k)
sign_in Nothing u z d h p s k = sign_none u.top u.bottom z d h p s k

sign_out : (rel : Relation) (z d : ℤ) → Play.HasSign rel z → File.HasSign rel (ratio z d)
sign_out Equal z d k = tt
sign_out AtLeast z d k = (from_nought (ratio z d)).1 k
sign_out AtMost z d k = (to_nought (ratio z d)).1 k
sign_out Nothing z d k = k

slack_in : (o : Option Ratio) (v u : Ratio) (top bottom z d : ℤ) → o ≡ Some v → pos 0 <ℤ v.bottom → pos 0 <ℤ bottom → SameRatio v (ratio top bottom) → pos 0 <ℤ u.bottom → pos 0 <ℤ d → SameRatio u (ratio z d) → AreComplementary o u → (top ≡ pos 0) ⊎ (z ≡ pos 0)
slack_in o v u top bottom z d e hv hb sv hu hd su c = go (subst (λ w. AreComplementary w u) e c)
  where
    go : (v.top ≡ pos 0) ⊎ (u.top ≡ pos 0) → (top ≡ pos 0) ⊎ (z ≡ pos 0)
    go (inl k) = inl (sign_none v.top v.bottom top bottom hv hb sv k)
    go (inr k) = inr (sign_none u.top u.bottom z d hu hd su k)

slack_out : (o : Option Ratio) (v : Ratio) (top bottom z d : ℤ) → o ≡ Some v → pos 0 <ℤ v.bottom → pos 0 <ℤ bottom → SameRatio v (ratio top bottom) → (top ≡ pos 0) ⊎ (z ≡ pos 0) → AreComplementary o (ratio z d)
slack_out o v top bottom z d e hv hb sv c = subst (λ w. AreComplementary w (ratio z d)) (sym e) (go c)
  where
    go : (top ≡ pos 0) ⊎ (z ≡ pos 0) → (v.top ≡ pos 0) ⊎ (z ≡ pos 0)
    go (inl k) = inl (sign_none top bottom v.top v.bottom hb hv (sym sv) k)
    go (inr k) = inr k

-- ---- the constraints of block k: num gives their numbers
module _ (n : ℤ) (m : Model) (a : Annot) (k : ℕ) (num : ℕ → ℤ) (pn : pos 0 <ℤ n) (values : Values n m a) where
  -- u is num over the point's den, and the multipliers have their signs and are complementary
  abbrev pub Matches : Point → (ℕ → Ratio) → Type 0
  Matches p u = (e : ℕ) (q : Equation) → slice_get m.equations e ≡ Some q → is_constraint m a (block k) e ≡ true → IsMultiplier q.relation (sides_gap p q) (u e) × SameRatio (u e) (ratio (num e) p.den)

  abbrev Signed : Point → Rule → Type 0
  Signed p r = Play.HasSign r.relation (num r.equation) × ((value_at r.row p.den (left_nums m a p) ≡ pos 0) ⊎ (num r.equation ≡ pos 0))

  one_down : (p : Point) (u : ℕ → Ratio) (e : ℕ) (r : Rule) → Fits m p → IsRuleOf n m (left m a) e r → Listed m a (block k) e → Matches p u → Signed p r
  one_down p u e r f ro l h =
      let q = l.equation in
      let both = h e q l.at l.is in
      let gap = values.gap e q r.row p l.at l.affine (ro.row q l.at) f in
      let z = value_at r.row p.den (left_nums m a p) in
      subst (λ i. Play.HasSign r.relation (num i) × ((z ≡ pos 0) ⊎ (num i ≡ pos 0))) (sym ro.equation) (
        subst (λ rel. Play.HasSign rel (num e)) (sym (ro.relation q l.at)) (sign_in q.relation (u e) (num e) p.den both.0.fraction p.positive both.1 both.0.sign),
        slack_in (sides_gap p q) gap.value (u e) z (n *ℤ p.den) (num e) p.den gap.is gap.positive (mul_pos n p.den pn p.positive) gap.same both.0.fraction p.positive both.1 both.0.complementary,
      )

  pub signed_down : (p : Point) (u : ℕ → Ratio) → Fits m p → Matches p u → (es : List EquId) (rs : List Rule) → AreRulesOf n m (left m a) es rs → EachListed m a (block k) es → AreSigned rs (map (λ r. num r.equation) rs) p.den (left_nums m a p)
  signed_down p u f h [] [] ro l = tt
  signed_down p u f h [] (r ∷ rs) ro l = absurd ro
  signed_down p u f h (e ∷ es) [] ro l = absurd ro
  signed_down p u f h (e ∷ es) (r ∷ rs) ro l = let one = one_down p u e.at r f ro.0 l.0 h in (one.0, one.1, signed_down p u f h es rs ro.1 l.1)

  one_up : (p : Point) (e : ℕ) (r : Rule) → Fits m p → IsRuleOf n m (left m a) e r → Listed m a (block k) e → Signed p r → (q : Equation) → slice_get m.equations e ≡ Some q → IsMultiplier q.relation (sides_gap p q) (ratio (num e) p.den)
  one_up p e r f ro l s q at =
      let gap = values.gap e q r.row p at l.affine (ro.row q at) f in
      let z = value_at r.row p.den (left_nums m a p) in
      let t = subst (λ i. Play.HasSign r.relation (num i) × ((z ≡ pos 0) ⊎ (num i ≡ pos 0))) ro.equation s in
      record {
        fraction = p.positive;
        sign = sign_out q.relation (num e) p.den (subst (λ rel. Play.HasSign rel (num e)) (ro.relation q at) t.0);
        complementary = slack_out (sides_gap p q) gap.value z (n *ℤ p.den) (num e) p.den gap.is gap.positive (mul_pos n p.den pn p.positive) gap.same t.1;
      }

  pub signed_up : (p : Point) → Fits m p → (es : List EquId) (rs : List Rule) → AreRulesOf n m (left m a) es rs → EachListed m a (block k) es → AreSigned rs (map (λ r. num r.equation) rs) p.den (left_nums m a p) → (e : ℕ) → names_equation es e ≡ true → (q : Equation) → slice_get m.equations e ≡ Some q → IsMultiplier q.relation (sides_gap p q) (ratio (num e) p.den)
  signed_up p f [] [] ro l s e h q at = absurd (false≢true h)
  signed_up p f [] (r ∷ rs) ro l s e h q at = absurd ro
  signed_up p f (x ∷ es) [] ro l s e h q at = absurd ro
  signed_up p f (x ∷ es) (r ∷ rs) ro l s e h q at = go (cases_Bool (nat_eq x.at e)) (λ w. signed_up p f es rs ro.1 l.1 s.2 e w q at)
    where
      go : (nat_eq x.at e ≡ true) ⊎ (nat_eq x.at e ≡ false) → (names_equation es e ≡ true → IsMultiplier q.relation (sides_gap p q) (ratio (num e) p.den)) → IsMultiplier q.relation (sides_gap p q) (ratio (num e) p.den)
      go (inl w) rest =
          let i = eqb-true x.at e w in
          subst (λ j. IsMultiplier q.relation (sides_gap p q) (ratio (num j) p.den)) i (one_up p x.at r f ro.0 l.0 (s.0, s.1) q (ap (slice_get m.equations) i ∙ at))
      go (inr w) rest = rest (sym (ap (λ b. b || names_equation es e) w) ∙ h)

  -- ---- what the multipliers charge
  abbrev rule_charge : Rule → Weighted
  rule_charge r = record { factor = num r.equation; kind = Zero; constant = r.row.constant; cells = r.row.cells }

  abbrev charges : List Rule → List Weighted
  charges rs = charged rs (map (λ r. num r.equation) rs)

  abbrev Fractions : ℤ → (ℕ → Ratio) → Type 0
  Fractions d u = (e : ℕ) (q : Equation) → slice_get m.equations e ≡ Some q → is_constraint m a (block k) e ≡ true → SameFraction (u e) (ratio (num e) d)

  charge_of : (d : ℤ) (u : ℕ → Ratio) (r : Point) (e : ℕ) (x : Rule) → pos 0 <ℤ d → Fits m r → Fractions d u → IsRuleOf n m (left m a) e x → Listed m a (block k) e → SameValue (option_map (λ g. times (u e) g) (gap m r e)) (Some (ratio (num x.equation *ℤ value_at x.row r.den (left_nums m a r)) (d *ℤ (n *ℤ r.den))))
  charge_of d u r e x pd f fr ro l =
      let q = l.equation in
      let z = value_at x.row r.den (left_nums m a r) in
      let b = n *ℤ r.den in
      let g = gap_value r q z b (mul_pos n r.den pn r.positive) (values.gap e q x.row r l.at l.affine (ro.row q l.at) f) in
      subst (λ i. SameValue (option_map (λ y. times (u e) y) (gap m r e)) (Some (ratio (num i *ℤ z) (d *ℤ b)))) (sym ro.equation)
      (subst (λ o. SameValue (option_map (λ y. times (u e) y) (gap_by r o)) (Some (ratio (num e *ℤ z) (d *ℤ b)))) (sym l.at)
      (weighed (u e) (ratio (num e) d) (sides_gap r q) (ratio z b) (fr e q l.at l.is) g))

  pub charge_is : (d : ℤ) (u : ℕ → Ratio) (r : Point) → pos 0 <ℤ d → Fits m r → Fractions d u → (es : List EquId) (rs : List Rule) → AreRulesOf n m (left m a) es rs → EachListed m a (block k) es → SameValue (charge m u r es) (Some (ratio (total_at (charges rs) r.den (left_nums m a r)) (d *ℤ (n *ℤ r.den))))
  charge_is d u r pd f fr [] [] ro l = none_over (total_at [] r.den (left_nums m a r)) (d *ℤ (n *ℤ r.den)) (mul_pos d (n *ℤ r.den) pd (mul_pos n r.den pn r.positive)) (no_charge r.den)
  charge_is d u r pd f fr [] (x ∷ rs) ro l = absurd ro
  charge_is d u r pd f fr (e ∷ es) [] ro l = absurd ro
  charge_is d u r pd f fr (e ∷ es) (x ∷ rs) ro l =
      let here = num x.equation *ℤ value_at x.row r.den (left_nums m a r) in
      let rest = total_at (charges rs) r.den (left_nums m a r) in
      let b = d *ℤ (n *ℤ r.den) in
      subst (λ z. SameValue (charge m u r (e ∷ es)) (Some (ratio z b))) (sym (total_more (rule_charge x) (charges rs) r.den (left_nums m a r)))
      (value_on (charge m u r (e ∷ es)) (plus (ratio here b) (ratio rest b)) (ratio (here +ℤ rest) b)
      (joined_both (λ y z. Some (plus y z)) fraction_plus (option_map (λ g. times (u e.at) g) (gap m r e.at)) (Some (ratio here b)) (charge m u r es) (Some (ratio rest b))
      (charge_of d u r e.at x pd f fr ro.0 l.0)
      (charge_is d u r pd f fr es rs ro.1 l.1))
      (added here rest b (mul_pos d (n *ℤ r.den) pd (mul_pos n r.den pn r.positive))))

-- ---- the purpose
abbrev pub own_places : Model → Annot → List VarId → List ℕ
own_places m a vs = map (λ v. place m a v.at) vs

module _ (n : ℤ) (m : Model) (a : Annot) (pn : pos 0 <ℤ n) where
  nothing_cells : (r : Row) → IsRowOf n (left m a) (form_of (pos 0) (pos 1)) r → All (λ c. c ≡ pos 0) r.cells
  nothing_cells r h i d l = go (get_or-same r.cells i d l) (h.each i (subst (λ z. i < z) h.count l))
    where
      get_or-same : (xs : List ℤ) (j : ℕ) (c : ℤ) → j < length xs → slice_index_or xs j c ≡ cell xs j
      get_or-same [] j c s = absurd (omega arith)
      get_or-same (x ∷ xs) zero c s = refl
      get_or-same (x ∷ xs) (suc j) c s = get_or-same xs j c (omega arith)

      go : slice_index_or r.cells i d ≡ cell r.cells i → cell r.cells i *ℤ pos 1 ≡ n *ℤ pos 0 → slice_index_or r.cells i d ≡ pos 0
      go e f = e ∙ (by_ring (cell r.cells i ∷ []) (var 0) (var 0 ⊗ lit (pos 1)) refl ∙ (f ∙ *ℤ-zero n))

  pub nothing_value : (r : Row) (d : ℤ) (xs : List ℤ) → IsRowOf n (left m a) (form_of (pos 0) (pos 1)) r → value_at r d xs ≡ pos 0
  nothing_value r d xs h =
      ap₂ (λ s t. s *ℤ d +ℤ t) (by_ring (r.constant ∷ []) (var 0) (var 0 ⊗ lit (pos 1)) refl ∙ (h.constant ∙ *ℤ-zero n)) (dot-zeros r.cells xs (nothing_cells r h)) ∙ by_ring (d ∷ []) (lit (pos 0) ⊗ var 0 ⊕ lit (pos 0)) (lit (pos 0)) refl

  flow_more : (v : ℕ) (vs : List ℕ) (f : Row) (fs : List Row) (d : ℤ) (xs ys : List ℤ) → dot (flow_row (v ∷ vs) (f ∷ fs) d xs) ys ≡ value_at f d xs *ℤ cell ys v +ℤ dot (flow_row vs fs d xs) ys
  flow_more v vs f fs d xs ys = dot-add_rows (unit v (value_at f d xs)) (flow_row vs fs d xs) ys ∙ ap (λ z. z +ℤ dot (flow_row vs fs d xs) ys) (dot_unit v (value_at f d xs) ys)

  -- the functions behind those that are zero
  record Behind (gs : List (Option ℕ)) (zs vs : List VarId) (fs : List Row) : Type 0 where
    rows : List Row
    flows : AreFlowsOf n m (left m a) gs rows
    same : (d : ℤ) (xs ys : List ℤ) → dot (flow_row (own_places m a (zs ++ vs)) fs d xs) ys ≡ dot (flow_row (own_places m a vs) rows d xs) ys

  behind : (gs : List (Option ℕ)) (zs vs : List VarId) (fs : List Row) → AreFlowsOf n m (left m a) (map (λ z. None) zs ++ gs) fs → Behind gs zs vs fs
  behind gs [] vs fs h = record { rows = fs; flows = h; same = λ d xs ys. refl }
  behind gs (z ∷ zs) vs [] h = absurd h
  behind gs (z ∷ zs) vs (f ∷ fs) h =
      let b = behind gs zs vs fs h.1 in
      record {
        rows = b.rows;
        flows = b.flows;
        same = λ d xs ys.
            flow_more (place m a z.at) (own_places m a (zs ++ vs)) f fs d xs ys
            ∙ (ap (λ s. s *ℤ cell ys (place m a z.at) +ℤ dot (flow_row (own_places m a (zs ++ vs)) fs d xs) ys) (nothing_value f d xs h.0)
            ∙ (by_ring (cell ys (place m a z.at) ∷ dot (flow_row (own_places m a (zs ++ vs)) fs d xs) ys ∷ []) (lit (pos 0) ⊗ var 0 ⊕ var 1) (var 1) refl ∙ b.same d xs ys));
      }

  -- what a pair's equation and variable are
  record Paired (q : EquId × VarId) : Type 0 where
    equation : Equation
    at : slice_get m.equations q.0.at ≡ Some equation
    affine : is_affine m a q.0.at ≡ true
    below : q.1.at < length m.variables
    stays : is_defined m a q.1.at ≡ false

  abbrev EachPaired : List (EquId × VarId) → Type 0
  EachPaired [] = Unit {0}
  EachPaired (q ∷ qs) = Paired q × EachPaired qs

  pairs_flow : Places m a → Values n m a → (p r : Point) → Fits m p → (qs : List (EquId × VarId)) (fs : List Row) → AreFlowsOf n m (left m a) (map (λ q. Some q.0.at) qs) fs → EachPaired qs
      → SameValue (flow m p (λ v. coordinate r v) qs) (Some (ratio (dot (flow_row (own_places m a (map (λ q. q.1) qs)) fs p.den (left_nums m a p)) (left_nums m a r)) (n *ℤ p.den *ℤ r.den)))
  pairs_flow places values p r f [] fs h k = none_over (pos 0) (n *ℤ p.den *ℤ r.den) (mul_pos (n *ℤ p.den) r.den (mul_pos n p.den pn p.positive) r.positive) refl
  pairs_flow places values p r f (q ∷ qs) [] h k = absurd h
  pairs_flow places values p r f (q ∷ qs) (x ∷ fs) h k =
      let one = k.0 in
      let z = value_at x p.den (left_nums m a p) in
      let c = cell (left_nums m a r) (place m a q.1.at) in
      let rest = dot (flow_row (own_places m a (map (λ y. y.1) qs)) fs p.den (left_nums m a p)) (left_nums m a r) in
      let b = n *ℤ p.den *ℤ r.den in
      let pb = mul_pos (n *ℤ p.den) r.den (mul_pos n p.den pn p.positive) r.positive in
      let row = subst (λ o. IsRowOf n (left m a) (equation_form o) x) one.at h.0 in
      let g = gap_value p one.equation z (n *ℤ p.den) (mul_pos n p.den pn p.positive) (values.gap q.0.at one.equation x p one.at one.affine row f) in
      let there : SameFraction (coordinate r q.1.at) (ratio c r.den) = record { left = r.positive; right = r.positive; same = ap (λ y. y *ℤ r.den) (sym (placed_cell m a r q.1.at places one.below one.stays)) } in
      let first : SameValue (option_map (λ y. times y (coordinate r q.1.at)) (gap m p q.0.at)) (Some (ratio (z *ℤ c) b)) =
      subst (λ o. SameValue (option_map (λ y. times y (coordinate r q.1.at)) (gap_by p o)) (Some (ratio (z *ℤ c) b))) (sym one.at) (weighed_by (coordinate r q.1.at) (ratio c r.den) (sides_gap p one.equation) (ratio z (n *ℤ p.den)) there g) in
      subst (λ y. SameValue (flow m p (λ v. coordinate r v) (q ∷ qs)) (Some (ratio y b))) (sym (flow_more (place m a q.1.at) (own_places m a (map (λ y. y.1) qs)) x fs p.den (left_nums m a p) (left_nums m a r)))
      (value_on (flow m p (λ v. coordinate r v) (q ∷ qs)) (plus (ratio (z *ℤ c) b) (ratio rest b)) (ratio (z *ℤ c +ℤ rest) b)
      (joined_both (λ s t. Some (plus s t)) fraction_plus (option_map (λ y. times y (coordinate r q.1.at)) (gap m p q.0.at)) (Some (ratio (z *ℤ c) b)) (flow m p (λ v. coordinate r v) qs) (Some (ratio rest b)) first (pairs_flow places values p r f qs fs h.1 k.1))
      (added (z *ℤ c) rest b pb))

-- ---- a block and its player
-- with no objective nothing is defined
not_defined : (m : Model) (a : Annot) (k : Party) (v : ℕ) → objective m a k ≡ None → is_defined_of m a k v ≡ false
not_defined m a k v h = ap (is_defined_by m a k v) h

pub counted_flow : (m : Model) (a : Annot) (k : ℕ) (zeros : List VarId) (pairs : List (EquId × VarId)) (equs : List EquId) → slice_get a.blocks k ≡ Some (Vi zeros pairs equs) → counted m a k ≡ zeros ++ map (λ q. q.1) pairs
counted_flow m a k zeros pairs equs at = ap (counted_by m a k) at ∙ filter_all (λ v. not (is_defined_of m a (block k) v.at)) (λ v. ap not (not_defined m a (block k) v.at (ap block_objective at))) (zeros ++ map (λ q. q.1) pairs)

flow_stays : (m : Model) (a : Annot) (k v : ℕ) → Places m a → k < length a.blocks → objective m a (block k) ≡ None → v < length m.variables → owns m a (block k) v ≡ true → is_defined m a v ≡ false
flow_stays m a k v places l none below own = go (cases_Bool (is_defined m a v))
  where
    go : (is_defined m a v ≡ true) ⊎ (is_defined m a v ≡ false) → is_defined m a v ≡ false
    go (inl h) = absurd (false≢true (sym (not_defined m a (block k) v none) ∙ places.own (block k) v l below own h))
    go (inr h) = h

module _ (n : ℤ) (m : Model) (a : Annot) (k : ℕ) (pn : pos 0 <ℤ n) (class : IsClassFile m a) (places : Places m a) (values : Values n m a) where
  each_paired : (b : Block) → slice_get a.blocks k ≡ Some b → objective m a (block k) ≡ None → (qs : List (EquId × VarId)) → ((e : ℕ) → names_equation (map (λ q. q.0) qs) e ≡ true → names_equation (functions b) e ≡ true) → ((v : ℕ) → names_variable (map (λ q. q.1) qs) v ≡ true → names_variable (block_variables b) v ≡ true)
      → All (λ q. (q.0.at < length m.equations) × (q.1.at < length m.variables)) qs → EachPaired n m a pn qs
  each_paired b at none [] fe fv h = tt
  each_paired b at none (q ∷ qs) fe fv h = (
    go (there_is m.equations q.0.at below.0),
    each_paired b at none qs (λ e s. fe e (or_second (nat_eq q.0.at e) (names_equation (map (λ x. x.0) qs) e) s)) (λ v s. fv v (or_second (nat_eq q.1.at v) (names_variable (map (λ x. x.1) qs) v) s))
        (All-tail (λ x. (x.0.at < length m.equations) × (x.1.at < length m.variables)) q qs h),
  )
    where
      below : (q.0.at < length m.equations) × (q.1.at < length m.variables)
      below = All-head (λ x. (x.0.at < length m.equations) × (x.1.at < length m.variables)) q qs h

      own : owns m a (block k) q.1.at ≡ true
      own = ap (λ o. block_owns o q.1.at) at ∙ fv q.1.at (or_first (nat_eq q.1.at q.1.at) (names_variable (map (λ x. x.1) qs) q.1.at) (eqb_refl q.1.at))

      go : (c : Equation) × (slice_get m.equations q.0.at ≡ Some c) → Paired n m a pn q
      go c = record {
        equation = c.0;
        at = c.1;
        affine = function_affine m a k b q.0.at at (fe q.0.at (or_first (nat_eq q.0.at q.0.at) (names_equation (map (λ x. x.0) qs) q.0.at) (eqb_refl q.0.at)));
        below = below.1;
        stays = flow_stays m a k q.1.at places (slice_get_within a.blocks k b at) none below.1 own;
      }

  -- the purpose, over n times the denominators
  purpose_of : (b : Block) (pu : Purpose) (own : List ℕ) → slice_get a.blocks k ≡ Some b → IsPurposeOf n m a k b pu → own ≡ own_places m a (counted m a k) → (p r : Point) → Fits m p → Fits m r → EachDefinition m a (block k) (λ e q. MeetsEquation r q)
      → SameValue (purpose m (Some b) p r) (Some (ratio (times_at pu p.den *ℤ value_squared (purpose_at pu own p.den (left_nums m a p)) r.den (left_nums m a r)) (n *ℤ p.den *ℤ (r.den *ℤ r.den))))
  purpose_of (Agent s w vars equs) (goal g) own at h o p r f fr def = go s refl
    where
      top : ℤ
      top = value_squared g r.den (left_nums m a r)

      squares : pos 0 <ℤ (r.den *ℤ r.den)
      squares = mul_pos r.den r.den r.positive r.positive

      grown : SameFraction (ratio top (n *ℤ (r.den *ℤ r.den))) (ratio (p.den *ℤ top) (n *ℤ p.den *ℤ (r.den *ℤ r.den)))
      grown = record {
        left = mul_pos n (r.den *ℤ r.den) pn squares;
        right = mul_pos (n *ℤ p.den) (r.den *ℤ r.den) (mul_pos n p.den pn p.positive) squares;
        same = by_ring (top ∷ n ∷ p.den ∷ r.den ∷ []) (var 0 ⊗ (var 1 ⊗ var 2 ⊗ (var 3 ⊗ var 3))) (var 2 ⊗ var 0 ⊗ (var 1 ⊗ (var 3 ⊗ var 3))) refl;
      }

      given : SameRatio (signed_ratio s (coordinate r w.at)) (ratio top (n *ℤ (r.den *ℤ r.den)))
      given = (values.given (block k) s w.at g r (slice_get_within a.blocks k (Agent s w vars equs) at) (ap block_objective at) h fr).0 def

      go : (t : Sense) → s ≡ t → SameValue (purpose m (Some (Agent t w vars equs)) p r) (Some (ratio (p.den *ℤ top) (n *ℤ p.den *ℤ (r.den *ℤ r.den))))
      go Min e =
          fraction_on (coordinate r w.at) (ratio top (n *ℤ (r.den *ℤ r.den))) (ratio (p.den *ℤ top) (n *ℤ p.den *ℤ (r.den *ℤ r.den)))
          (record { left = r.positive; right = mul_pos n (r.den *ℤ r.den) pn squares; same = subst (λ t. SameRatio (signed_ratio t (coordinate r w.at)) (ratio top (n *ℤ (r.den *ℤ r.den)))) e given })
          grown
      go Max e =
          fraction_on (negated (coordinate r w.at)) (ratio top (n *ℤ (r.den *ℤ r.den))) (ratio (p.den *ℤ top) (n *ℤ p.den *ℤ (r.den *ℤ r.den)))
          (record { left = r.positive; right = mul_pos n (r.den *ℤ r.den) pn squares; same = subst (λ t. SameRatio (signed_ratio t (coordinate r w.at)) (ratio top (n *ℤ (r.den *ℤ r.den)))) e given })
          grown
  purpose_of (Agent s w vars equs) (flow_by fs) own at h o p r f fr def = absurd h
  purpose_of (Vi zeros pairs equs) (goal g) own at h o p r f fr def = absurd h
  purpose_of (Vi zeros pairs equs) (flow_by fs) own at h o p r f fr def =
      value_on (flow m p (λ v. coordinate r v) pairs) (ratio (dot (flow_row (own_places m a (map (λ q. q.1) pairs)) rest.rows p.den xs) ys) (n *ℤ p.den *ℤ r.den))
      (ratio (pos 1 *ℤ (pos 0 *ℤ (r.den *ℤ r.den) +ℤ r.den *ℤ dot (flow_row own fs p.den xs) ys +ℤ pos 0)) (n *ℤ p.den *ℤ (r.den *ℤ r.den)))
      (pairs_flow n m a pn places values p r f pairs rest.rows rest.flows paired)
      (record {
        left = mul_pos (n *ℤ p.den) r.den (mul_pos n p.den pn p.positive) r.positive;
        right = mul_pos (n *ℤ p.den) (r.den *ℤ r.den) (mul_pos n p.den pn p.positive) (mul_pos r.den r.den r.positive r.positive);
        same =
            ap (λ z. z *ℤ (n *ℤ p.den *ℤ (r.den *ℤ r.den))) (sym (ap (λ (vs : List ℕ). dot (flow_row vs fs p.den xs) ys) (o ∙ ap (own_places m a) (counted_flow m a k zeros pairs equs at)) ∙ rest.same p.den xs ys))
            ∙ by_ring (dot (flow_row own fs p.den xs) ys ∷ n ∷ p.den ∷ r.den ∷ []) (var 0 ⊗ (var 1 ⊗ var 2 ⊗ (var 3 ⊗ var 3))) (lit (pos 1) ⊗ (lit (pos 0) ⊗ (var 3 ⊗ var 3) ⊕ var 3 ⊗ var 0 ⊕ lit (pos 0)) ⊗ (var 1 ⊗ var 2 ⊗ var 3)) refl;
      })
    where
      xs : List ℤ
      xs = left_nums m a p

      ys : List ℤ
      ys = left_nums m a r

      rest : Behind n m a pn (map (λ q. Some q.0.at) pairs) zeros (map (λ q. q.1) pairs) fs
      rest = behind n m a pn (map (λ q. Some q.0.at) pairs) zeros (map (λ q. q.1) pairs) fs h

      paired : EachPaired n m a pn pairs
      paired = each_paired (Vi zeros pairs equs) at (ap block_objective at) pairs (λ e s. s) (λ v s. list_any-append (λ x. nat_eq x.at v) zeros (map (λ q. q.1) pairs) ∙ or_second (names_variable zeros v) (names_variable (map (λ q. q.1) pairs) v) s)
          (block_fits m a k (Vi zeros pairs equs) class at).1

-- ---- the purpose less what is charged
value_back : (x : Option Ratio) (y : Ratio) → SameValue x (Some y) → SameValue (Some y) x
value_back (Some x) y h = fraction_back x y h
value_back None y h = h

-- the order of values over n times both denominators is that of the values
at_most_whole : (x y d e c : ℤ) → pos 0 <ℤ c → AtMostRatio (ratio x (c *ℤ (d *ℤ d))) (ratio y (c *ℤ (e *ℤ e))) → (x *ℤ (e *ℤ e)) ≤ℤ (y *ℤ (d *ℤ d))
at_most_whole x y d e c h l =
    le_cancel_right (x *ℤ (e *ℤ e)) (y *ℤ (d *ℤ d)) c
    (let s : x *ℤ (c *ℤ (e *ℤ e)) ≡ x *ℤ (e *ℤ e) *ℤ c = by_ring (x ∷ c ∷ e ∷ []) (var 0 ⊗ (var 1 ⊗ (var 2 ⊗ var 2))) (var 0 ⊗ (var 2 ⊗ var 2) ⊗ var 1) refl in
    let t : y *ℤ (c *ℤ (d *ℤ d)) ≡ y *ℤ (d *ℤ d) *ℤ c = by_ring (y ∷ c ∷ d ∷ []) (var 0 ⊗ (var 1 ⊗ (var 2 ⊗ var 2))) (var 0 ⊗ (var 2 ⊗ var 2) ⊗ var 1) refl in
    omega (arith, linear, l, s, t))
    h

at_most_ratio : (x y d e c : ℤ) → pos 0 <ℤ c → (x *ℤ (e *ℤ e)) ≤ℤ (y *ℤ (d *ℤ d)) → AtMostRatio (ratio x (c *ℤ (d *ℤ d))) (ratio y (c *ℤ (e *ℤ e)))
at_most_ratio x y d e c h l =
    let g = mul_le_right (x *ℤ (e *ℤ e)) (y *ℤ (d *ℤ d)) c l (omega (arith, linear, h)) in
    let s : x *ℤ (c *ℤ (e *ℤ e)) ≡ x *ℤ (e *ℤ e) *ℤ c = by_ring (x ∷ c ∷ e ∷ []) (var 0 ⊗ (var 1 ⊗ (var 2 ⊗ var 2))) (var 0 ⊗ (var 2 ⊗ var 2) ⊗ var 1) refl in
    let t : y *ℤ (c *ℤ (d *ℤ d)) ≡ y *ℤ (d *ℤ d) *ℤ c = by_ring (y ∷ c ∷ d ∷ []) (var 0 ⊗ (var 1 ⊗ (var 2 ⊗ var 2))) (var 0 ⊗ (var 2 ⊗ var 2) ⊗ var 1) refl in
    omega (arith, linear, g, s, t)

-- by the numbers of the same point over a smaller denominator
at_most_smaller : (q : Quadratic) (d : ℤ) (xs : List ℤ) (h e : ℤ) (ys : List ℤ) → pos 0 <ℤ h → IsAtMost q d xs (h *ℤ e) (scale h ys) → IsAtMost q d xs e ys
at_most_smaller q d xs h e ys p l =
    let x = value_squared q d xs in
    let y = value_squared q e ys in
    le_cancel_right (x *ℤ (e *ℤ e)) (y *ℤ (d *ℤ d)) (h *ℤ h)
    (let s : x *ℤ (h *ℤ e *ℤ (h *ℤ e)) ≡ x *ℤ (e *ℤ e) *ℤ (h *ℤ h) = by_ring (x ∷ h ∷ e ∷ []) (var 0 ⊗ (var 1 ⊗ var 2 ⊗ (var 1 ⊗ var 2))) (var 0 ⊗ (var 2 ⊗ var 2) ⊗ (var 1 ⊗ var 1)) refl in
    let t : value_squared q (h *ℤ e) (scale h ys) *ℤ (d *ℤ d) ≡ y *ℤ (d *ℤ d) *ℤ (h *ℤ h) = ap (λ z. z *ℤ (d *ℤ d)) (value-scaled q e ys h) ∙ by_ring (h ∷ y ∷ d ∷ []) (var 0 ⊗ var 0 ⊗ var 1 ⊗ (var 2 ⊗ var 2)) (var 1 ⊗ (var 2 ⊗ var 2) ⊗ (var 0 ⊗ var 0)) refl in
    omega (arith, linear, l, s, t))
    (mul_pos h h p p)

-- ---- the same point over a larger denominator
abbrev pub stretched : (h : ℤ) → pos 0 <ℤ h → Point → Point
stretched h s p = record { den = h *ℤ p.den; nums = scale h p.nums; positive = mul_pos h p.den s p.positive }

pub stretched_same : (h : ℤ) (s : pos 0 <ℤ h) (p : Point) → SamePoint p (stretched h s p)
stretched_same h s p = record {
  count = sym (length-scale h p.nums);
  same = λ v. by_ring (cell p.nums v ∷ h ∷ p.den ∷ []) (var 0 ⊗ (var 1 ⊗ var 2)) (var 1 ⊗ var 0 ⊗ var 2) refl ∙ ap (λ z. z *ℤ p.den) (sym (cell-scale h p.nums v));
}

pub selected_scaled : (h : ℤ) (vs : List ℕ) (xs : List ℤ) → selected vs (scale h xs) ≡ scale h (selected vs xs)
selected_scaled h [] xs = refl
selected_scaled h (v ∷ vs) xs = ap₂ (λ (y : ℤ) (ys : List ℤ). y ∷ ys) (cell-scale h xs v) (selected_scaled h vs xs)

pub stretched_fits : (m : Model) (h : ℤ) (s : pos 0 <ℤ h) (p : Point) → Fits m p → Fits m (stretched h s p)
stretched_fits m h s p f = length-scale h p.nums ∙ f

module _ (n : ℤ) (m : Model) (a : Annot) (ranges : Ranges) (k : ℕ) (b : Block) (pl : Player) (t : IsTied n m a ranges k b pl) (num : ℕ → ℤ) where
  abbrev numbers : List ℤ
  numbers = map (λ r. num r.equation) pl.rules

  -- the value of the lagrangian at r, where p stands, over n times the denominators
  abbrev level : Point → Point → Ratio
  level p r = ratio (value_squared (charged_purpose pl p.den (left_nums m a p) numbers) r.den (left_nums m a r)) (n *ℤ p.den *ℤ (r.den *ℤ r.den))

  party : k < length a.blocks
  party = slice_get_within a.blocks k b t.there

  listed : EachListed m a (block k) (constraints m a (block k))
  listed = constraints_listed m a t.class (block k) party

  lagrangian_is : (u : ℕ → Ratio) (p r : Point) → Fits m p → Fits m r → EachDefinition m a (block k) (λ e q. MeetsEquation r q) → Fractions n m a k num t.positive t.values p.den u → SameValue (lagrangian m a k u p r) (Some (level p r))
  lagrangian_is u p r f fr def h =
      value_on (lagrangian m a k u p r) (minus (ratio top big) (ratio charged_top small)) (level p r)
      (joined_both (λ x y. Some (minus x y)) fraction_minus (purpose m (slice_get a.blocks k) p r) (Some (ratio top big)) (charge m u r (constraints m a (block k))) (Some (ratio charged_top small))
      (subst (λ o. SameValue (purpose m o p r) (Some (ratio top big))) (sym t.there) (purpose_of n m a k t.positive t.class t.places t.values b pl.purpose pl.own t.there t.player.purpose t.player.own p r f fr def))
      (charge_is n m a k num t.positive t.values p.den u r p.positive fr h (constraints m a (block k)) pl.rules t.player.rules listed))
      (record {
        left = mul_pos big small big_positive (mul_pos p.den (n *ℤ r.den) p.positive (mul_pos n r.den t.positive r.positive));
        right = big_positive;
        same =
            by_ring (top ∷ charged_top ∷ n ∷ p.den ∷ r.den ∷ [])
            ((var 0 ⊗ (var 3 ⊗ (var 2 ⊗ var 4)) ⊕ neg (var 1) ⊗ (var 2 ⊗ var 3 ⊗ (var 4 ⊗ var 4))) ⊗ (var 2 ⊗ var 3 ⊗ (var 4 ⊗ var 4)))
            ((var 0 ⊖ var 4 ⊗ var 1) ⊗ (var 2 ⊗ var 3 ⊗ (var 4 ⊗ var 4) ⊗ (var 3 ⊗ (var 2 ⊗ var 4))))
            refl
            ∙ ap (λ z. z *ℤ (big *ℤ small)) (sym (value_left (times_at pl.purpose p.den) (purpose_at pl.purpose pl.own p.den (left_nums m a p)) (charged pl.rules numbers) r.den (left_nums m a r)));
      })
    where
      top : ℤ
      top = times_at pl.purpose p.den *ℤ value_squared (purpose_at pl.purpose pl.own p.den (left_nums m a p)) r.den (left_nums m a r)

      charged_top : ℤ
      charged_top = total_at (charged pl.rules numbers) r.den (left_nums m a r)

      big : ℤ
      big = n *ℤ p.den *ℤ (r.den *ℤ r.den)

      small : ℤ
      small = p.den *ℤ (n *ℤ r.den)

      big_positive : pos 0 <ℤ big
      big_positive = mul_pos (n *ℤ p.den) (r.den *ℤ r.den) (mul_pos n p.den t.positive p.positive) (mul_pos r.den r.den r.positive r.positive)

  scale_positive : (p : Point) → pos 0 <ℤ (n *ℤ p.den)
  scale_positive p = mul_pos n p.den t.positive p.positive

  down_here : (u : ℕ → Ratio) (p : Point) → Fits m p → File.AreMultipliers m a k p u → ((e : ℕ) (q : Equation) → slice_get m.equations e ≡ Some q → is_constraint m a (block k) e ≡ true → SameRatio (u e) (ratio (num e) p.den)) → Play.AreMultipliers ranges pl p.den (left_nums m a p) numbers
  down_here u p f h same = record {
    among = (deviations n m a ranges k b pl t).down p p f h.among;
    signed = signed_down n m a k num t.positive t.values p u f (λ e q at is. (h.each e q at is, same e q at is)) (constraints m a (block k)) pl.rules t.player.rules listed;
    least = λ e ys pe dev. least e ys ((deviations n m a ranges k b pl t).up p e ys f pe dev);
  }
    where
      fractions : Fractions n m a k num t.positive t.values p.den u
      fractions e q at is = record { left = (h.each e q at is).fraction; right = p.positive; same = same e q at is }

      least : (e : ℤ) (ys : List ℤ) → Deviates m a k p e ys → IsAtMost (charged_purpose pl p.den (left_nums m a p) numbers) p.den (left_nums m a p) e ys
      least e ys v =
          let c = charged_purpose pl p.den (left_nums m a p) numbers in
          let r = v.point in
          let l : AtMostRatio (level p p) (level p r) = if_both AtMostRatio at_most_same (lagrangian m a k u p p) (Some (level p p)) (lagrangian m a k u p r) (Some (level p r)) (lagrangian_is u p p f f h.among.definition fractions) (lagrangian_is u p r f v.deviation.fits v.deviation.definition fractions) (h.least r v.deviation) in
          let w : IsAtMost c p.den (left_nums m a p) r.den (left_nums m a r) = at_most_whole (value_squared c p.den (left_nums m a p)) (value_squared c r.den (left_nums m a r)) p.den r.den (n *ℤ p.den) (scale_positive p) l in
          at_most_smaller c p.den (left_nums m a p) v.times e ys v.positive (subst (λ z. IsAtMost c p.den (left_nums m a p) z (scale v.times ys)) v.den (subst (λ zs. IsAtMost c p.den (left_nums m a p) r.den zs) v.nums w))

  up_here : (p : Point) → Fits m p → IsDeviation m a (block k) p p → Play.AreMultipliers ranges pl p.den (left_nums m a p) numbers → File.AreMultipliers m a k p (λ e. ratio (num e) p.den)
  up_here p f d h = record {
    among = d;
    each = λ e q at is. signed_up n m a k num t.positive t.values p f (constraints m a (block k)) pl.rules t.player.rules listed h.signed e (constraint_named m a (block k) e is) q at;
    least = λ r dev. least r dev;
  }
    where
      fractions : Fractions n m a k num t.positive t.values p.den (λ e. ratio (num e) p.den)
      fractions e q at is = record { left = p.positive; right = p.positive; same = refl }

      least : (r : Point) → IsDeviation m a (block k) p r → IfBoth AtMostRatio (lagrangian m a k (λ e. ratio (num e) p.den) p p) (lagrangian m a k (λ e. ratio (num e) p.den) p r)
      least r dev =
          let c = charged_purpose pl p.den (left_nums m a p) numbers in
          let u : ℕ → Ratio = λ e. ratio (num e) p.den in
          let w : IsAtMost c p.den (left_nums m a p) r.den (left_nums m a r) = h.least r.den (left_nums m a r) r.positive ((deviations n m a ranges k b pl t).down p r f dev) in
          if_both AtMostRatio at_most_same (Some (level p p)) (lagrangian m a k u p p) (Some (level p r)) (lagrangian m a k u p r)
          (value_back (lagrangian m a k u p p) (level p p) (lagrangian_is u p p f f d.definition fractions))
          (value_back (lagrangian m a k u p r) (level p r) (lagrangian_is u p r f dev.fits dev.definition fractions))
          (at_most_ratio (value_squared c p.den (left_nums m a p)) (value_squared c r.den (left_nums m a r)) p.den r.den (n *ℤ p.den) (scale_positive p) w)

  -- ---- both ways: the multipliers are the numbers over h times the point's den
  pub multipliers_down : (h : ℤ) (u : ℕ → Ratio) (p : Point) → pos 0 <ℤ h → Fits m p → File.AreMultipliers m a k p u → ((e : ℕ) (q : Equation) → slice_get m.equations e ≡ Some q → is_constraint m a (block k) e ≡ true → SameRatio (u e) (ratio (num e) (h *ℤ p.den)))
      → Play.AreMultipliers ranges pl (h *ℤ p.den) (scale h (left_nums m a p)) (map (λ r. num r.equation) pl.rules)
  multipliers_down h u p s f l same =
      subst (λ zs. Play.AreMultipliers ranges pl (h *ℤ p.den) zs numbers) (selected_scaled h (left m a) p.nums)
      (down_here u (stretched h s p) (stretched_fits m h s p f) (same_multipliers m a k p (stretched h s p) u (stretched_same h s p) l) same)

  pub multipliers_up : (h : ℤ) (p : Point) → pos 0 <ℤ h → Fits m p → IsDeviation m a (block k) p p → Play.AreMultipliers ranges pl (h *ℤ p.den) (scale h (left_nums m a p)) (map (λ r. num r.equation) pl.rules) → File.AreMultipliers m a k p (λ e. ratio (num e) (h *ℤ p.den))
  multipliers_up h p s f d l =
      let q = stretched h s p in
      same_multipliers m a k q p (λ e. ratio (num e) (h *ℤ p.den)) (same_back p q (stretched_same h s p))
      (up_here q (stretched_fits m h s p f) (same_deviation m a (block k) p q p q (stretched_same h s p) (stretched_same h s p) d)
      (subst (λ zs. Play.AreMultipliers ranges pl (h *ℤ p.den) zs numbers) (sym (selected_scaled h (left m a) p.nums)) l))
