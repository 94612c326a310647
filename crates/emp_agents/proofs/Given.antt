-- The given values of an objective are the values of its polynomial.
use Rattle.std.proofs.Common.{◌≡◌, ◌⊎◌, inl, inr, ℕ, zero, suc, ◌+◌, ◌≤◌, ℤ, pos, neg_ℤ, ◌+ℤ◌, ◌*ℤ◌, ◌<ℤ◌, Bool, true, false, cond, ◌&&◌, not, nat_eq, List, [], ◌∷◌, length, Option, Some, None, arith, refl, sym, ap, ap₂, subst, subst₂, ◌∙◌}
use Rattle.std.specs.Prelude.{slice_get}
use Rattle.std.proofs.lemmas.Int.{ints}
use Rattle.std.proofs.lemmas.Bool.{and_parts, eqb-true, eq-eqb}
use lib.IntN.{zero-*ℤ, *ℤ-zero}
use Rattle.emp_algebra.specs.Vector.{cell}
use Rattle.emp_algebra.proofs.Laws.{mul_pos, neg_ℤ-*ℤ}
use Rattle.emp_algebra.proofs.Order.{linear, cancel_right}
use Rattle.emp_algebra.proofs.Ring.{var, lit, neg, ◌⊕◌, ◌⊗◌, by_ring}
use Rattle.emp_num.specs.Ratio.{Ratio, negated as opposite, plus, SameRatio}
use Rattle.emp_num.specs.Point.{Point, coordinate}
use Rattle.emp_num.proofs.SamePoints.{cross_on}
use Rattle.emp_ast.specs.declared.tree.Operator.TheVariants.{Minus}
use Rattle.emp_ast.specs.declared.model.Relation.{Relation}
use Rattle.emp_ast.specs.declared.model.Relation.TheVariants.{Equal, AtLeast, AtMost, Nothing}
use Rattle.emp_ast.specs.declared.model.Equation.{Equation}
use Rattle.emp_ast.specs.declared.model.Sense.{Sense}
use Rattle.emp_ast.specs.declared.model.Model.{Model}
use Rattle.emp_ast.specs.declared.annot.Annot.{Annot}
use Rattle.emp_ast.specs.Expression.{Expression, joined, expression_of}
use Rattle.emp_ast.specs.Occurrence.{leaves, equation_leaves, occurrences, is_summand, is_summand_of}
use Rattle.emp_ast.specs.Value.{value, tree_value}
use Rattle.emp_ast.specs.Meets.{IfBoth, AreRelated}
use Rattle.emp_ast.specs.Parties.{Party, objective, has_no_bound, is_dual, is_implicit_equation, ties, is_equality, can_define, has_alone, defines_by, defines, EachDefinition}
use Rattle.emp_ast.specs.Rivals.{MakesHold, IsGiven, IsGivenFor}
use Rattle.emp_ast.proofs.Given.{summand_leaf, given_is_one}
use Rattle.emp_form.specs.Form.{Form, top_at, variable_form, negated_form, form_value}
use Rattle.emp_form.specs.Expansion.{form, IsPolynomial}
use Rattle.emp_form.proofs.FormLaws.{entry_variable, entry_negated, entry_sum, entry_of}
use Rattle.emp_agents.specs.Given.{leaf_sign, IsSign, without, times_form, HasTerm, difference, solved_form, first_at, definition, given_by, given_for, given_form, HasPolynomials, AbsentStandsNowhere, StandsOnce, ObjectiveStandsOnce, DefinitionGives, GivenFormIs, GivenIsForm}
use Rattle.emp_agents.proofs.Terms.{no_linear, absent, stands}
use Rattle.emp_agents.proofs.Values.{top_apart, top_split, top_times}

-- ---- an equation that defines an objective
leaves_within : (w : ℕ) (qs : List Equation) (e : ℕ) (c : Equation) → slice_get qs e ≡ Some c → equation_leaves w c ≤ occurrences w qs
leaves_within w [] e c at = cc
leaves_within w (q ∷ qs) zero c at = let same : q ≡ c = cc in subst (λ d. equation_leaves w d ≤ equation_leaves w q + occurrences w qs) same (omega arith)
leaves_within w (q ∷ qs) (suc e) c at = let l = leaves_within w qs e c at in omega arith

ties_both : (w : ℕ) (o : Option Equation) (c : Equation) → o ≡ Some c → ties w o ≡ true → (is_equality c.relation ≡ true) × (is_summand_of w c ≡ true)
ties_both w (Some d) c at h = let parts = and_parts (is_equality d.relation) (is_summand_of w d) h in let same : d ≡ c = cc in subst (λ x. (is_equality x.relation ≡ true) × (is_summand_of w x ≡ true)) same parts
ties_both w None c at h = cc

can_parts : (m : Model) (a : Annot) (e w : ℕ) → can_define m a e w ≡ true → (occurrences w m.equations ≡ 1) × (ties w (slice_get m.equations e) ≡ true)
can_parts m a e w h =
    let b1 = has_no_bound (slice_get m.variables w) && not (is_dual a w) in
    let b2 = nat_eq (occurrences w m.equations) 1 in
    let b3 = ties w (slice_get m.equations e) in
    let first = and_parts (b1 && b2 && b3) (not (is_implicit_equation a e)) h in
    let second = and_parts (b1 && b2) b3 first.0 in
    (eqb-true (occurrences w m.equations) 1 (and_parts b1 b2 second.0).1, second.1)

record Defining (m : Model) (w : ℕ) (q : Equation) : Type 0 where
  pub occurs : occurrences w m.equations ≡ 1
  pub equality : is_equality q.relation ≡ true
  pub summand : is_summand w (difference q) ≡ true
  pub once : leaves w (difference q) ≤ 1
  pub leaf : 1 ≤ leaves w (difference q)

defining : (m : Model) (a : Annot) (k : Party) (w : Sense × ℕ) → objective m a k ≡ Some w → (e : ℕ) (q : Equation) → slice_get m.equations e ≡ Some q → defines m a k e ≡ true → Defining m w.1 q
defining m a k w is e q at d =
    let by : (can_define m a e w.1 && has_alone m a k e) ≡ true = subst (λ o. defines_by m a k e o ≡ true) is d in
    let can = can_parts m a e w.1 (and_parts (can_define m a e w.1) (has_alone m a k e) by).0 in
    let occurs : occurrences w.1 m.equations ≡ 1 = can.0 in
    let ways = ties_both w.1 (slice_get m.equations e) q at can.1 in
    let l : leaves w.1 (difference q) ≤ occurrences w.1 m.equations = leaves_within w.1 m.equations e q at in
    record { occurs = occurs; equality = ways.0; summand = ways.1; once = omega arith; leaf = summand_leaf w.1 (difference q) ways.1 }

no_term_left : (w : ℕ) (s : ℤ) (f : Form) → HasTerm w s f → HasTerm w (pos 0) (without w f)
no_term_left w s f h = record {
  linear = ap (λ (b : Bool). cond b (pos 0) (f.linear w)) (eq-eqb w w refl) ∙ sym (zero-*ℤ f.den);
  first = h.first;
  second = h.second;
}

times_none : (w : ℕ) (s : ℤ) (f : Form) → HasTerm w (pos 0) f → HasTerm w (pos 0) (times_form s f)
times_none w s f h = record {
  linear = ap (λ x. s *ℤ x) (no_linear w f h) ∙ (*ℤ-zero s ∙ sym (zero-*ℤ f.den));
  first = λ j. ap (λ x. s *ℤ x) (h.first j) ∙ *ℤ-zero s;
  second = λ i. ap (λ x. s *ℤ x) (h.second i) ∙ *ℤ-zero s;
}

pub absent_stands_nowhere : AbsentStandsNowhere
absent_stands_nowhere w e h = absent w e (omega arith)

pub objective_stands_once : ObjectiveStandsOnce
objective_stands_once m a k w is e q at d =
    let h = defining m a k w is e q at d in
    let s = stands w.1 (difference q) h.once h.summand in
    let t = leaf_sign w.1 (difference q) in
    record { sign = s.sign; term = s.term; gone = times_none w.1 (neg_ℤ t) (without w.1 (form (difference q))) (no_term_left w.1 t (form (difference q)) s.term) }

-- ---- the first of them is the only one
one_place : (w : ℕ) (qs : List Equation) → occurrences w qs ≤ 1 → (e f : ℕ) (c d : Equation) → slice_get qs e ≡ Some c → slice_get qs f ≡ Some d → 1 ≤ equation_leaves w c → 1 ≤ equation_leaves w d → c ≡ d
one_place w [] h e f c d at there l m = cc
one_place w (q ∷ qs) h zero zero c d at there l m = cc
one_place w (q ∷ qs) h zero (suc f) c d at there l m =
    let same : c ≡ q = cc in
    let here : 1 ≤ equation_leaves w q = subst (λ x. 1 ≤ equation_leaves w x) same l in
    let rest = leaves_within w qs f d there in
    absurd (omega arith)
one_place w (q ∷ qs) h (suc e) zero c d at there l m =
    let same : d ≡ q = cc in
    let here : 1 ≤ equation_leaves w q = subst (λ x. 1 ≤ equation_leaves w x) same m in
    let rest = leaves_within w qs e c at in
    absurd (omega arith)
one_place w (q ∷ qs) h (suc e) (suc f) c d at there l m = one_place w qs (omega arith) e f c d at there l m

record Found {A : Type 0} (test : ℕ → Bool) (xs : List A) : Type 0 where
  pub place : ℕ
  pub entry : A
  pub at : slice_get xs place ≡ Some entry
  pub passes : test place ≡ true
  pub first : first_at test xs ≡ Some entry

abbrev NoneFound : {A : Type 0} → (ℕ → Bool) → List A → Type 0
NoneFound {A} test xs = (first_at test xs ≡ None) × ((e : ℕ) (x : A) → slice_get xs e ≡ Some x → test e ≡ true → ⊥)

found : {A : Type 0} (test : ℕ → Bool) (xs : List A) → Found test xs ⊎ NoneFound test xs
found test [] = inr (refl, λ e x at h. cc)
found {A} test (y ∷ xs) = go (test 0) refl (found (λ e. test (suc e)) xs)
  where
    go : (b : Bool) → test 0 ≡ b → Found (λ e. test (suc e)) xs ⊎ NoneFound (λ e. test (suc e)) xs → Found test (y ∷ xs) ⊎ NoneFound test (y ∷ xs)
    go true is rest = inl (record { place = 0; entry = y; at = refl; passes = is; first = ap (λ b. cond b (Some y) (first_at (λ e. test (suc e)) xs)) is })
    go false is (inl h) = inl (record { place = suc h.place; entry = h.entry; at = h.at; passes = h.passes; first = ap (λ b. cond b (Some y) (first_at (λ e. test (suc e)) xs)) is ∙ h.first })
    go false is (inr none) = inr (ap (λ b. cond b (Some y) (first_at (λ e. test (suc e)) xs)) is ∙ none.0, each)
      where
        each : (e : ℕ) (x : A) → slice_get (y ∷ xs) e ≡ Some x → test e ≡ true → ⊥
        each zero x at h = cc
        each (suc e) x at h = none.1 e x at h

form_by : (m : Model) (a : Annot) (k : Party) (w : Sense × ℕ) → objective m a k ≡ Some w → (o : Option Equation) → definition m a k ≡ o → given_form m a k ≡ given_by w.1 o
form_by m a k w is o h = ap₂ given_for is h

pub given_form_is : GivenFormIs
given_form_is m a k w is = record { defined = λ e q at d. given e q at d (found (defines m a k) m.equations); otherwise = λ none. nothing none (found (defines m a k) m.equations) }
  where
    given : (e : ℕ) (q : Equation) → slice_get m.equations e ≡ Some q → defines m a k e ≡ true → Found (defines m a k) m.equations ⊎ NoneFound (defines m a k) m.equations → given_form m a k ≡ solved_form w.1 q
    given e q at d (inl h) =
        let one = defining m a k w is e q at d in
        let two = defining m a k w is h.place h.entry h.at h.passes in
        let occurs : occurrences w.1 m.equations ≡ 1 = one.occurs in
        let same : h.entry ≡ q = one_place w.1 m.equations (omega arith) h.place e h.entry q h.at at two.leaf one.leaf in
        form_by m a k w is (Some h.entry) h.first ∙ ap (solved_form w.1) same
    given e q at d (inr none) = absurd (none.1 e q at d)

    nothing : EachDefinition m a k (λ e q. ⊥) → Found (defines m a k) m.equations ⊎ NoneFound (defines m a k) m.equations → given_form m a k ≡ variable_form w.1
    nothing never (inl h) = absurd (never h.place h.entry h.at h.passes)
    nothing never (inr none) = form_by m a k w is None none.0

-- ---- a point meets an equation of two polynomials where their difference is 0
meets_sides : (r : Point) (e f : Expression) → IsPolynomial e → IsPolynomial f → top_at (length r.nums) r.den (cell r.nums) (form (joined Minus e f)) ≡ pos 0 → IfBoth SameRatio (value r e) (value r f)
meets_sides r e f he hf z =
    let x = entry_of r e he in
    let y = entry_of r f hf in
    let s = entry_sum r x.0 (opposite y.0) (form e) (negated_form (form f)) x.2 (entry_negated r y.0 (form f) y.2) in
    let bottom = (form e).den *ℤ (form f).den *ℤ (r.den *ℤ r.den) in
    let less : (plus x.0 (opposite y.0)).top ≡ pos 0 =
    cancel_right (plus x.0 (opposite y.0)).top (pos 0) bottom
    (s.same ∙ (ap (λ t. t *ℤ (plus x.0 (opposite y.0)).bottom) z ∙ (zero-*ℤ (plus x.0 (opposite y.0)).bottom ∙ sym (zero-*ℤ bottom))))
    (mul_pos ((form e).den *ℤ (form f).den) (r.den *ℤ r.den) s.den (mul_pos r.den r.den r.positive r.positive)) in
    let same : SameRatio x.0 y.0 = omega (arith, linear, less, neg_ℤ-*ℤ y.0.top x.0.bottom) in
    subst₂ (λ o q. IfBoth SameRatio o q) (sym x.1) (sym y.1) same

by_equality : (r : Relation) (x y : Option Ratio) → is_equality r ≡ true → IfBoth SameRatio x y → AreRelated r x y
by_equality Equal x y is h = h
by_equality AtLeast x y is h = cc
by_equality AtMost x y is h = cc
by_equality Nothing x y is h = cc

square_of : (s : ℤ) → IsSign s → s *ℤ s ≡ pos 1
square_of s (inl e) = ap (λ t. t *ℤ t) e
square_of s (inr e) = ap (λ t. t *ℤ t) e

-- what is given for w makes the difference 0
zero_is : (b d p r s g x t u : ℤ) → pos 0 <ℤ b → pos 0 <ℤ p → s *ℤ s ≡ pos 1 → r *ℤ r *ℤ t ≡ p *ℤ p *ℤ u → g *ℤ (d *ℤ (p *ℤ p)) ≡ neg_ℤ s *ℤ t *ℤ b → x *ℤ b ≡ g *ℤ r → u +ℤ r *ℤ (s *ℤ d *ℤ x) ≡ pos 0
zero_is b d p r s g x t u hb hp one same given at =
    cancel_right (u +ℤ r *ℤ (s *ℤ d *ℤ x)) (pos 0) (p *ℤ p *ℤ b)
    (by_ring (b ∷ d ∷ p ∷ r ∷ s ∷ x ∷ u ∷ []) ((var 6 ⊕ var 3 ⊗ (var 4 ⊗ var 1 ⊗ var 5)) ⊗ (var 2 ⊗ var 2 ⊗ var 0)) (var 2 ⊗ var 2 ⊗ var 6 ⊗ var 0 ⊕ var 3 ⊗ var 4 ⊗ (var 1 ⊗ (var 2 ⊗ var 2)) ⊗ (var 5 ⊗ var 0)) refl
    ∙ (ap₂ (λ y z. y *ℤ b +ℤ r *ℤ s *ℤ (d *ℤ (p *ℤ p)) *ℤ z) (sym same) at
    ∙ (by_ring (b ∷ d ∷ p ∷ r ∷ s ∷ g ∷ t ∷ []) (var 3 ⊗ var 3 ⊗ var 6 ⊗ var 0 ⊕ var 3 ⊗ var 4 ⊗ (var 1 ⊗ (var 2 ⊗ var 2)) ⊗ (var 5 ⊗ var 3)) (var 3 ⊗ var 3 ⊗ var 6 ⊗ var 0 ⊕ var 3 ⊗ var 3 ⊗ var 4 ⊗ (var 5 ⊗ (var 1 ⊗ (var 2 ⊗ var 2)))) refl
    ∙ (ap (λ y. r *ℤ r *ℤ t *ℤ b +ℤ r *ℤ r *ℤ s *ℤ y) given
    ∙ (by_ring (b ∷ r ∷ s ∷ t ∷ []) (var 1 ⊗ var 1 ⊗ var 3 ⊗ var 0 ⊕ var 1 ⊗ var 1 ⊗ var 2 ⊗ (neg (var 2) ⊗ var 3 ⊗ var 0)) (var 1 ⊗ var 1 ⊗ var 3 ⊗ var 0 ⊕ neg (var 1 ⊗ var 1 ⊗ var 3 ⊗ var 0) ⊗ (var 2 ⊗ var 2)) refl
    ∙ (ap (λ y. r *ℤ r *ℤ t *ℤ b +ℤ neg_ℤ (r *ℤ r *ℤ t *ℤ b) *ℤ y) one
    ∙ by_ring ((r *ℤ r *ℤ t *ℤ b) ∷ (p *ℤ p *ℤ b) ∷ []) (var 0 ⊕ neg (var 0) ⊗ lit (pos 1)) (lit (pos 0) ⊗ var 1) refl))))))
    (mul_pos (p *ℤ p) b (mul_pos p p hp hp) hb)

module _ (w : ℕ) (q : Equation) (once : StandsOnce w q) (left : IsPolynomial (expression_of q.left.nodes)) (right : IsPolynomial (expression_of q.right.nodes)) (equal : is_equality q.relation ≡ true) where
  makes_hold : (p : Point) (g : Ratio) → pos 0 <ℤ g.bottom → SameRatio g (form_value p (solved_form w q)) → MakesHold q w p g
  makes_hold p g b same r there apart =
      let s = leaf_sign w (difference q) in
      let f = form (difference q) in
      let rest = without w f in
      let none : HasTerm w (pos 0) rest = no_term_left w s f once.term in
      let tops = top_apart w rest none p r (λ v n. sym (apart v n)) in
      let given : g.top *ℤ (f.den *ℤ (p.den *ℤ p.den)) ≡ neg_ℤ s *ℤ top_at (length p.nums) p.den (cell p.nums) rest *ℤ g.bottom = same ∙ ap (λ z. z *ℤ g.bottom) (top_times (length p.nums) p.den (cell p.nums) (neg_ℤ s) rest) in
      let zero_top : top_at (length r.nums) r.den (cell r.nums) f ≡ pos 0 =
      top_split r.nums r.den w f
      ∙ (ap (λ l. top_at (length r.nums) r.den (cell r.nums) rest +ℤ r.den *ℤ (l *ℤ cell r.nums w)) once.term.linear
      ∙ zero_is g.bottom f.den p.den r.den s g.top (cell r.nums w) (top_at (length p.nums) p.den (cell p.nums) rest) (top_at (length r.nums) r.den (cell r.nums) rest) b p.positive (square_of s once.sign) tops given there) in
      by_equality q.relation (tree_value r q.left) (tree_value r q.right) equal (meets_sides r (expression_of q.left.nodes) (expression_of q.right.nodes) left right zero_top)

-- ---- the law
module _ (m : Model) (a : Annot) (k : Party) (w : Sense × ℕ) (is : objective m a k ≡ Some w) (polynomials : HasPolynomials m a k) where
  pub given_den : pos 0 <ℤ (given_form m a k).den
  given_den = go (found (defines m a k) m.equations)
    where
      forms : DefinitionGives m a k w.1
      forms = given_form_is m a k w is

      origin : Point
      origin = record { den = pos 1; nums = []; positive = omega (arith, ints) }

      go : Found (defines m a k) m.equations ⊎ NoneFound (defines m a k) m.equations → pos 0 <ℤ (given_form m a k).den
      go (inl h) = subst (λ (f : Form). pos 0 <ℤ f.den) (sym (forms.defined h.place h.entry h.at h.passes)) (let sides = polynomials h.place h.entry h.at h.passes in (entry_of origin (difference h.entry) (tt, sides.0, sides.1)).2.den)
      go (inr none) = subst (λ (f : Form). pos 0 <ℤ f.den) (sym (forms.otherwise none.1)) (omega (arith, ints))

  value_is_given : (p : Point) (g : Ratio) → pos 0 <ℤ g.bottom → SameRatio g (form_value p (given_form m a k)) → IsGiven m a k p g
  value_is_given p g b same = subst (λ o. IsGivenFor m a k o p g) (sym is) (record { fraction = b; defined = defined; otherwise = otherwise })
    where
      forms : DefinitionGives m a k w.1
      forms = given_form_is m a k w is

      defined : EachDefinition m a k (λ e q. MakesHold q w.1 p g)
      defined e q at d =
          let sides = polynomials e q at d in
          let h = defining m a k w is e q at d in
          makes_hold w.1 q (objective_stands_once m a k w is e q at d) sides.0 sides.1 h.equality p g b (subst (λ (f : Form). SameRatio g (form_value p f)) (forms.defined e q at d) same)

      otherwise : EachDefinition m a k (λ e q. ⊥) → SameRatio g (coordinate p w.1)
      otherwise none =
          let v = form_value p (variable_form w.1) in
          let here : SameRatio g (form_value p (variable_form w.1)) = subst (λ (f : Form). SameRatio g (form_value p f)) (forms.otherwise none) same in
          let own = entry_variable p w.1 in
          cross_on g.top g.bottom v.top v.bottom (cell p.nums w.1) p.den (mul_pos (pos 1) (p.den *ℤ p.den) own.den (mul_pos p.den p.den p.positive p.positive)) here (sym own.same)

  pub form_is_given : (p : Point) → IsGiven m a k p (form_value p (given_form m a k))
  form_is_given p = value_is_given p (form_value p (given_form m a k)) (mul_pos (given_form m a k).den (p.den *ℤ p.den) given_den (mul_pos p.den p.den p.positive p.positive)) refl

  given_is : (p : Point) (g : Ratio) → IsGiven m a k p g → (pos 0 <ℤ g.bottom) × SameRatio g (form_value p (given_form m a k))
  given_is p g h = (fraction (objective m a k) h, given_is_one m a k p g (form_value p (given_form m a k)) h (form_is_given p))
    where
      fraction : (o : Option (Sense × ℕ)) → IsGivenFor m a k o p g → pos 0 <ℤ g.bottom
      fraction (Some w) h = h.fraction
      fraction None h = absurd h

pub given_is_form : GivenIsForm
given_is_form m a k w is polynomials = record {
  den = given_den m a k w is polynomials;
  value = λ p g. (given_is m a k w is polynomials p g, λ h. value_is_given m a k w is polynomials p g h.0 h.1);
}
