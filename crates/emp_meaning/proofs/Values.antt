-- The values of equations and objectives at a point are those of the game's rows and quadratics at its coordinates.
use Rattle.std.proofs.Common.{◌≡◌, ◌↔◌, ◌⊎◌, inl, inr, ℕ, ◌<◌, ℤ, pos, neg_ℤ, ◌+ℤ◌, ◌*ℤ◌, ◌≤ℤ◌, ◌<ℤ◌, true, [], ◌∷◌, length, Some, arith, refl, sym, ap, ap₂, subst, subst₂, ◌∙◌}
use Rattle.std.specs.Prelude.{slice_get}
use Rattle.std.proofs.lemmas.Bool.{cases_eq}
use Rattle.emp_algebra.specs.Vector.{cell}
use Rattle.emp_algebra.proofs.Laws.{mul_pos, neg_ℤ-*ℤ}
use Rattle.emp_algebra.proofs.Order.{linear, cancel_right}
use Rattle.emp_algebra.proofs.Ring.{var, neg, ◌⊕◌, ◌⊗◌, by_ring}
use Rattle.emp_num.specs.Ratio.{Ratio, ratio, minus, SameRatio}
use Rattle.emp_num.specs.Point.{Point, coordinate}
use Rattle.emp_systems.specs.Steps.{Quadratic, value_squared}
use Rattle.emp_ast.specs.declared.model.Relation.{Relation}
use Rattle.emp_ast.specs.declared.model.Relation.TheVariants.{Equal, AtLeast, AtMost, Nothing}
use Rattle.emp_ast.specs.declared.model.Equation.{Equation}
use Rattle.emp_ast.specs.declared.model.Sense.{Sense}
use Rattle.emp_ast.specs.declared.model.Sense.TheVariants.{Min, Max}
use Rattle.emp_ast.specs.declared.model.Model.{Model}
use Rattle.emp_ast.specs.declared.annot.Annot.{Annot}
use Rattle.emp_ast.specs.Expression.{expression_of}
use Rattle.emp_ast.specs.Value.{both, tree_value}
use Rattle.emp_ast.specs.Meets.{AreRelated, MeetsEquation}
use Rattle.emp_ast.specs.Parties.{Party, objective, EachDefinition}
use Rattle.emp_ast.specs.Rivals.{Fits, MakesHold, IsGiven, IsGivenFor}
use Rattle.emp_ast.proofs.Fractions.{sign_from, sign_to, sign_none}
use Rattle.emp_ast.proofs.SameValues.{same_leaves, related}
use Rattle.emp_form.specs.Form.{Form, top_at, form_value, negated_form}
use Rattle.emp_form.specs.Expansion.{form}
use Rattle.emp_form.proofs.Lines.{line-neg, quadratic-neg}
use Rattle.emp_form.specs.Form as Forms
use Rattle.emp_form.proofs.FormLaws.{entry_of}
use Rattle.emp_game.specs.Game.{Row, names}
use Rattle.emp_game.specs.Solved.{value_at, IsObeyed}
use Rattle.emp_agents.specs.Given.{difference, given_form, HasPolynomials, GivenHasForm}
use Rattle.emp_agents.proofs.Given.{given_is_form}
use Rattle.emp_problem.specs.Left.{left, signed, signed_for, goal_form}
use Rattle.emp_problem.specs.GameOf.{IsRowOf, IsQuadraticOf}
use Rattle.emp_problem.specs.Class.{is_affine, IsClassFile}
use Rattle.emp_meaning.specs.Laws.{left_nums}
use Rattle.emp_meaning.specs.Ties.{IsParty, GapIs, signed_ratio, Values}
use Rattle.emp_meaning.proofs.Places.{are_left_apart, named_left}
use Rattle.emp_meaning.proofs.TieForms.{row_value, quadratic_value}
use Rattle.emp_meaning.proofs.TieDefinitions.{affine_without, given_without, signed_without}

-- ---- affine equations
-- t over b is d v over f d d, and r f d is n d v
gap_same : (t b f d n r v : ℤ) → pos 0 <ℤ f → pos 0 <ℤ d → t *ℤ (f *ℤ (d *ℤ d)) ≡ v *ℤ b → r *ℤ (f *ℤ d) ≡ n *ℤ v → t *ℤ (n *ℤ d) ≡ r *ℤ b
gap_same t b f d n r v hf hd one two =
    cancel_right (t *ℤ (n *ℤ d)) (r *ℤ b) (f *ℤ d)
    (by_ring (t ∷ n ∷ d ∷ f ∷ []) (var 0 ⊗ (var 1 ⊗ var 2) ⊗ (var 3 ⊗ var 2)) (var 1 ⊗ (var 0 ⊗ (var 3 ⊗ (var 2 ⊗ var 2)))) refl
    ∙ (ap (λ z. n *ℤ z) one
    ∙ (by_ring (n ∷ v ∷ b ∷ []) (var 0 ⊗ (var 1 ⊗ var 2)) (var 0 ⊗ var 1 ⊗ var 2) refl
    ∙ (ap (λ z. z *ℤ b) (sym two) ∙ by_ring (r ∷ f ∷ d ∷ b ∷ []) (var 0 ⊗ (var 1 ⊗ var 2) ⊗ var 3) (var 0 ⊗ var 3 ⊗ (var 1 ⊗ var 2)) refl))))
    (mul_pos f d hf hd)

-- the values of the two sides, and their difference over n times the point's den
record Sides (p : Point) (q : Equation) (top bottom : ℤ) : Type 0 where
  pub first : Ratio
  pub second : Ratio
  pub is_first : tree_value p q.left ≡ Some first
  pub is_second : tree_value p q.right ≡ Some second
  pub first_positive : pos 0 <ℤ first.bottom
  pub second_positive : pos 0 <ℤ second.bottom
  pub same : SameRatio (minus first second) (ratio top bottom)

-- how a difference that is equal to top over bottom stands to 0
related_by : (r : Relation) (x y : Ratio) (top bottom : ℤ) → pos 0 <ℤ x.bottom → pos 0 <ℤ y.bottom → pos 0 <ℤ bottom → SameRatio (minus x y) (ratio top bottom) → AreRelated r (Some x) (Some y) ↔ IsObeyed r top
related_by r x y top bottom hx hy hb same = go r
  where
    t : ℤ
    t = x.top *ℤ y.bottom +ℤ neg_ℤ y.top *ℤ x.bottom

    b : ℤ
    b = x.bottom *ℤ y.bottom

    above : pos 0 <ℤ b
    above = mul_pos x.bottom y.bottom hx hy

    less : neg_ℤ y.top *ℤ x.bottom ≡ neg_ℤ (y.top *ℤ x.bottom)
    less = neg_ℤ-*ℤ y.top x.bottom

    down : t *ℤ bottom ≡ top *ℤ b
    down = same

    go : (r : Relation) → AreRelated r (Some x) (Some y) ↔ IsObeyed r top
    go Equal = (
      λ h. sign_none t b top bottom above hb down (omega (arith, linear, less, h)),
      λ h. let z : t ≡ pos 0 = sign_none top bottom t b hb above (sym down) h in omega (arith, linear, less, z),
    )
    go AtLeast = (
      λ h. sign_from t b top bottom above hb down (omega (arith, linear, less, h)),
      λ h. let z : pos 0 ≤ℤ t = sign_from top bottom t b hb above (sym down) h in omega (arith, linear, less, z),
    )
    go AtMost = (
      λ h. sign_to t b top bottom above hb down (omega (arith, linear, less, h)),
      λ h. let z : t ≤ℤ pos 0 = sign_to top bottom t b hb above (sym down) h in omega (arith, linear, less, z),
    )
    go Nothing = (λ h. tt, λ h. tt)

module _ (n : ℤ) (m : Model) (a : Annot) (class : IsClassFile m a) (positive : pos 0 <ℤ n) where
  below : (v : ℕ) → names (left m a) v ≡ true → v < length m.variables
  below v h = (named_left m a v h).0

  sides : (e : ℕ) (q : Equation) (row : Row) (p : Point) → slice_get m.equations e ≡ Some q → is_affine m a e ≡ true → IsRowOf n (left m a) (form (difference q)) row → Fits m p → Sides p q (value_at row p.den (left_nums m a p)) (n *ℤ p.den)
  sides e q row p at affine is fits =
      let parts = class.expanded e q at in
      let x = entry_of p (expression_of q.left.nodes) parts.0 in
      let y = entry_of p (expression_of q.right.nodes) parts.1 in
      let z = entry_of p (difference q) (tt, parts.0, parts.1) in
      let f = form (difference q) in
      let value_is : Some z.0 ≡ Some (minus x.0 y.0) = sym z.1 ∙ ap₂ (λ o s. both (λ u v. Some (minus u v)) o s) x.1 y.1 in
      let top = row_value n (length m.variables) (left m a) f (are_left_apart m a) below (affine_without m a e q at affine) row p.den p.nums is (class.linear e q at affine) in
      let same : z.0.top *ℤ (f.den *ℤ (p.den *ℤ p.den)) ≡ top_at (length m.variables) p.den (cell p.nums) f *ℤ z.0.bottom = z.2.same ∙ ap (λ k. top_at k p.den (cell p.nums) f *ℤ z.0.bottom) fits in
      record {
        first = x.0;
        second = y.0;
        is_first = x.1;
        is_second = y.1;
        first_positive = x.2.bottom;
        second_positive = y.2.bottom;
        same = subst (λ r. SameRatio r (ratio (value_at row p.den (left_nums m a p)) (n *ℤ p.den))) (same_some z.0 (minus x.0 y.0) value_is) (gap_same z.0.top z.0.bottom f.den p.den n (value_at row p.den (left_nums m a p)) (top_at (length m.variables) p.den (cell p.nums) f) z.2.den p.positive same top);
      }
    where
      same_some : (u v : Ratio) → Some u ≡ Some v → u ≡ v
      same_some u v h = cc

  gap : (e : ℕ) (q : Equation) (row : Row) (p : Point) → slice_get m.equations e ≡ Some q → is_affine m a e ≡ true → IsRowOf n (left m a) (form (difference q)) row → Fits m p → GapIs p q (value_at row p.den (left_nums m a p)) (n *ℤ p.den)
  gap e q row p at affine is fits =
      let s = sides e q row p at affine is fits in
      record {
        value = minus s.first s.second;
        is = ap₂ (λ o t. both (λ u v. Some (minus u v)) o t) s.is_first s.is_second;
        positive = mul_pos s.first.bottom s.second.bottom s.first_positive s.second_positive;
        same = s.same;
      }

  meets : (e : ℕ) (q : Equation) (row : Row) (p : Point) → slice_get m.equations e ≡ Some q → is_affine m a e ≡ true → IsRowOf n (left m a) (form (difference q)) row → Fits m p → MeetsEquation p q ↔ IsObeyed q.relation (value_at row p.den (left_nums m a p))
  meets e q row p at affine is fits =
      let s = sides e q row p at affine is fits in
      let r = related_by q.relation s.first s.second (value_at row p.den (left_nums m a p)) (n *ℤ p.den) s.first_positive s.second_positive (mul_pos n p.den positive p.positive) s.same in
      subst₂ (λ o t. AreRelated q.relation o t ↔ IsObeyed q.relation (value_at row p.den (left_nums m a p))) (sym s.is_first) (sym s.is_second) r

-- ---- objectives
-- a point meets the definition exactly where the coordinate is the given value
module _ (m : Model) (a : Annot) (class : IsClassFile m a) (k : Party) (w : Sense × ℕ) (is : objective m a k ≡ Some w) where
  polynomials : HasPolynomials m a k
  polynomials e q at d = class.expanded e q at

  pub given_has : GivenHasForm m a k
  given_has = given_is_form m a k w is polynomials

  same_meets : (p r : Point) (q : Equation) → ((v : ℕ) → SameRatio (coordinate p v) (coordinate r v)) → MeetsEquation p q → MeetsEquation r q
  same_meets p r q same h =
      related q.relation (tree_value p q.left) (tree_value r q.left) (tree_value p q.right) (tree_value r q.right)
      (same_leaves (expression_of q.left.nodes) p r (λ v l. same v))
      (same_leaves (expression_of q.right.nodes) p r (λ v l. same v))
      h

  holds_there : (p : Point) (q : Equation) → MeetsEquation p q → MakesHold q w.1 p (coordinate p w.1)
  holds_there p q h r own others = same_meets p r q same h
    where
      same : (v : ℕ) → SameRatio (coordinate p v) (coordinate r v)
      same v = go (cases_eq v w.1)
        where
          go : (v ≡ w.1) ⊎ (v ≡ w.1 → ⊥) → SameRatio (coordinate p v) (coordinate r v)
          go (inl e) = subst (λ x. SameRatio (coordinate p x) (coordinate r x)) (sym e) (sym own)
          go (inr ne) = sym (others v ne)

  pub meets_given : (p : Point) → EachDefinition m a k (λ e q. MeetsEquation p q) ↔ SameRatio (coordinate p w.1) (form_value p (given_form m a k))
  meets_given p = (down, up)
    where
      down : EachDefinition m a k (λ e q. MeetsEquation p q) → SameRatio (coordinate p w.1) (form_value p (given_form m a k))
      down h =
          let given : IsGiven m a k p (coordinate p w.1) = subst (λ o. IsGivenFor m a k o p (coordinate p w.1)) (sym is) (record { fraction = p.positive; defined = λ e q at d. holds_there p q (h e q at d); otherwise = λ none. refl }) in
          ((given_has.value p (coordinate p w.1)).0 given).1

      up : SameRatio (coordinate p w.1) (form_value p (given_form m a k)) → EachDefinition m a k (λ e q. MeetsEquation p q)
      up h e q at d =
          let given : IsGiven m a k p (coordinate p w.1) = (given_has.value p (coordinate p w.1)).1 (p.positive, h) in
          (subst (λ o. IsGivenFor m a k o p (coordinate p w.1)) is given).defined e q at d p refl (λ v ne. refl)

-- the opposite of a form
top_negated : (n : ℕ) (d : ℤ) (x : ℕ → ℤ) (f : Form) → top_at n d x (negated_form f) ≡ neg_ℤ (top_at n d x f)
top_negated n d x f =
    ap₂ (λ l q. neg_ℤ f.constant *ℤ (d *ℤ d) +ℤ (d *ℤ l +ℤ q)) (line-neg n f.linear x) (quadratic-neg n f.square x)
    ∙ by_ring (f.constant ∷ d ∷ Forms.line n f.linear x ∷ Forms.quadratic n f.square x ∷ []) (neg (var 0) ⊗ (var 1 ⊗ var 1) ⊕ (var 1 ⊗ neg (var 2) ⊕ neg (var 3))) (neg (var 0 ⊗ (var 1 ⊗ var 1) ⊕ (var 1 ⊗ var 2 ⊕ var 3))) refl

-- y over d is u over D d d, where V D is n u
given_same : (n D d V u y : ℤ) → pos 0 <ℤ n → pos 0 <ℤ D → V *ℤ D ≡ n *ℤ u → (y *ℤ (D *ℤ (d *ℤ d)) ≡ u *ℤ d) ↔ (y *ℤ (n *ℤ (d *ℤ d)) ≡ V *ℤ d)
given_same n D d V u y hn hD is = (
  λ h. cancel_right (y *ℤ (n *ℤ (d *ℤ d))) (V *ℤ d) D
      (by_ring (y ∷ n ∷ d ∷ D ∷ []) (var 0 ⊗ (var 1 ⊗ (var 2 ⊗ var 2)) ⊗ var 3) (var 1 ⊗ (var 0 ⊗ (var 3 ⊗ (var 2 ⊗ var 2)))) refl
      ∙ (ap (λ z. n *ℤ z) h ∙ (by_ring (n ∷ u ∷ d ∷ []) (var 0 ⊗ (var 1 ⊗ var 2)) (var 0 ⊗ var 1 ⊗ var 2) refl ∙ (ap (λ z. z *ℤ d) (sym is) ∙ by_ring (V ∷ D ∷ d ∷ []) (var 0 ⊗ var 1 ⊗ var 2) (var 0 ⊗ var 2 ⊗ var 1) refl))))
      hD,
  λ h. cancel_right (y *ℤ (D *ℤ (d *ℤ d))) (u *ℤ d) n
      (by_ring (y ∷ n ∷ d ∷ D ∷ []) (var 0 ⊗ (var 3 ⊗ (var 2 ⊗ var 2)) ⊗ var 1) (var 3 ⊗ (var 0 ⊗ (var 1 ⊗ (var 2 ⊗ var 2)))) refl
      ∙ (ap (λ z. D *ℤ z) h ∙ (by_ring (D ∷ V ∷ d ∷ []) (var 0 ⊗ (var 1 ⊗ var 2)) (var 1 ⊗ var 0 ⊗ var 2) refl ∙ (ap (λ z. z *ℤ d) is ∙ by_ring (n ∷ u ∷ d ∷ []) (var 0 ⊗ var 1 ⊗ var 2) (var 1 ⊗ var 2 ⊗ var 0) refl))))
      hn,
)

opposite_same : (x c t d : ℤ) → (x *ℤ c ≡ t *ℤ d) ↔ (neg_ℤ x *ℤ c ≡ neg_ℤ t *ℤ d)
opposite_same x c t d = (λ h. neg_ℤ-*ℤ x c ∙ (ap neg_ℤ h ∙ sym (neg_ℤ-*ℤ t d)), λ h. omega (arith, linear, neg_ℤ-*ℤ x c, neg_ℤ-*ℤ t d, h))

signed_same : (s : Sense) (n x d V : ℤ) (N : ℕ) (nums : ℕ → ℤ) (f : Form) → pos 0 <ℤ n → pos 0 <ℤ f.den → V *ℤ (signed s f).den ≡ n *ℤ top_at N d nums (signed s f) → (x *ℤ (f.den *ℤ (d *ℤ d)) ≡ top_at N d nums f *ℤ d) ↔ SameRatio (signed_ratio s (ratio x d)) (ratio V (n *ℤ (d *ℤ d)))
signed_same Min n x d V N nums f hn hf is = given_same n f.den d V (top_at N d nums f) x hn hf is
signed_same Max n x d V N nums f hn hf is =
    let one = opposite_same x (f.den *ℤ (d *ℤ d)) (top_at N d nums f) d in
    let two = given_same n f.den d V (neg_ℤ (top_at N d nums f)) (neg_ℤ x) hn hf (is ∙ ap (λ z. n *ℤ z) (top_negated N d nums f)) in
    (λ h. two.0 (one.0 h), λ h. one.1 (two.1 h))

module _ (n : ℤ) (m : Model) (a : Annot) (class : IsClassFile m a) (positive : pos 0 <ℤ n) where
  given : (k : Party) (s : Sense) (w : ℕ) (g : Quadratic) (p : Point) → IsParty a k → objective m a k ≡ Some (s, w) → IsQuadraticOf n (left m a) (goal_form m a k) g → Fits m p → EachDefinition m a k (λ e q. MeetsEquation p q) ↔ SameRatio (signed_ratio s (coordinate p w)) (ratio (value_squared g p.den (left_nums m a p)) (n *ℤ (p.den *ℤ p.den)))
  given k s w g p party is quadratic fits =
      let f = given_form m a k in
      let goal_is : goal_form m a k ≡ signed s f = ap (λ o. signed_for o f) is in
      let top = quadratic_value n (length m.variables) (left m a) (signed s f) (are_left_apart m a) (below n m a class positive) (signed_without s (length m.variables) (left m a) f (given_without m a k (s, w) class party is)) g p.den p.nums (subst (λ x. IsQuadraticOf n (left m a) x g) goal_is quadratic) in
      let one = meets_given m a class k (s, w) is p in
      let two = signed_same s n (cell p.nums w) p.den (value_squared g p.den (left_nums m a p)) (length m.variables) (cell p.nums) f positive (given_has m a class k (s, w) is).den top in
      (λ h. two.0 (sym_top p f w fits (one.0 h)), λ h. one.1 (top_sym p f w fits (two.1 h)))
    where
      sym_top : (p : Point) (f : Form) (w : ℕ) → Fits m p → SameRatio (coordinate p w) (form_value p f) → cell p.nums w *ℤ (f.den *ℤ (p.den *ℤ p.den)) ≡ top_at (length m.variables) p.den (cell p.nums) f *ℤ p.den
      sym_top p f w fits h = h ∙ ap (λ i. top_at i p.den (cell p.nums) f *ℤ p.den) fits

      top_sym : (p : Point) (f : Form) (w : ℕ) → Fits m p → cell p.nums w *ℤ (f.den *ℤ (p.den *ℤ p.den)) ≡ top_at (length m.variables) p.den (cell p.nums) f *ℤ p.den → SameRatio (coordinate p w) (form_value p f)
      top_sym p f w fits h = h ∙ ap (λ i. top_at i p.den (cell p.nums) f *ℤ p.den) (sym fits)

pub values : (n : ℤ) (m : Model) (a : Annot) → IsClassFile m a → pos 0 <ℤ n → Values n m a
values n m a class positive = record { gap = gap n m a class positive; meets = meets n m a class positive; given = given n m a class positive }
