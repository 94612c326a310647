-- An agent is convex in its first counted variables exactly where its second derivatives by them are positive semidefinite.
use Rattle.std.proofs.Common.{◌≡◌, ◌↔◌, ℕ, zero, suc, ◌<◌, ◌≤◌, ℤ, pos, negsuc, neg_ℤ, ◌+ℤ◌, ◌*ℤ◌, ◌≤ℤ◌, ◌<ℤ◌, Bool, true, false, ◌||◌, List, [], ◌∷◌, take, length, Some, Result, Ok, Err, arith, refl, sym, ap, ap₂, subst, ◌∙◌}
use Rattle.std.specs.Prelude.{nat_eq}
use Rattle.std.proofs.lemmas.Int.{ints}
use Rattle.std.proofs.lemmas.List.{get_or_past}
use Rattle.emp_algebra.specs.Vector.{cell}
use Rattle.emp_algebra.proofs.Laws.{mul_pos}
use Rattle.emp_algebra.proofs.Order.{linear, cancel_right}
use Rattle.emp_algebra.proofs.Ring.{var, lit, neg, ◌⊕◌, ◌⊗◌, by_ring}
use Rattle.emp_num.specs.Ratio.{Ratio, plus, minus}
use Rattle.emp_num.specs.Point.{Point}
use Rattle.emp_ast.specs.declared.tree.VarId.{VarId}
use Rattle.emp_ast.specs.declared.model.Sense.{Sense}
use Rattle.emp_ast.specs.declared.model.Sense.TheVariants.{Min, Max}
use Rattle.emp_ast.specs.declared.model.Model.{Model}
use Rattle.emp_ast.specs.declared.annot.Annot.{Annot}
use Rattle.emp_ast.specs.Parties.{block, objective, names_variable}
use Rattle.emp_ast.specs.Rivals.{IsGiven}
use Rattle.emp_ast.specs.Convex.{IsBetween, Bends, counted, IsConvexIn, IsConvexUpTo, IsConvex}
use Rattle.emp_ast.proofs.Fractions.{sign_from, sign_to, at_most_gap, at_most_over}
use Rattle.emp_form.specs.Form.{Form, quadratic, top_at, form_value}
use Rattle.emp_form.specs.Partial.{moved}
use Rattle.emp_ldl.specs.Whole.{IsSemidefinite}
use Rattle.emp_ldl.specs.Whole as Whole
use Rattle.emp_ldl.specs.Form as Fractions
use Rattle.emp_ldl.specs.Form.{entries}
use Rattle.emp_ldl.specs.Laws.{Over}
use Rattle.emp_ldl.specs.Convex.{ConvexGives}
use Rattle.emp_ldl.specs.Shown.{ConvexSays}
use Rattle.emp_ldl.specs.declared.squares.Squares.{Squares}
use Rattle.emp_ldl.specs.declared.squares.Curve.{Curve}
use Rattle.emp_ldl.specs.declared.squares.Curve.TheVariants.{Not, Wide, NoMemory}
use Rattle.emp_ldl.proofs.FracRows.{semidefinite_is_whole}
use Rattle.emp_ldl.proofs.Says as Says
use Rattle.emp_agents.specs.Given.{given_form, HasPolynomials}
use Rattle.emp_agents.specs.Convex.{by_sense, for_objective, agent_curvature, IsAgent, CurvatureIsConvex, CurveTells, ConvexTells}
use Rattle.emp_agents.proofs.Values.{same_function, top_common}
use Rattle.emp_agents.proofs.Given.{given_den, form_is_given, given_is_form}
use Rattle.emp_agents.proofs.Sums.{spread, spread_none, parts, parts_below, parts_within, spread_parts, back, second_difference, seconds, quadratic_spread}

-- ---- numbers: f, g and h are the values at three points, and e the second difference of their tops
bends_top : (d p q r ft fb gt gb ht hb tp tq tr e : ℤ) → p *ℤ r *ℤ (p *ℤ r) *ℤ tq +ℤ p *ℤ q *ℤ (p *ℤ q) *ℤ tr ≡ pos 2 *ℤ (q *ℤ r *ℤ (q *ℤ r) *ℤ tp) +ℤ e → ft *ℤ (d *ℤ (p *ℤ p)) ≡ tp *ℤ fb → gt *ℤ (d *ℤ (q *ℤ q)) ≡ tq *ℤ gb → ht *ℤ (d *ℤ (r *ℤ r)) ≡ tr *ℤ hb → e *ℤ (gb *ℤ hb *ℤ (fb *ℤ fb)) ≡ ((gt *ℤ hb +ℤ ht *ℤ gb) *ℤ (fb *ℤ fb) +ℤ neg_ℤ (ft *ℤ fb +ℤ ft *ℤ fb) *ℤ (gb *ℤ hb)) *ℤ (d *ℤ (p *ℤ q *ℤ r *ℤ (p *ℤ q *ℤ r)))
bends_top d p q r ft fb gt gb ht hb tp tq tr e h i j k =
    let two = pos 2 *ℤ (q *ℤ r *ℤ (q *ℤ r) *ℤ tp) in
    by_ring (e ∷ two ∷ gb ∷ hb ∷ fb ∷ []) (var 0 ⊗ (var 2 ⊗ var 3 ⊗ (var 4 ⊗ var 4))) ((var 1 ⊕ var 0 ⊕ neg (var 1)) ⊗ (var 2 ⊗ var 3 ⊗ (var 4 ⊗ var 4))) refl
    ∙ (ap (λ z. (z +ℤ neg_ℤ two) *ℤ (gb *ℤ hb *ℤ (fb *ℤ fb))) (sym h)
    ∙ (by_ring (p ∷ q ∷ r ∷ fb ∷ gb ∷ hb ∷ tp ∷ tq ∷ tr ∷ [])
    ((var 0 ⊗ var 2 ⊗ (var 0 ⊗ var 2) ⊗ var 7 ⊕ var 0 ⊗ var 1 ⊗ (var 0 ⊗ var 1) ⊗ var 8 ⊕ neg (lit (pos 2) ⊗ (var 1 ⊗ var 2 ⊗ (var 1 ⊗ var 2) ⊗ var 6))) ⊗ (var 4 ⊗ var 5 ⊗ (var 3 ⊗ var 3)))
    (var 7 ⊗ var 4 ⊗ (var 5 ⊗ (var 3 ⊗ var 3) ⊗ (var 0 ⊗ var 2 ⊗ (var 0 ⊗ var 2))) ⊕ var 8 ⊗ var 5 ⊗ (var 4 ⊗ (var 3 ⊗ var 3) ⊗ (var 0 ⊗ var 1 ⊗ (var 0 ⊗ var 1))) ⊕ neg (lit (pos 2) ⊗ (var 6 ⊗ var 3 ⊗ (var 3 ⊗ var 4 ⊗ var 5 ⊗ (var 1 ⊗ var 2 ⊗ (var 1 ⊗ var 2))))))
    refl
    ∙ (ap₂ (λ y z. y *ℤ (hb *ℤ (fb *ℤ fb) *ℤ (p *ℤ r *ℤ (p *ℤ r))) +ℤ z *ℤ (gb *ℤ (fb *ℤ fb) *ℤ (p *ℤ q *ℤ (p *ℤ q))) +ℤ neg_ℤ (pos 2 *ℤ (tp *ℤ fb *ℤ (fb *ℤ gb *ℤ hb *ℤ (q *ℤ r *ℤ (q *ℤ r)))))) (sym j) (sym k)
    ∙ (ap (λ y. gt *ℤ (d *ℤ (q *ℤ q)) *ℤ (hb *ℤ (fb *ℤ fb) *ℤ (p *ℤ r *ℤ (p *ℤ r))) +ℤ ht *ℤ (d *ℤ (r *ℤ r)) *ℤ (gb *ℤ (fb *ℤ fb) *ℤ (p *ℤ q *ℤ (p *ℤ q))) +ℤ neg_ℤ (pos 2 *ℤ (y *ℤ (fb *ℤ gb *ℤ hb *ℤ (q *ℤ r *ℤ (q *ℤ r)))))) (sym i)
    ∙ by_ring (d ∷ p ∷ q ∷ r ∷ ft ∷ fb ∷ gt ∷ gb ∷ ht ∷ hb ∷ [])
    (var 6 ⊗ (var 0 ⊗ (var 2 ⊗ var 2)) ⊗ (var 9 ⊗ (var 5 ⊗ var 5) ⊗ (var 1 ⊗ var 3 ⊗ (var 1 ⊗ var 3))) ⊕ var 8 ⊗ (var 0 ⊗ (var 3 ⊗ var 3)) ⊗ (var 7 ⊗ (var 5 ⊗ var 5) ⊗ (var 1 ⊗ var 2 ⊗ (var 1 ⊗ var 2))) ⊕ neg (lit (pos 2) ⊗ (var 4 ⊗ (var 0 ⊗ (var 1 ⊗ var 1)) ⊗ (var 5 ⊗ var 7 ⊗ var 9 ⊗ (var 2 ⊗ var 3 ⊗ (var 2 ⊗ var 3))))))
    (((var 6 ⊗ var 9 ⊕ var 8 ⊗ var 7) ⊗ (var 5 ⊗ var 5) ⊕ neg (var 4 ⊗ var 5 ⊕ var 4 ⊗ var 5) ⊗ (var 7 ⊗ var 9)) ⊗ (var 0 ⊗ (var 1 ⊗ var 2 ⊗ var 3 ⊗ (var 1 ⊗ var 2 ⊗ var 3))))
    refl))))

bends_by : (s : Sense) (f g h : Ratio) (e u v : ℤ) → pos 0 <ℤ u → pos 0 <ℤ v → e *ℤ u ≡ (minus (plus g h) (plus f f)).top *ℤ v → Bends s f g h ↔ (pos 0 ≤ℤ by_sense s e)
bends_by Min f g h e u v hu hv same = (
  λ b. sign_from (minus (plus g h) (plus f f)).top u e v hu hv (sym same) ((at_most_gap (plus f f) (plus g h)).0 b),
  λ b. (at_most_gap (plus f f) (plus g h)).1 (sign_from e v (minus (plus g h) (plus f f)).top u hv hu same b),
)
bends_by Max f g h e u v hu hv same = (
  λ b. let l = sign_to (minus (plus g h) (plus f f)).top u e v hu hv (sym same) ((at_most_over (plus g h) (plus f f)).0 b) in omega (arith, linear, l),
  λ b. (at_most_over (plus g h) (plus f f)).1 (sign_to e v (minus (plus g h) (plus f f)).top u hv hu same (omega (arith, linear, b))),
)

-- ---- the matrix
whole_neg : (b : ℕ → ℤ) (i : ℕ) (ys : List ℤ) → Whole.line (λ k. neg_ℤ (b k)) i ys ≡ neg_ℤ (Whole.line b i ys)
whole_neg b i [] = refl
whole_neg b i (y ∷ ys) = ap (λ z. neg_ℤ (b i) *ℤ y +ℤ z) (whole_neg b (suc i) ys) ∙ by_ring (b i ∷ y ∷ Whole.line b (suc i) ys ∷ []) (neg (var 0) ⊗ var 1 ⊕ neg (var 2)) (neg (var 0 ⊗ var 1 ⊕ var 2)) refl

sensed_form : (s : Sense) (b : ℕ → ℕ → ℤ) (ys : List ℤ) → Whole.form (λ i j. by_sense s (b i j)) ys ≡ by_sense s (Whole.form b ys)
sensed_form Min b ys = refl
sensed_form Max b ys = ap (λ a. Whole.line a 0 ys) (same_function (λ i. whole_neg (b i) 0 ys)) ∙ whole_neg (λ i. Whole.line (b i) 0 ys) 0 ys

-- ---- points
abbrev listed : ℕ → (ℕ → ℤ) → List ℤ
listed zero x = []
listed (suc n) x = x 0 ∷ listed n (λ i. x (suc i))

listed_count : (n : ℕ) (x : ℕ → ℤ) → length (listed n x) ≡ n
listed_count zero x = refl
listed_count (suc n) x = ap suc (listed_count n (λ i. x (suc i)))

listed_cell : (n : ℕ) (x : ℕ → ℤ) → ((i : ℕ) → n ≤ i → x i ≡ pos 0) → (i : ℕ) → cell (listed n x) i ≡ x i
listed_cell zero x h i = get_or_past [] i (pos 0) (omega arith) ∙ sym (h i (omega arith))
listed_cell (suc n) x h zero = refl
listed_cell (suc n) x h (suc i) = listed_cell n (λ i. x (suc i)) (λ i l. h (suc i) (omega arith)) i

taken : (n : ℕ) (vs : List VarId) (i : ℕ) → names_variable vs i ≡ false → names_variable (take n vs) i ≡ false
taken zero vs i h = refl
taken (suc n) [] i h = refl
taken (suc n) (v ∷ vs) i h = go (nat_eq v.at i) h (λ t. taken n vs i t)
  where
    go : (b : Bool) → (b || names_variable vs i) ≡ false → (names_variable vs i ≡ false → names_variable (take n vs) i ≡ false) → (b || names_variable (take n vs) i) ≡ false
    go true t rest = t
    go false t rest = rest t

taken_all : (vs : List VarId) → take (length vs) vs ≡ vs
taken_all [] = refl
taken_all (v ∷ vs) = ap (λ (us : List VarId). v ∷ us) (taken_all vs)

-- twice the middle is the sum of the ends
half_whole : (p q r x y z : ℤ) → pos 0 <ℤ p → (y *ℤ r +ℤ z *ℤ q) *ℤ (p *ℤ p) ≡ (x *ℤ p +ℤ x *ℤ p) *ℤ (q *ℤ r) → p *ℤ q *ℤ z ≡ q *ℤ r *ℤ x +ℤ negsuc 0 *ℤ (p *ℤ r *ℤ y +ℤ negsuc 0 *ℤ (q *ℤ r *ℤ x))
half_whole p q r x y z h e =
    let same : y *ℤ r *ℤ p +ℤ z *ℤ q *ℤ p ≡ (x +ℤ x) *ℤ (q *ℤ r) =
    cancel_right (y *ℤ r *ℤ p +ℤ z *ℤ q *ℤ p) ((x +ℤ x) *ℤ (q *ℤ r)) p
    (by_ring (p ∷ q ∷ r ∷ y ∷ z ∷ []) ((var 3 ⊗ var 2 ⊗ var 0 ⊕ var 4 ⊗ var 1 ⊗ var 0) ⊗ var 0) ((var 3 ⊗ var 2 ⊕ var 4 ⊗ var 1) ⊗ (var 0 ⊗ var 0)) refl ∙ (e ∙ by_ring (p ∷ q ∷ r ∷ x ∷ []) ((var 3 ⊗ var 0 ⊕ var 3 ⊗ var 0) ⊗ (var 1 ⊗ var 2)) ((var 3 ⊕ var 3) ⊗ (var 1 ⊗ var 2) ⊗ var 0) refl)) h in
    by_ring (p ∷ q ∷ r ∷ y ∷ z ∷ []) (var 0 ⊗ var 1 ⊗ var 4) (var 3 ⊗ var 2 ⊗ var 0 ⊕ var 4 ⊗ var 1 ⊗ var 0 ⊕ neg (var 0 ⊗ var 2 ⊗ var 3)) refl
    ∙ (ap (λ t. t +ℤ neg_ℤ (p *ℤ r *ℤ y)) same
    ∙ by_ring (p ∷ q ∷ r ∷ x ∷ y ∷ []) ((var 3 ⊕ var 3) ⊗ (var 1 ⊗ var 2) ⊕ neg (var 0 ⊗ var 2 ⊗ var 4)) (var 1 ⊗ var 2 ⊗ var 3 ⊕ lit (negsuc 0) ⊗ (var 0 ⊗ var 2 ⊗ var 4 ⊕ lit (negsuc 0) ⊗ (var 1 ⊗ var 2 ⊗ var 3))) refl)

-- ---- an agent with the objective w
module _ (m : Model) (a : Annot) (k : ℕ) (w : Sense × ℕ) (is : objective m a (block k) ≡ Some w) (polynomials : HasPolynomials m a (block k)) (within : (v : ℕ) → names_variable (counted m a k) v ≡ true → v < length m.variables) where
  abbrev Poly : Form
  Poly = given_form m a (block k)

  abbrev matrix : ℕ → ℕ → ℤ
  matrix = seconds (given_form m a (block k)).square (counted m a k)

  curvature_form : (ys : List ℤ) → Whole.form (agent_curvature m a k) ys ≡ by_sense w.0 (Whole.form matrix ys)
  curvature_form ys = ap (λ o. Whole.form (λ i j. for_objective o (matrix i j)) ys) is ∙ sensed_form w.0 matrix ys

  -- from the middle to one end, over the product of the three dens
  abbrev step : Point → Point → Point → ℕ → ℤ
  step p q r i = p.den *ℤ r.den *ℤ cell q.nums i +ℤ negsuc 0 *ℤ (q.den *ℤ r.den *ℤ cell p.nums i)

  abbrev top : Point → ℤ
  top p = top_at (length p.nums) p.den (cell p.nums) (given_form m a (block k))

  tops : (inside : ℕ → Bool) (p q r : Point) (ys : List ℤ) → IsBetween m inside p q r → length ys ≤ length (counted m a k) → ((i : ℕ) → step p q r i ≡ spread (counted m a k) ys i) → p.den *ℤ r.den *ℤ (p.den *ℤ r.den) *ℤ top q +ℤ p.den *ℤ q.den *ℤ (p.den *ℤ q.den) *ℤ top r ≡ pos 2 *ℤ (q.den *ℤ r.den *ℤ (q.den *ℤ r.den) *ℤ top p) +ℤ Whole.form matrix ys
  tops inside p q r ys between l same =
      let n = length m.variables in
      let d = q.den *ℤ r.den *ℤ p.den in
      let x : ℕ → ℤ = λ i. q.den *ℤ r.den *ℤ cell p.nums i in
      let fp = between.fits.0 in
      let fq = between.fits.1 in
      let fr = between.fits.2 in
      let here = top_common p n (q.den *ℤ r.den) Poly (omega (arith, fp)) in
      let one : p.den *ℤ r.den *ℤ (p.den *ℤ r.den) *ℤ top q ≡ top_at n d (moved x (step p q r)) Poly =
      top_common q n (p.den *ℤ r.den) Poly (omega (arith, fq))
      ∙ ap₂ (λ e y. top_at (length m.variables) e y (given_form m a (block k)))
      (by_ring (p.den ∷ q.den ∷ r.den ∷ []) (var 0 ⊗ var 2 ⊗ var 1) (var 1 ⊗ var 2 ⊗ var 0) refl)
      (same_function (λ i. by_ring ((p.den *ℤ r.den *ℤ cell q.nums i) ∷ (q.den *ℤ r.den *ℤ cell p.nums i) ∷ []) (var 0) (var 1 ⊕ (var 0 ⊕ lit (negsuc 0) ⊗ var 1)) refl)) in
      let two : p.den *ℤ q.den *ℤ (p.den *ℤ q.den) *ℤ top r ≡ top_at n d (moved x (back (step p q r))) Poly =
      top_common r n (p.den *ℤ q.den) Poly (omega (arith, fr))
      ∙ ap₂ (λ e y. top_at (length m.variables) e y (given_form m a (block k)))
      (by_ring (p.den ∷ q.den ∷ r.den ∷ []) (var 0 ⊗ var 1 ⊗ var 2) (var 1 ⊗ var 2 ⊗ var 0) refl)
      (same_function (λ i. half_whole p.den q.den r.den (cell p.nums i) (cell q.nums i) (cell r.nums i) p.positive (between.half i))) in
      ap₂ (λ y z. y +ℤ z) one two
      ∙ (second_difference n d x (step p q r) Poly (mul_pos (q.den *ℤ r.den) p.den (mul_pos q.den r.den q.positive r.positive) p.positive)
      ∙ ap₂ (λ y z. pos 2 *ℤ y +ℤ z) (sym here) (ap (λ v. pos 2 *ℤ quadratic (length m.variables) (given_form m a (block k)).square v) (same_function same) ∙ quadratic_spread n Poly.square (counted m a k) ys l within))

  -- how three given values bend
  bends : (inside : ℕ → Bool) (p q r : Point) (ys : List ℤ) → IsBetween m inside p q r → length ys ≤ length (counted m a k) → ((i : ℕ) → step p q r i ≡ spread (counted m a k) ys i) → (f g h : Ratio) → IsGiven m a (block k) p f → IsGiven m a (block k) q g → IsGiven m a (block k) r h → Bends w.0 f g h ↔ (pos 0 ≤ℤ Whole.form (agent_curvature m a k) ys)
  bends inside p q r ys between l same f g h one two three =
      let vf = ((given_is_form m a (block k) w is polynomials).value p f).0 one in
      let vg = ((given_is_form m a (block k) w is polynomials).value q g).0 two in
      let vh = ((given_is_form m a (block k) w is polynomials).value r h).0 three in
      let e = Whole.form matrix ys in
      let all = p.den *ℤ q.den *ℤ r.den in
      let positive : pos 0 <ℤ (p.den *ℤ q.den *ℤ r.den) = mul_pos (p.den *ℤ q.den) r.den (mul_pos p.den q.den p.positive q.positive) r.positive in
      let both = bends_by w.0 f g h e (g.bottom *ℤ h.bottom *ℤ (f.bottom *ℤ f.bottom)) (Poly.den *ℤ (all *ℤ all))
      (mul_pos (g.bottom *ℤ h.bottom) (f.bottom *ℤ f.bottom) (mul_pos g.bottom h.bottom vg.0 vh.0) (mul_pos f.bottom f.bottom vf.0 vf.0))
      (mul_pos Poly.den (all *ℤ all) (given_den m a (block k) w is polynomials) (mul_pos all all positive positive))
      (bends_top Poly.den p.den q.den r.den f.top f.bottom g.top g.bottom h.top h.bottom (top p) (top q) (top r) e (tops inside p q r ys between l same) vf.1 vg.1 vh.1) in
      (λ b. subst (λ z. pos 0 ≤ℤ z) (sym (curvature_form ys)) (both.0 b), λ b. both.1 (subst (λ z. pos 0 ≤ℤ z) (curvature_form ys) b))

  semidefinite_bends : (n : ℕ) → n ≤ length (counted m a k) → IsSemidefinite (agent_curvature m a k) n → (p q r : Point) → IsBetween m (λ v. names_variable (take n (counted m a k)) v) p q r → (f g h : Ratio) → IsGiven m a (block k) p f → IsGiven m a (block k) q g → IsGiven m a (block k) r h → Bends w.0 f g h
  semidefinite_bends n l semi p q r between f g h one two three =
      let ys = parts n (counted m a k) (step p q r) in
      (bends (λ v. names_variable (take n (counted m a k)) v) p q r ys between (parts_within n (counted m a k) (step p q r)) (λ i. sym (spread_parts n (counted m a k) (step p q r) none i)) f g h one two three).1 (semi ys (parts_below n (counted m a k) (step p q r)))
    where
      none : (i : ℕ) → names_variable (take n (counted m a k)) i ≡ false → step p q r i ≡ pos 0
      none i t =
          by_ring (p.den ∷ q.den ∷ r.den ∷ cell p.nums i ∷ cell q.nums i ∷ []) (var 0 ⊗ var 2 ⊗ var 4 ⊕ lit (negsuc 0) ⊗ (var 1 ⊗ var 2 ⊗ var 3)) (var 2 ⊗ (var 4 ⊗ var 0) ⊕ neg (var 2 ⊗ (var 3 ⊗ var 1))) refl
          ∙ (ap (λ z. r.den *ℤ z +ℤ neg_ℤ (r.den *ℤ (cell p.nums i *ℤ q.den))) (between.outside i t) ∙ by_ring ((r.den *ℤ (cell p.nums i *ℤ q.den)) ∷ []) (var 0 ⊕ neg (var 0)) (lit (pos 0)) refl)

  -- ---- points along a step
  module _ (n : ℕ) (l : n ≤ length (counted m a k)) (ys : List ℤ) (short : length ys ≤ n) where
    abbrev along : ℕ → ℤ
    along = spread (counted m a k) ys

    beyond : (i : ℕ) → length m.variables ≤ i → along i ≡ pos 0
    beyond i b = go (names_variable (counted m a k) i) refl
      where
        go : (t : Bool) → names_variable (counted m a k) i ≡ t → along i ≡ pos 0
        go true t = absurd (let c = within i t in omega arith)
        go false t = spread_none n (counted m a k) ys i short (taken n (counted m a k) i t)

    abbrev point : (ℕ → ℤ) → Point
    point x = record { den = pos 1; nums = listed (length m.variables) x; positive = omega (arith, ints) }

    middle_cell : (i : ℕ) → cell (listed (length m.variables) (λ i. pos 0)) i ≡ pos 0
    middle_cell = listed_cell (length m.variables) (λ i. pos 0) (λ i b. refl)

    up_cell : (i : ℕ) → cell (listed (length m.variables) along) i ≡ along i
    up_cell = listed_cell (length m.variables) along beyond

    down_cell : (i : ℕ) → cell (listed (length m.variables) (back along)) i ≡ back along i
    down_cell = listed_cell (length m.variables) (back along) (λ i b. ap (λ z. negsuc 0 *ℤ z) (beyond i b))

    between : IsBetween m (λ v. names_variable (take n (counted m a k)) v) (point (λ i. pos 0)) (point along) (point (back along))
    between = record {
      fits = (listed_count (length m.variables) (λ i. pos 0), listed_count (length m.variables) along, listed_count (length m.variables) (back along));
      half = λ i. ap₂ (λ y z. (y *ℤ pos 1 +ℤ z *ℤ pos 1) *ℤ (pos 1 *ℤ pos 1)) (up_cell i) (down_cell i)
          ∙ (by_ring (along i ∷ []) ((var 0 ⊗ lit (pos 1) ⊕ lit (negsuc 0) ⊗ var 0 ⊗ lit (pos 1)) ⊗ (lit (pos 1) ⊗ lit (pos 1))) ((lit (pos 0) ⊗ lit (pos 1) ⊕ lit (pos 0) ⊗ lit (pos 1)) ⊗ (lit (pos 1) ⊗ lit (pos 1))) refl
          ∙ ap (λ x. (x *ℤ pos 1 +ℤ x *ℤ pos 1) *ℤ (pos 1 *ℤ pos 1)) (sym (middle_cell i)));
      outside = λ i t. ap (λ y. y *ℤ pos 1) (up_cell i ∙ (spread_none n (counted m a k) ys i short t ∙ sym (middle_cell i)));
    }

    step_along : (i : ℕ) → step (point (λ i. pos 0)) (point along) (point (back along)) i ≡ along i
    step_along i =
        ap₂ (λ y x. pos 1 *ℤ pos 1 *ℤ y +ℤ negsuc 0 *ℤ (pos 1 *ℤ pos 1 *ℤ x)) (up_cell i) (middle_cell i)
        ∙ by_ring (along i ∷ []) (lit (pos 1) ⊗ lit (pos 1) ⊗ var 0 ⊕ lit (negsuc 0) ⊗ (lit (pos 1) ⊗ lit (pos 1) ⊗ lit (pos 0))) (var 0) refl

    nonnegative : IsConvexUpTo m a k n → pos 0 ≤ℤ Whole.form (agent_curvature m a k) ys
    nonnegative convex =
        let p = point (λ i. pos 0) in
        let q = point along in
        let r = point (back along) in
        let f = form_is_given m a (block k) w is polynomials p in
        let g = form_is_given m a (block k) w is polynomials q in
        let h = form_is_given m a (block k) w is polynomials r in
        (bends (λ v. names_variable (take n (counted m a k)) v) p q r ys between (omega arith) step_along (form_value p Poly) (form_value q Poly) (form_value r Poly) f g h).0
        (convex w.0 w.1 is p q r between (form_value p Poly) (form_value q Poly) (form_value r Poly) f g h)

convex_up_to : (m : Model) (a : Annot) (k n : ℕ) → IsAgent m a k → n ≤ length (counted m a k) → IsConvexUpTo m a k n ↔ IsSemidefinite (agent_curvature m a k) n
convex_up_to m a k n agent l = (
  λ convex ys short. nonnegative m a k agent.goal agent.is agent.polynomials agent.within n l ys short convex,
  λ semi s w is p q r between f g h. semidefinite_bends m a k (s, w) is agent.polynomials agent.within n l semi p q r between f g h,
)

convex_whole : (m : Model) (a : Annot) (k : ℕ) → IsAgent m a k → IsConvex m a k ↔ IsSemidefinite (agent_curvature m a k) (length (counted m a k))
convex_whole m a k agent =
    let both = convex_up_to m a k (length (counted m a k)) agent (omega arith) in
    (λ convex. both.0 (subst (λ (vs : List VarId). IsConvexIn m a k (λ v. names_variable vs v)) (sym (taken_all (counted m a k))) convex), λ semi. subst (λ (vs : List VarId). IsConvexIn m a k (λ v. names_variable vs v)) (taken_all (counted m a k)) (both.1 semi))

pub curvature_is_convex : CurvatureIsConvex
curvature_is_convex = record { up_to = convex_up_to; whole = convex_whole }

-- ---- what the answer says
never : (t : ℤ) → t <ℤ pos 0 → pos 0 ≤ℤ t → ⊥
never t h k = omega (arith, linear, h, k)

pub convex_tells : ConvexTells
convex_tells m a k cells w agent matrix over r g = go r g (Says.convex_says (length (counted m a k)) cells matrix r g)
  where
    shorter : (n : ℕ) → n ≤ length (counted m a k) → Over (entries (length (counted m a k)) cells) (agent_curvature m a k) w n
    shorter n l = record { positive = over.positive; same = λ i j h b. over.same i j (omega arith) (omega arith) }

    convex : (n : ℕ) → n ≤ length (counted m a k) → Fractions.IsSemidefinite (entries (length (counted m a k)) cells) n → IsConvexUpTo m a k n
    convex n l s = (convex_up_to m a k n agent l).1 ((semidefinite_is_whole (length (counted m a k)) cells (agent_curvature m a k) w n l (shorter n l)).0 s)

    semidefinite : (n : ℕ) → n ≤ length (counted m a k) → IsConvexUpTo m a k n → Fractions.IsSemidefinite (entries (length (counted m a k)) cells) n
    semidefinite n l c = (semidefinite_is_whole (length (counted m a k)) cells (agent_curvature m a k) w n l (shorter n l)).1 ((convex_up_to m a k n agent l).0 c)

    go : (r : Result Squares Curve) → ConvexGives (entries (length (counted m a k)) cells) (length (counted m a k)) r → ConvexSays (length (counted m a k)) cells r → CurveTells m a k r
    go (Ok s) g h = (convex_whole m a k agent).1 ((semidefinite_is_whole (length (counted m a k)) cells (agent_curvature m a k) w (length (counted m a k)) (omega arith) (shorter (length (counted m a k)) (omega arith))).0 h.1.semidefinite)
    go (Err (Not n)) g h = (
      λ c. let s = semidefinite n (let e = g.is in let b = g.below in omega arith) c in never (Fractions.form_at (entries (length (counted m a k)) cells) h.0.den h.0.at).top h.0.below (s.nowhere h.0.den h.0.at h.0.positive h.0.fits),
      λ i l. convex i (let e = g.is in let b = g.below in omega arith) (h.1 i l),
    )
    go (Err (Wide n)) g h = λ i l. convex i (let e = g.is in let b = g.below in omega arith) (h i l)
    go (Err NoMemory) g h = tt
