-- The polynomials of the equations of a market, and the second derivative of a firm's profit by its quantity.
use Rattle.std.proofs.Common.{◌≡◌, ◌⊎◌, inl, inr, ℕ, ◌+◌, ◌^◌, ℤ, pos, negsuc, neg_ℤ, ◌+ℤ◌, ◌*ℤ◌, Bool, true, false, cond, [], ◌∷◌, arith, refl, sym, ap, ap₂, subst, ◌∙◌}
use Rattle.std.specs.Prelude.{nat_lt}
use Rattle.std.proofs.lemmas.Bool.{eq-eqb, ne_eqb, cases_eq}
use Rattle.emp_algebra.proofs.Ring.{var, lit, ◌⊕◌, ◌⊗◌, by_ring}
use Rattle.emp_num.specs.Whole.{whole, whole_by}
use Rattle.emp_ast.specs.declared.tree.Operator.TheVariants.{Minus}
use Rattle.emp_ast.specs.declared.model.Equation.{Equation}
use Rattle.emp_ast.specs.Expression.{Expression, number, variable, joined}
use Rattle.emp_form.specs.Form.{Form, form_of, unit_at, variable_form, negated_form, sum_form, product_form, IsLinear, DegreesFit}
use Rattle.emp_form.specs.Expansion.{form, IsPolynomial}
use Rattle.emp_agents.specs.Given.{leaf_sign, difference, solved_form}
use Rattle.emp_problem.specs.Class.{Expands}
use Rattle.emp_make.specs.Markets.{first_of_market, demand, cost, has_rival, quantity, price, profit, IsProfitEquation}

-- ---- whole numbers
den_by : (n : ℕ) (b : Bool) (e : nat_lt n (2 ^ 126) ≡ b) → (whole_by n b e).den ≡ pos 1
den_by n true e = refl
den_by n false e = refl

whole_den : (n : ℕ) → (whole n).den ≡ pos 1
whole_den n = den_by n (nat_lt n (2 ^ 126)) refl

number_form : (n : ℕ) → form (number (whole n)) ≡ form_of (whole n).num (pos 1)
number_form n = ap (form_of (whole n).num) (whole_den n)

-- ---- the price falls by 1 with the firm's quantity
record IsPrice (v : ℕ) (f : Form) : Type 0 where
  den : f.den ≡ pos 1
  linear : f.linear v ≡ negsuc 0
  straight : IsLinear f

abbrev less : Form → ℕ → Form
less f v = sum_form f (negated_form (variable_form v))

here : (v : ℕ) → unit_at v v ≡ pos 1
here v = ap (λ b. cond b (pos 1) (pos 0)) (eq-eqb v v refl)

away : (u v : ℕ) → (v ≡ u → ⊥) → unit_at u v ≡ pos 0
away u v ne = ap (λ b. cond b (pos 1) (pos 0)) (ne_eqb v u ne)

one_seller : (a : ℤ) (v : ℕ) → IsPrice v (less (form_of a (pos 1)) v)
one_seller a v = record {
  den = refl;
  linear = ap (λ z. pos 1 *ℤ pos 0 +ℤ pos 1 *ℤ neg_ℤ z) (here v);
  straight = record { square = λ i j l. refl };
}

two_sellers : (a : ℤ) (u w v : ℕ) (x y : ℤ) → unit_at u v ≡ x → unit_at w v ≡ y → pos 1 *ℤ (pos 1 *ℤ pos 0 +ℤ pos 1 *ℤ neg_ℤ x) +ℤ pos 1 *ℤ neg_ℤ y ≡ negsuc 0 → IsPrice v (less (less (form_of a (pos 1)) u) w)
two_sellers a u w v x y p q h = record {
  den = refl;
  linear = ap₂ (λ s t. pos 1 *ℤ (pos 1 *ℤ pos 0 +ℤ pos 1 *ℤ neg_ℤ s) +ℤ pos 1 *ℤ neg_ℤ t) p q ∙ h;
  straight = record { square = λ i j l. refl };
}

-- the firm is the first of its market or the second
is_price : (seed firms k : ℕ) → IsPrice (quantity firms k) (form (price seed firms k))
is_price seed firms k = go (has_rival firms k)
  where
    alone : Expression
    alone = joined Minus (number (whole (demand seed k))) (variable (quantity firms k))

    rivals : Expression
    rivals = joined Minus (joined Minus (number (whole (demand seed k))) (variable (quantity firms (first_of_market k)))) (variable (quantity firms (first_of_market k + 1)))

    among : (k ≡ first_of_market k) ⊎ (k ≡ first_of_market k → ⊥) → IsPrice (quantity firms k) (less (less (form_of (whole (demand seed k)).num (pos 1)) (quantity firms (first_of_market k))) (quantity firms (first_of_market k + 1)))
    among (inl e) =
        two_sellers (whole (demand seed k)).num (quantity firms (first_of_market k)) (quantity firms (first_of_market k + 1)) (quantity firms k) (pos 1) (pos 0)
        (ap (λ j. unit_at (quantity firms j) (quantity firms k)) (sym e) ∙ here (quantity firms k))
        (away (quantity firms (first_of_market k + 1)) (quantity firms k) (λ s. omega arith))
        refl
    among (inr ne) =
        let second : k ≡ first_of_market k + 1 = omega arith in
        two_sellers (whole (demand seed k)).num (quantity firms (first_of_market k)) (quantity firms (first_of_market k + 1)) (quantity firms k) (pos 0) (pos 1)
        (away (quantity firms (first_of_market k)) (quantity firms k) (λ s. omega arith))
        (ap (λ j. unit_at (quantity firms j) (quantity firms k)) (sym second) ∙ here (quantity firms k))
        refl

    go : (b : Bool) → IsPrice (quantity firms k) (form (cond b rivals alone))
    go true = subst (λ f. IsPrice (quantity firms k) (less (less f (quantity firms (first_of_market k))) (quantity firms (first_of_market k + 1)))) (sym (number_form (demand seed k))) (among (cases_eq k (first_of_market k)))
    go false = subst (λ f. IsPrice (quantity firms k) (less f (quantity firms k))) (sym (number_form (demand seed k))) (one_seller (whole (demand seed k)).num (quantity firms k))

-- ---- both sides are polynomials
price_expands : (seed firms k : ℕ) → IsPolynomial (price seed firms k)
price_expands seed firms k = go (has_rival firms k)
  where
    go : (b : Bool) → IsPolynomial (cond b (joined Minus (joined Minus (number (whole (demand seed k))) (variable (quantity firms (first_of_market k)))) (variable (quantity firms (first_of_market k + 1)))) (joined Minus (number (whole (demand seed k))) (variable (quantity firms k))))
    go true = (tt, (tt, tt, tt), tt)
    go false = (tt, tt, tt)

profit_expands : (seed firms k : ℕ) → IsPolynomial (profit seed firms k)
profit_expands seed firms k =
    let earned : DegreesFit (form (price seed firms k)) (variable_form (quantity firms k)) = inr (inr ((is_price seed firms k).straight, record { square = λ i j l. refl })) in
    let spent : DegreesFit (form (number (whole (cost seed k)))) (variable_form (quantity firms k)) = inl (record { linear = λ i. refl; square = λ i j l. refl }) in
    (tt, (earned, price_expands seed firms k, tt), (spent, tt, tt))

pub expands : (seed firms k : ℕ) (q : Equation) → IsProfitEquation seed firms k q → Expands q
expands seed firms k q h = (subst IsPolynomial (sym h.left) tt, subst IsPolynomial (sym h.right) (profit_expands seed firms k))

-- ---- the square of the quantity in what the equation gives
earned_square : (v : ℕ) (f : Form) → IsPrice v f → (product_form f (variable_form v)).square v v ≡ negsuc 0
earned_square v f h =
    ap (λ b. cond b (f.linear v *ℤ cond b (pos 1) (pos 0)) (f.linear v *ℤ cond b (pos 1) (pos 0) +ℤ f.linear v *ℤ cond b (pos 1) (pos 0)) +ℤ (f.constant *ℤ pos 0 +ℤ pos 0 *ℤ f.square v v)) (eq-eqb v v refl) ∙ (ap (λ z. z *ℤ pos 1 +ℤ (f.constant *ℤ pos 0 +ℤ pos 0 *ℤ f.square v v)) h.linear ∙ by_ring (f.constant ∷ f.square v v ∷ []) (lit (negsuc 0) ⊗ lit (pos 1) ⊕ (var 0 ⊗ lit (pos 0) ⊕ lit (pos 0) ⊗ var 1)) (lit (negsuc 0)) refl)

spent_square : (v : ℕ) (c d : ℤ) → (product_form (form_of c d) (variable_form v)).square v v ≡ pos 0
spent_square v c d =
    ap (λ b. cond b (pos 0 *ℤ cond b (pos 1) (pos 0)) (pos 0 *ℤ cond b (pos 1) (pos 0) +ℤ pos 0 *ℤ cond b (pos 1) (pos 0)) +ℤ (c *ℤ pos 0 +ℤ pos 0 *ℤ pos 0)) (eq-eqb v v refl) ∙ by_ring (c ∷ []) (lit (pos 0) ⊗ lit (pos 1) ⊕ (var 0 ⊗ lit (pos 0) ⊕ lit (pos 0) ⊗ lit (pos 0))) (lit (pos 0)) refl

profit_square : (seed firms k : ℕ) → (form (profit seed firms k)).square (quantity firms k) (quantity firms k) ≡ negsuc 0
profit_square seed firms k =
    let v = quantity firms k in
    let f = form (price seed firms k) in
    let c = whole (cost seed k) in
    ap₂ (λ s t. c.den *ℤ pos 1 *ℤ s +ℤ f.den *ℤ pos 1 *ℤ neg_ℤ t) (earned_square v f (is_price seed firms k)) (spent_square v c.num c.den) ∙ ap₂ (λ d e. d *ℤ pos 1 *ℤ negsuc 0 +ℤ e *ℤ pos 1 *ℤ neg_ℤ (pos 0)) (whole_den (cost seed k)) (is_price seed firms k).den

abbrev apart : ℕ → ℕ → ℕ → Expression
apart seed firms k = joined Minus (variable k) (profit seed firms k)

apart_square : (seed firms k : ℕ) → (form (apart seed firms k)).square (quantity firms k) (quantity firms k) ≡ pos 1
apart_square seed firms k =
    let d = (form (profit seed firms k)).den in
    ap (λ s. d *ℤ pos 0 +ℤ pos 1 *ℤ neg_ℤ s) (profit_square seed firms k) ∙ by_ring (d ∷ []) (var 0 ⊗ lit (pos 0) ⊕ lit (pos 1) ⊗ lit (pos 1)) (lit (pos 1)) refl

apart_sign : (seed firms k : ℕ) → leaf_sign k (apart seed firms k) ≡ pos 1
apart_sign seed firms k = ap (λ b. cond b (pos 1) (pos 0) +ℤ neg_ℤ (pos 0 +ℤ neg_ℤ (pos 0))) (eq-eqb k k refl)

pub solved_square : (seed firms k : ℕ) (q : Equation) → IsProfitEquation seed firms k q → (solved_form k q).square (quantity firms k) (quantity firms k) ≡ negsuc 0
solved_square seed firms k q h =
    let v = quantity firms k in
    let same : difference q ≡ apart seed firms k = ap₂ (joined Minus) h.left h.right in
    ap (λ d. neg_ℤ (leaf_sign k d) *ℤ (form d).square v v) same ∙ ap₂ (λ s z. neg_ℤ s *ℤ z) (apart_sign seed firms k) (apart_square seed firms k)
