-- The polynomials of objectives, from the differences.
use Rattle.std.proofs.Common.{◌≡◌, inl, inr, ℕ, zero, suc, ◌<◌, ℤ, pos, negsuc, neg_ℤ, ◌*ℤ◌, ◌<ℤ◌, Bool, true, false, List, [], ◌∷◌, length, Option, Some, None, arith, refl, sym, ap, subst, ◌∙◌}
use Rattle.std.specs.Prelude.{slice_get}
use Rattle.std.proofs.lemmas.Bool.{false≢true}
use Rattle.std.proofs.lemmas.Int.{ints}
use Rattle.std.proofs.lemmas.Option.{slice_get_within}
use Rattle.emp_algebra.proofs.Order.{cancel_right}
use Rattle.emp_algebra.proofs.Ring.{var, lit, neg, ◌⊗◌, by_ring}
use Rattle.emp_num.specs.FracSpec.{IsQuotient}
use Rattle.emp_num.specs.declared.frac.Frac.{Frac}
use Rattle.emp_ast.specs.declared.tree.EquId.{EquId}
use Rattle.emp_ast.specs.declared.model.Equation.{Equation}
use Rattle.emp_ast.specs.declared.model.Sense.{Sense}
use Rattle.emp_ast.specs.declared.model.Sense.TheVariants.{Min, Max}
use Rattle.emp_ast.specs.declared.model.Model.{Model}
use Rattle.emp_ast.specs.declared.annot.Annot.{Annot}
use Rattle.emp_ast.specs.Parties.{Party, objective}
use Rattle.emp_form.specs.Form.{Form, negated_form}
use Rattle.emp_form.specs.Expansion.{form}
use Rattle.emp_poly.specs.Quads.{linear_at, square_at, HasForm}
use Rattle.emp_poly.specs.declared.quad.Quad.{Quad}
use Rattle.emp_owner.specs.Settled.{IsDefinition}
use Rattle.emp_agents.specs.Given.{difference, IsSign, times_form, without, given_form, StandsOnce}
use Rattle.emp_agents.proofs.Given.{objective_stands_once, given_form_is}
use Rattle.emp_problem.specs.Left.{signed}
use Rattle.emp_subst.specs.Stages.{sign_of, IsTimes, IsWithout, IsSolved, SolvesBy, AreDifferences, is_max}

-- a polynomial of a form has each form with the same coefficients
same_form : (q : Quad) (f g : Form) → HasForm q f → f.den ≡ g.den → f.constant ≡ g.constant → ((i : ℕ) → f.linear i ≡ g.linear i) → ((i j : ℕ) → f.square i j ≡ g.square i j) → HasForm q g
same_form q f g h d c l s = record {
  den = subst (λ z. pos 0 <ℤ z) d h.den;
  constant = quotient q.constant f.constant g.constant h.constant c;
  linear = λ i. quotient (linear_at q.linear i) (f.linear i) (g.linear i) (h.linear i) (l i);
  square = λ i j le. quotient (square_at q.square i j) (f.square i j) (g.square i j) (h.square i j le) (s i j);
}
  where
    quotient : (x : Frac) (n m : ℤ) → IsQuotient x n f.den → n ≡ m → IsQuotient x m g.den
    quotient x n m k e = ap (λ z. x.num *ℤ z) (sym d) ∙ (k ∙ ap (λ z. z *ℤ x.den) e)

one_times : (z : ℤ) → pos 1 *ℤ z ≡ z
one_times z = by_ring (z ∷ []) (lit (pos 1) ⊗ var 0) (var 0) refl

less_times : (z : ℤ) → negsuc 0 *ℤ z ≡ neg_ℤ z
less_times z = by_ring (z ∷ []) (lit (negsuc 0) ⊗ var 0) (neg (var 0)) refl

-- ---- as it is to be least
pub signed_has : (s : Sense) (q r : Quad) → IsTimes (sign_of (is_max s)) q r → (f : Form) → HasForm q f → HasForm r (signed s f)
signed_has Min q r h f k = same_form r (times_form (pos 1) f) f (h f k) refl (one_times f.constant) (λ i. one_times (f.linear i)) (λ i j. one_times (f.square i j))
signed_has Max q r h f k = same_form r (times_form (negsuc 0) f) (negated_form f) (h f k) refl (less_times f.constant) (λ i. less_times (f.linear i)) (λ i j. less_times (f.square i j))

-- ---- solved for a variable
-- the coefficient has the sign of the leaf
sign_is : (x : Frac) (s d : ℤ) (b : Bool) → IsSign s → pos 0 <ℤ d → IsQuotient x (s *ℤ d) d → (b ≡ true → pos 0 <ℤ x.num) → (b ≡ false → x.num <ℤ pos 1) → sign_of b ≡ neg_ℤ s
sign_is x s d b (inl one) above h ups downs = go b refl
  where
    top : x.num ≡ x.den
    top = cancel_right x.num x.den d (h ∙ (ap (λ z. z *ℤ d *ℤ x.den) one ∙ by_ring (d ∷ x.den ∷ []) (lit (pos 1) ⊗ var 0 ⊗ var 1) (var 1 ⊗ var 0) refl)) above

    go : (c : Bool) → b ≡ c → sign_of c ≡ neg_ℤ s
    go true e = ap neg_ℤ (sym one)
    go false e = absurd (omega (arith, ints, downs e, top, x.positive))
sign_is x s d b (inr less) above h ups downs = go b refl
  where
    top : x.num ≡ neg_ℤ x.den
    top = cancel_right x.num (neg_ℤ x.den) d (h ∙ (ap (λ z. z *ℤ d *ℤ x.den) less ∙ by_ring (d ∷ x.den ∷ []) (lit (negsuc 0) ⊗ var 0 ⊗ var 1) (neg (var 1) ⊗ var 0) refl)) above

    go : (c : Bool) → b ≡ c → sign_of c ≡ neg_ℤ s
    go true e = absurd (omega (arith, ints, ups e, top, x.positive))
    go false e = ap neg_ℤ (sym less)

pub is_solved : (w : ℕ) (q rest r : Quad) (x : Frac) (b : Bool) → x ≡ linear_at q.linear w → (b ≡ true → pos 0 <ℤ x.num) → (b ≡ false → x.num <ℤ pos 1) → IsWithout w q rest → IsTimes (sign_of b) rest r → IsSolved w q r
is_solved w q rest r x b is ups downs h k f s has sign term =
    let e : sign_of b ≡ neg_ℤ s =
    sign_is x s f.den b sign has.den (subst (λ (y : Frac). IsQuotient y (s *ℤ f.den) f.den) (sym is) (has.linear w ∙ ap (λ z. z *ℤ (linear_at q.linear w).den) term.linear)) ups downs in
    subst (λ z. HasForm r (times_form z (without w f))) e (k (without w f) (h f has))

-- ---- the given polynomial of a party
pub gives : (m : Model) (a : Annot) (p : Party) (w : Sense × ℕ) (ds : List Quad) (d : Option EquId) (r : Quad) → objective m a p ≡ Some w → AreDifferences m ds → IsDefinition m a p d → SolvesBy ds w.1 d r → HasForm r (given_form m a p)
gives m a p w ds None r is are h k =
    subst (λ f. HasForm r f) (sym ((given_form_is m a p w is).otherwise (λ e q at d. false≢true (sym (h e) ∙ d)))) k
gives m a p w ds (Some e) r is are h k = go (some_at m.equations e.at (subst (λ n. e.at < n) are.count (slice_get_within ds e.at k.0 k.1)))
  where
    some_at : {X : Type 0} (xs : List X) (n : ℕ) → n < length xs → (x : X) × (slice_get xs n ≡ Some x)
    some_at [] n l = absurd (omega arith)
    some_at (x ∷ xs) zero l = (x, refl)
    some_at (x ∷ xs) (suc n) l = some_at xs n (omega arith)

    go : (q : Equation) × (slice_get m.equations e.at ≡ Some q) → HasForm r (given_form m a p)
    go t =
        let once : StandsOnce w.1 t.0 = objective_stands_once m a p w is e.at t.0 t.1 h in
        subst (λ f. HasForm r f) (sym ((given_form_is m a p w is).defined e.at t.0 t.1 h)) (k.2 (form (difference t.0)) _ (are.each e.at t.0 k.0 t.1 k.1) once.sign once.term)
