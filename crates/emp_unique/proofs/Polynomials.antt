-- A form is that of one polynomial: its terms are told by its coefficients.
use Rattle.std.proofs.Common.{◌≡◌, ◌⊎◌, inl, inr, ℕ, ◌+◌, ◌<◌, ◌≤◌, pos, true, ◌&&◌, cond, List, [], ◌∷◌, arith, refl, sym, ap, ap₂, subst, subst₂, ◌∙◌}
use Rattle.std.proofs.Math.Bool.{Bool-set}
use Rattle.std.proofs.lemmas.Bool.{cases_order, false≢true}
use lib.IntN.{zero-*ℤ}
use Rattle.emp_num.specs.Whole.{whole}
use Rattle.emp_num.specs.declared.frac.Frac.{Frac}
use Rattle.emp_num.proofs.FracOrder.{one_value}
use Rattle.emp_ast.specs.declared.tree.VarId.{VarId}
use Rattle.emp_form.specs.Form.{Form}
use Rattle.emp_poly.specs.Terms.{is_not_zero, is_linear, is_square_from, is_square}
use Rattle.emp_poly.specs.Quads.{square_at, HasForm}
use Rattle.emp_poly.specs.Gradient.{LinHasForm}
use Rattle.emp_poly.specs.declared.quad.Quad.{Quad}
use Rattle.emp_poly.specs.declared.quad.Lin.{Lin}
use Rattle.emp_poly.proofs.QuadForms.{same_is, SquareFacts, square_facts, IsBefore, pair_apart, square_below}
use Rattle.emp_subst.proofs.SameRows.{same_lin}
use Rattle.emp_unique.specs.Laws.{OnePolynomial}

-- ---- linear polynomials
pub one_lin : (f : Form) (l k : Lin) → LinHasForm l f → LinHasForm k f → l ≡ k
one_lin f l k h j = same_lin l k f h j

-- ---- quadratic terms
here : (t : VarId × VarId × Frac) (ts : List (VarId × VarId × Frac)) → square_at (t ∷ ts) t.0.at t.1.at ≡ t.2
here t ts = ap₂ (λ a b. cond (a && b) t.2 (square_at ts t.0.at t.1.at)) (same_is t.0.at) (same_is t.1.at)

off : (t : VarId × VarId × Frac) (ts : List (VarId × VarId × Frac)) (u v : ℕ) → ((t.0.at ≡ u) → (t.1.at ≡ v) → ⊥) → square_at (t ∷ ts) u v ≡ square_at ts u v
off t ts u v h = ap (λ b. cond b t.2 (square_at ts u v)) (pair_apart t.0.at t.1.at u v h)

pair_cases : (a b c d : ℕ) → ((a ≡ c) × (b ≡ d)) ⊎ (IsBefore a b c d ⊎ IsBefore c d a b)
pair_cases a b c d = go (cases_order a c) (cases_order b d)
  where
    go : (a ≡ c) ⊎ ((a < c) ⊎ (c < a)) → (b ≡ d) ⊎ ((b < d) ⊎ (d < b)) → ((a ≡ c) × (b ≡ d)) ⊎ (IsBefore a b c d ⊎ IsBefore c d a b)
    go (inl e) (inl f) = inl (e, f)
    go (inl e) (inr (inl l)) = inr (inl (inr (e, l)))
    go (inl e) (inr (inr l)) = inr (inr (inr (sym e, l)))
    go (inr (inl l)) q = inr (inl (inl l))
    go (inr (inr l)) q = inr (inr (inl l))

before_differs : (u v a b : ℕ) → IsBefore u v a b → a ≡ u → b ≡ v → ⊥
before_differs u v a b (inl l) e f = omega arith
before_differs u v a b (inr p) e f = omega (arith, p.1)

before_more : (u v a b : ℕ) → IsBefore u v a b → IsBefore u v a (b + 1)
before_more u v a b (inl l) = inl l
before_more u v a b (inr p) = inr (p.0, omega (arith, p.1))

before : (t : VarId × VarId × Frac) (ts : List (VarId × VarId × Frac)) (i j u v : ℕ) → is_square_from i j (t ∷ ts) ≡ true → IsBefore u v t.0.at t.1.at → square_at (t ∷ ts) u v ≡ whole 0
before t ts i j u v kept l =
    off t ts u v (before_differs u v t.0.at t.1.at l) ∙ square_below ts t.0.at (t.1.at + 1) u v (square_facts t ts i j kept).rest (before_more u v t.0.at t.1.at l)

some_not : (x : Frac) → is_not_zero x.num ≡ true → x ≡ whole 0 → ⊥
some_not x some e = false≢true (ap (λ (y : Frac). is_not_zero y.num) (sym e) ∙ some)

same_variable : (u v : VarId) → u.at ≡ v.at → u ≡ v
same_variable u v e = grind arith

-- strictly rising terms with the same coefficients are the same
same_squares : (ts us : List (VarId × VarId × Frac)) (a b c d : ℕ) → is_square_from a b ts ≡ true → is_square_from c d us ≡ true → ((i j : ℕ) → i ≤ j → square_at ts i j ≡ square_at us i j) → ts ≡ us
same_squares [] [] a b c d h k same = refl
same_squares [] (u ∷ us) a b c d h k same = let f = square_facts u us c d k in absurd (some_not u.2 f.some (sym (here u us) ∙ sym (same u.0.at u.1.at f.ordered)))
same_squares (t ∷ ts) [] a b c d h k same = let f = square_facts t ts a b h in absurd (some_not t.2 f.some (sym (here t ts) ∙ same t.0.at t.1.at f.ordered))
same_squares (t ∷ ts) (u ∷ us) a b c d h k same = go (pair_cases t.0.at t.1.at u.0.at u.1.at) (same_squares ts us t.0.at (t.1.at + 1) u.0.at (u.1.at + 1) f.rest g.rest)
  where
    f : SquareFacts t ts a b
    f = square_facts t ts a b h

    g : SquareFacts u us c d
    g = square_facts u us c d k

    go : ((t.0.at ≡ u.0.at) × (t.1.at ≡ u.1.at)) ⊎ (IsBefore t.0.at t.1.at u.0.at u.1.at ⊎ IsBefore u.0.at u.1.at t.0.at t.1.at) → (((i j : ℕ) → i ≤ j → square_at ts i j ≡ square_at us i j) → ts ≡ us) → t ∷ ts ≡ u ∷ us
    go (inr (inl l)) rest = absurd (some_not t.2 f.some (sym (here t ts) ∙ (same t.0.at t.1.at f.ordered ∙ before u us c d t.0.at t.1.at k l)))
    go (inr (inr l)) rest = absurd (some_not u.2 g.some (sym (here u us) ∙ (sym (same u.0.at u.1.at g.ordered) ∙ before t ts a b u.0.at u.1.at h l)))
    go (inl e) rest = ap₂ (λ x ys. x ∷ ys) (term t.0 u.0 t.1 u.1 t.2 u.2 (same_variable t.0 u.0 e.0) (same_variable t.1 u.1 e.1) number) (rest later)
      where
        term : (v w x y : VarId) (m n : Frac) → v ≡ w → x ≡ y → m ≡ n → ◌≡◌ {A = VarId × VarId × Frac} (v, x, m) (w, y, n)
        term v w x y m n p q r = rw (p, q, r) refl

        number : t.2 ≡ u.2
        number = sym (here t ts) ∙ (same t.0.at t.1.at f.ordered ∙ (ap₂ (square_at (u ∷ us)) e.0 e.1 ∙ here u us))

        later : (i j : ℕ) → i ≤ j → square_at ts i j ≡ square_at us i j
        later i j l = at (pair_cases t.0.at t.1.at i j)
          where
            other : ((t.0.at ≡ i) → (t.1.at ≡ j) → ⊥) → square_at ts i j ≡ square_at us i j
            other n = sym (off t ts i j n) ∙ (same i j l ∙ off u us i j (λ x y. n (e.0 ∙ x) (e.1 ∙ y)))

            at : ((t.0.at ≡ i) × (t.1.at ≡ j)) ⊎ (IsBefore t.0.at t.1.at i j ⊎ IsBefore i j t.0.at t.1.at) → square_at ts i j ≡ square_at us i j
            at (inl p) =
                square_below ts t.0.at (t.1.at + 1) i j f.rest (next t.0.at t.1.at p.0 p.1) ∙ sym (square_below us u.0.at (u.1.at + 1) i j g.rest (next u.0.at u.1.at (sym e.0 ∙ p.0) (sym e.1 ∙ p.1)))
              where
                next : (x y : ℕ) → x ≡ i → y ≡ j → IsBefore i j x (y + 1)
                next x y s t = inr (sym s, omega (arith, t))
            at (inr (inl s)) = other (λ x y. before_differs t.0.at t.1.at i j s (sym x) (sym y))
            at (inr (inr s)) = other (before_differs i j t.0.at t.1.at s)

-- ---- polynomials
quad_eq : (q r : Quad) → q.constant ≡ r.constant → q.linear ≡ r.linear → q.square ≡ r.square → q ≡ r
quad_eq q r c l s = subst (λ (ss : List (VarId × VarId × Frac)). Same r.constant r.linear ss) s (subst₂ (λ (d : Frac) (ts : List (VarId × Frac)). Same d ts q.square) c l base) r.linear_kept r.square_kept
  where
    Same : Frac → List (VarId × Frac) → List (VarId × VarId × Frac) → Type 0
    Same d ts ss = (h : is_linear ts ≡ true) (k : is_square ss ≡ true) → q ≡ record { constant = d; linear = ts; square = ss; linear_kept = h; square_kept = k }

    base : Same q.constant q.linear q.square
    base h k = ap₂ with_kept (Bool-set (is_linear q.linear) true q.linear_kept h) (Bool-set (is_square q.square) true q.square_kept k)
      where
        with_kept : is_linear q.linear ≡ true → is_square q.square ≡ true → Quad
        with_kept x y = record { constant = q.constant; linear = q.linear; square = q.square; linear_kept = x; square_kept = y }

-- the linear terms, as a polynomial with constant 0
abbrev linear_of : Quad → Lin
linear_of q = record { constant = whole 0; linear = q.linear; linear_kept = q.linear_kept }

abbrev without_constant : Form → Form
without_constant f = record { den = f.den; constant = pos 0; linear = f.linear; square = f.square }

linear_has : (q : Quad) (f : Form) → HasForm q f → LinHasForm (linear_of q) (without_constant f)
linear_has q f h = record { den = h.den; constant = zero-*ℤ f.den; linear = h.linear }

pub one_quad : (f : Form) (q r : Quad) → HasForm q f → HasForm r f → q ≡ r
one_quad f q r h k =
    quad_eq q r (one_value f.constant f.den q.constant r.constant h.den h.constant k.constant)
    (ap (λ (l : Lin). l.linear) (same_lin (linear_of q) (linear_of r) (without_constant f) (linear_has q f h) (linear_has r f k)))
    (same_squares q.square r.square 0 0 0 0 q.square_kept r.square_kept (λ i j l. one_value (f.square i j) f.den (square_at q.square i j) (square_at r.square i j) h.den (h.square i j l) (k.square i j l)))

pub one_polynomial : OnePolynomial
one_polynomial = record { quad = one_quad; lin = one_lin }
