-- The coefficients of a polynomial by their products of variables are those of each form that it has.
use Rattle.std.proofs.Common.{◌≡◌, ◌≢◌, ℕ, ◌+◌, ◌<◌, ◌≤◌, ℤ, pos, ◌*ℤ◌, Bool, true, false, ◌&&◌, cond, List, [], ◌∷◌, length, get_or, drop, Option, Some, None, arith, refl, sym, ap, ap₂, subst, ◌∙◌}
use Rattle.std.specs.Prelude.{nat_lt, nat_eq}
use Rattle.std.proofs.lemmas.Int.{ints}
use Rattle.std.proofs.lemmas.List.{drop_more}
use lib.IntN.{zero-*ℤ}
use borrow.Author.Tests.{ltb-false, ltb-true}
use Rattle.emp_num.specs.FracSpec.{IsQuotient}
use Rattle.emp_num.specs.Whole.{whole}
use Rattle.emp_num.specs.declared.frac.Frac.{Frac}
use Rattle.emp_num.proofs.FracOrder.{one_value}
use Rattle.emp_ast.specs.declared.tree.VarId.{VarId}
use Rattle.emp_form.specs.Form.{Form, Monomial, coefficient}
use Rattle.emp_form.proofs.Formulas.{is_zero}
use Rattle.emp_expand.specs.Factors.{factor, or_zero, fractions}
use Rattle.emp_expand.specs.declared.coefficients.Coefficients.{Coefficients}
use Rattle.emp_expand.specs.Stands.{IsSmall}
use Rattle.emp_poly.specs.Terms.{is_not_zero, is_linear_from, is_square_from}
use Rattle.emp_poly.specs.Quads.{linear_at, square_at, HasForm, IsSmallQuad}
use Rattle.emp_poly.specs.Parts.{StandsLoosely}
use Rattle.emp_poly.specs.Spread.{IsAt, linear_or, square_or, PutsConstant, PutsLinear, PutsSquare, AreCoefficients, AreSmall}
use Rattle.emp_poly.specs.declared.quad.Quad.{Quad}
use Rattle.emp_poly.proofs.QuadForms.{both_true, is_same, same_is, linear_facts, square_facts, pair_apart}

-- ---- products of variables that differ
none_some : (i : ℕ) → None ≡ Some i → ⊥
none_some i e = cc

some_none : (i : ℕ) → Some i ≡ None → ⊥
some_none i e = cc

never : false ≡ true → ⊥
never e = cc

abbrev key : Option ℕ → Option ℕ → Monomial
key u v = (u, v)

first_apart : (u v w x : Option ℕ) → (u ≡ w → ⊥) → key u v ≢ key w x
first_apart u v w x h g = h (ap (λ (m : Monomial). m.0) g)

second_apart : (u v w x : Option ℕ) → (v ≡ x → ⊥) → key u v ≢ key w x
second_apart u v w x h g = h (ap (λ (m : Monomial). m.1) g)

abbrev or_none : Option ℕ → ℕ
or_none (Some n) = n
or_none None = 0

numbers_apart : (i j : ℕ) → nat_eq i j ≡ false → Some j ≡ Some i → ⊥
numbers_apart i j h e = never (sym h ∙ (ap (λ k. nat_eq i k) (ap or_none e) ∙ same_is i))

-- ---- linear terms that are put in
pub puts_linear_one : (t : VarId × Frac) (ts : List (VarId × Frac)) (o m n : Coefficients) → PutsLinear ts o m → factor n (None, Some t.0.at) ≡ Some t.1 → ((q : Monomial) → q ≢ (None, Some t.0.at) → factor n q ≡ factor m q) → PutsLinear (t ∷ ts) o n
puts_linear_one t ts o m n h here others = record { here = λ i. go i (nat_eq t.0.at i) refl; others = λ k out. others k (out t.0.at) ∙ h.others k out }
  where
    go : (i : ℕ) (b : Bool) → nat_eq t.0.at i ≡ b → factor n (None, Some i) ≡ cond b (Some t.1) (linear_or ts i (factor o (None, Some i)))
    go i true e = sym (ap (λ (j : ℕ). factor n (None, Some j)) (is_same t.0.at i e)) ∙ here
    go i false e = others (None, Some i) (second_apart None (Some i) None (Some t.0.at) (numbers_apart t.0.at i e)) ∙ h.here i

pub puts_linear_more : (ts : List (VarId × Frac)) (left n : ℕ) (t : VarId × Frac) (o m new : Coefficients) → n + 1 ≡ left → n < length ts → t ≡ get_or ts n t → PutsLinear (drop left ts) o m → factor new (None, Some t.0.at) ≡ Some t.1 → ((q : Monomial) → q ≢ (None, Some t.0.at) → factor new q ≡ factor m q) → PutsLinear (drop n ts) o new
puts_linear_more ts left n t o m new s l e h here others =
    subst (λ us. PutsLinear us o new) (sym (drop_more ts n t l ∙ ap (λ u. u ∷ drop (n + 1) ts) (sym e))) (puts_linear_one t (drop (n + 1) ts) o m new (subst (λ k. PutsLinear (drop k ts) o m) (sym s) h) here others)

-- ---- quadratic terms that are put in
pub puts_square_one : (t : VarId × VarId × Frac) (ts : List (VarId × VarId × Frac)) (o m n : Coefficients) → PutsSquare ts o m → factor n (Some t.0.at, Some t.1.at) ≡ Some t.2 → ((q : Monomial) → q ≢ (Some t.0.at, Some t.1.at) → factor n q ≡ factor m q) → PutsSquare (t ∷ ts) o n
puts_square_one t ts o m n h here others = record { here = λ i j. go i j (nat_eq t.0.at i && nat_eq t.1.at j) refl; others = λ k out. others k (out t.0.at t.1.at) ∙ h.others k out }
  where
    go : (i j : ℕ) (b : Bool) → (nat_eq t.0.at i && nat_eq t.1.at j) ≡ b → factor n (Some i, Some j) ≡ cond b (Some t.2) (square_or ts i j (factor o (Some i, Some j)))
    go i j true e = let b = both_true (nat_eq t.0.at i) (nat_eq t.1.at j) e in sym (ap₂ (λ (u v : ℕ). factor n (Some u, Some v)) (is_same t.0.at i b.0) (is_same t.1.at j b.1)) ∙ here
    go i j false e = others (Some i, Some j) (λ g. never (sym e ∙ same (ap or_none (ap (λ (m : Monomial). m.0) g)) (ap or_none (ap (λ (m : Monomial). m.1) g)))) ∙ h.here i j
      where
        same : i ≡ t.0.at → j ≡ t.1.at → (nat_eq t.0.at i && nat_eq t.1.at j) ≡ true
        same p q = ap₂ (λ x y. nat_eq t.0.at x && nat_eq t.1.at y) p q ∙ ap₂ (λ x y. x && y) (same_is t.0.at) (same_is t.1.at)

pub puts_square_more : (ts : List (VarId × VarId × Frac)) (left n : ℕ) (t : VarId × VarId × Frac) (o m new : Coefficients) → n + 1 ≡ left → n < length ts → t ≡ get_or ts n t → PutsSquare (drop left ts) o m → factor new (Some t.0.at, Some t.1.at) ≡ Some t.2 → ((q : Monomial) → q ≢ (Some t.0.at, Some t.1.at) → factor new q ≡ factor m q) → PutsSquare (drop n ts) o new
puts_square_more ts left n t o m new s l e h here others =
    subst (λ us. PutsSquare us o new) (sym (drop_more ts n t l ∙ ap (λ u. u ∷ drop (n + 1) ts) (sym e))) (puts_square_one t (drop (n + 1) ts) o m new (subst (λ k. PutsSquare (drop k ts) o m) (sym s) h) here others)

-- ---- all parts
pub coefficients_are : (q : Quad) (ls : List (VarId × Frac)) (ss : List (VarId × VarId × Frac)) (e a b c : Coefficients) → ls ≡ q.linear → ss ≡ q.square → ((k : Monomial) → factor e k ≡ None) → PutsConstant q.constant e a → PutsLinear ls a b → PutsSquare ss b c → AreCoefficients q c
coefficients_are q ls ss e a b c el es empty pc pl ps = record {
  constant = subst (λ o. IsAt o q.constant) (sym (ps.others (None, None) (λ i j. first_apart None None (Some i) (Some j) (none_some i)) ∙ pl.others (None, None) (λ i. second_apart None None None (Some i) (none_some i)))) pc.here;
  linear = λ i. ps.others (None, Some i) (λ u v. first_apart None (Some i) (Some u) (Some v) (none_some u)) ∙ (pl.here i ∙ ap₂ (λ ts o. linear_or ts i o) el (pc.others (None, Some i) (second_apart None (Some i) None None (some_none i)) ∙ empty (None, Some i)));
  square = λ i j. ps.here i j ∙ ap₂ (λ ts o. square_or ts i j o) es (pl.others (Some i, Some j) (λ u. first_apart (Some i) (Some j) None (Some u) (some_none i)) ∙ (pc.others (Some i, Some j) (first_apart (Some i) (Some j) None None (some_none i)) ∙ empty (Some i, Some j)));
  none = λ i. ps.others (Some i, None) (λ u v. second_apart (Some i) None (Some u) (Some v) (none_some v)) ∙ (pl.others (Some i, None) (λ u. first_apart (Some i) None None (Some u) (some_none i)) ∙ (pc.others (Some i, None) (first_apart (Some i) None None None (some_none i)) ∙ empty (Some i, None)));
}

-- ---- the coefficients that are found
linear_or_zero : (ts : List (VarId × Frac)) (i : ℕ) → or_zero (linear_or ts i None) ≡ linear_at ts i
linear_or_zero [] i = refl
linear_or_zero (t ∷ ts) i = go (nat_eq t.0.at i) (linear_or_zero ts i)
  where
    go : (b : Bool) → or_zero (linear_or ts i None) ≡ linear_at ts i → or_zero (cond b (Some t.1) (linear_or ts i None)) ≡ cond b t.1 (linear_at ts i)
    go true e = refl
    go false e = e

square_or_zero : (ts : List (VarId × VarId × Frac)) (i j : ℕ) → or_zero (square_or ts i j None) ≡ square_at ts i j
square_or_zero [] i j = refl
square_or_zero (t ∷ ts) i j = go (nat_eq t.0.at i && nat_eq t.1.at j) (square_or_zero ts i j)
  where
    go : (b : Bool) → or_zero (square_or ts i j None) ≡ square_at ts i j → or_zero (cond b (Some t.2) (square_or ts i j None)) ≡ cond b t.2 (square_at ts i j)
    go true e = refl
    go false e = e

no_fraction : (x : Frac) → None ≡ Some x → ⊥
no_fraction x e = cc

not_zero_is : (z : ℤ) → is_not_zero z ≡ true → z ≢ pos 0
not_zero_is z h e = never (sym (ap is_not_zero e) ∙ h)

linear_some : (ts : List (VarId × Frac)) (least i : ℕ) → is_linear_from least ts ≡ true → (x : Frac) → linear_or ts i None ≡ Some x → x.num ≢ pos 0
linear_some [] least i h x e = absurd (no_fraction x e)
linear_some (t ∷ ts) least i h x e = let f = linear_facts t ts least h in go f.some (linear_some ts (t.0.at + 1) i f.rest x) (nat_eq t.0.at i) e
  where
    go : is_not_zero t.1.num ≡ true → (linear_or ts i None ≡ Some x → x.num ≢ pos 0) → (b : Bool) → cond b (Some t.1) (linear_or ts i None) ≡ Some x → x.num ≢ pos 0
    go some rest true e = subst (λ (x : Frac). x.num ≢ pos 0) (ap or_zero e) (not_zero_is t.1.num some)
    go some rest false e = rest e

square_some : (ts : List (VarId × VarId × Frac)) (a b i j : ℕ) → is_square_from a b ts ≡ true → (x : Frac) → square_or ts i j None ≡ Some x → x.num ≢ pos 0
square_some [] a b i j h x e = absurd (no_fraction x e)
square_some (t ∷ ts) a b i j h x e = let f = square_facts t ts a b h in go f.some (square_some ts t.0.at (t.1.at + 1) i j f.rest x) (nat_eq t.0.at i && nat_eq t.1.at j) e
  where
    go : is_not_zero t.2.num ≡ true → (square_or ts i j None ≡ Some x → x.num ≢ pos 0) → (b : Bool) → cond b (Some t.2) (square_or ts i j None) ≡ Some x → x.num ≢ pos 0
    go some rest true e = subst (λ (x : Frac). x.num ≢ pos 0) (ap or_zero e) (not_zero_is t.2.num some)
    go some rest false e = rest e

before_apart : (a b i j : ℕ) → a ≤ b → j < i → a ≡ i → b ≡ j → ⊥
before_apart a b i j h l e f = omega arith

square_before : (ts : List (VarId × VarId × Frac)) (a b i j : ℕ) → is_square_from a b ts ≡ true → j < i → square_or ts i j None ≡ None
square_before [] a b i j h l = refl
square_before (t ∷ ts) a b i j h l =
    let f = square_facts t ts a b h in
    ap (λ b. cond b (Some t.2) (square_or ts i j None)) (pair_apart t.0.at t.1.at i j (before_apart t.0.at t.1.at i j f.ordered l)) ∙ square_before ts t.0.at (t.1.at + 1) i j f.rest l

pub kept_value : (o : Option Frac) (x : Frac) → IsAt o x → or_zero o ≡ x
kept_value None x h = one_value (pos 0) (pos 1) (whole 0) x (omega (arith, ints)) refl (ap (λ z. z *ℤ pos 1) h ∙ (zero-*ℤ (pos 1) ∙ sym (zero-*ℤ x.den)))
kept_value (Some v) x h = h.0

pub kept_some : (o : Option Frac) (v x : Frac) → IsAt o v → o ≡ Some x → x.num ≢ pos 0
kept_some None v x h e = absurd (no_fraction x e)
kept_some (Some w) v x h e = subst (λ (x : Frac). x.num ≢ pos 0) (sym h.0 ∙ ap or_zero e) h.1

-- ---- forms
pub quad_stands : (q : Quad) (c : Coefficients) (f : Form) → AreCoefficients q c → HasForm q f → StandsLoosely c f
quad_stands q c f a h = record { den = h.den; values = λ k. values_at k.0 k.1; some = λ k x e. some_at k.0 k.1 x e }
  where
    values_at : (u v : Option ℕ) → IsQuotient (fractions c (u, v)) (coefficient f u v) f.den
    values_at None None = subst (λ (x : Frac). IsQuotient x f.constant f.den) (sym (kept_value (factor c (None, None)) q.constant a.constant)) h.constant
    values_at None (Some i) = subst (λ (x : Frac). IsQuotient x (f.linear i) f.den) (sym (ap or_zero (a.linear i) ∙ linear_or_zero q.linear i)) (h.linear i)
    values_at (Some i) None = subst (λ (x : Frac). IsQuotient x (pos 0) f.den) (sym (ap or_zero (a.none i))) (is_zero (pos 0) f.den refl)
    values_at (Some i) (Some j) = go (nat_lt j i) refl
      where
        go : (t : Bool) → nat_lt j i ≡ t → IsQuotient (fractions c (Some i, Some j)) (cond t (pos 0) (f.square i j)) f.den
        go true e = subst (λ (x : Frac). IsQuotient x (pos 0) f.den) (sym (ap or_zero (a.square i j ∙ square_before q.square 0 0 i j q.square_kept (ltb-true j i e)))) (is_zero (pos 0) f.den refl)
        go false e = subst (λ (x : Frac). IsQuotient x (f.square i j) f.den) (sym (ap or_zero (a.square i j) ∙ square_or_zero q.square i j)) (h.square i j (ltb-false j i e))

    some_at : (u v : Option ℕ) (x : Frac) → factor c (u, v) ≡ Some x → x.num ≢ pos 0
    some_at None None x e = kept_some (factor c (None, None)) q.constant x a.constant e
    some_at None (Some i) x e = linear_some q.linear 0 i q.linear_kept x (sym (a.linear i) ∙ e)
    some_at (Some i) None x e = absurd (no_fraction x (sym (a.none i) ∙ e))
    some_at (Some i) (Some j) x e = square_some q.square 0 0 i j q.square_kept x (sym (a.square i j) ∙ e)

-- ---- small coefficients
zero_small : IsSmall (whole 0)
zero_small = (omega arith, omega arith)

pub quad_small : (q : Quad) (c : Coefficients) → AreCoefficients q c → IsSmallQuad q → AreSmall c
quad_small q c a h k = small_at k.0 k.1
  where
    small_at : (u v : Option ℕ) → IsSmall (fractions c (u, v))
    small_at None None = subst IsSmall (sym (kept_value (factor c (None, None)) q.constant a.constant)) h.constant
    small_at None (Some i) = subst IsSmall (sym (ap or_zero (a.linear i) ∙ linear_or_zero q.linear i)) (h.linear i)
    small_at (Some i) None = subst IsSmall (sym (ap or_zero (a.none i))) zero_small
    small_at (Some i) (Some j) = go (nat_lt j i) refl
      where
        go : (t : Bool) → nat_lt j i ≡ t → IsSmall (fractions c (Some i, Some j))
        go true e = subst IsSmall (sym (ap or_zero (a.square i j ∙ square_before q.square 0 0 i j q.square_kept (ltb-true j i e)))) zero_small
        go false e = subst IsSmall (sym (ap or_zero (a.square i j) ∙ square_or_zero q.square i j)) (h.square i j (ltb-false j i e))
