-- A polynomial that is collected has the forms that its coefficients stand for.
use Rattle.std.proofs.Common.{◌≡◌, ◌≢◌, ◌⊎◌, inl, inr, ℕ, zero, suc, ◌+◌, ◌<◌, ◌≤◌, ℤ, pos, ◌<ℤ◌, Bool, true, false, cond, List, [], ◌∷◌, ◌++◌, length, get_or, take, Option, Some, None, arith, refl, sym, ap, ap₂, subst, ◌∙◌, append-nil}
use Rattle.std.specs.Prelude.{nat_lt}
use Rattle.std.specs.List.Sorted.{IsStrictlySortedBy}
use Rattle.std.proofs.lemmas.List.{take_more, take_all}
use lib.IntN.{zero-*ℤ}
use Rattle.emp_algebra.proofs.Order.{cancel_right}
use Rattle.emp_num.specs.FracSpec.{IsQuotient}
use Rattle.emp_num.specs.Whole.{whole}
use Rattle.emp_num.specs.declared.frac.Frac.{Frac}
use Rattle.emp_form.specs.Form.{Form, Monomial, coefficient}
use Rattle.emp_form.specs.Wide.{Fractions}
use Rattle.emp_expand.specs.Factors.{monomial_cmp, factor, or_zero, fractions, products_of, In}
use Rattle.emp_expand.specs.Stands.{StandsAt, Stands, IsSmall}
use Rattle.emp_expand.specs.declared.coefficients.Coefficients.{Coefficients}
use Rattle.emp_expand.proofs.Filling.{unlisted, listed_back}
use Rattle.emp_expand.proofs.Standing.{has_fractions, fraction_small}
use Rattle.emp_poly.specs.Terms.{is_linear, is_square}
use Rattle.emp_poly.specs.Quads.{linear_at, square_at, HasForm, IsSmallQuad}
use Rattle.emp_poly.specs.Parts.{IsKey, variable, linear_more, linear_part, square_more, square_part, Takes, Collected, StandsLoosely, Collects}
use Rattle.emp_poly.specs.declared.quad.Quad.{Quad}
use Rattle.emp_poly.specs.declared.collect.Parts.{Parts}
use Rattle.emp_poly.proofs.Collecting.{linear_part-append, square_part-append, rises, linear_kept, square_kept, linear_is, square_is}

-- ---- one more coefficient
pub takes_none : (u v : Option ℕ) (x : Frac) (o : Parts) → linear_more u v x [] ≡ [] → square_more u v x [] ≡ [] → Takes u v x o o
takes_none u v x o h k = record { linear = sym (ap (λ r. o.linear ++ r) h ∙ append-nil o.linear); square = sym (ap (λ r. o.square ++ r) k ∙ append-nil o.square) }

pub takes_one : (u v : Option ℕ) (x : Frac) (o : Parts) → u ≡ None → v ≡ None → Takes u v x o o
takes_one u v x o e f = takes_none u v x o (ap₂ (λ u v. linear_more u v x []) e f) (ap₂ (λ u v. square_more u v x []) e f)

pub takes_other : (u v : Option ℕ) (x : Frac) (o : Parts) (i : ℕ) → u ≡ Some i → v ≡ None → Takes u v x o o
takes_other u v x o i e f = takes_none u v x o (ap₂ (λ u v. linear_more u v x []) e f) (ap₂ (λ u v. square_more u v x []) e f)

pub takes_linear : (u v : Option ℕ) (x : Frac) (o n : Parts) (i : ℕ) → u ≡ None → v ≡ Some i → n.linear ≡ o.linear ++ (variable i, x) ∷ [] → n.square ≡ o.square → Takes u v x o n
takes_linear u v x o n i e f h k = record {
  linear = h ∙ ap (λ r. o.linear ++ r) (sym (ap₂ (λ u v. linear_more u v x []) e f));
  square = k ∙ sym (ap (λ r. o.square ++ r) (ap₂ (λ u v. square_more u v x []) e f) ∙ append-nil o.square);
}

pub takes_square : (u v : Option ℕ) (x : Frac) (o n : Parts) (i j : ℕ) → u ≡ Some i → v ≡ Some j → n.linear ≡ o.linear → n.square ≡ o.square ++ (variable i, variable j, x) ∷ [] → Takes u v x o n
takes_square u v x o n i j e f h k = record {
  linear = h ∙ sym (ap (λ r. o.linear ++ r) (ap₂ (λ u v. linear_more u v x []) e f) ∙ append-nil o.linear);
  square = k ∙ ap (λ r. o.square ++ r) (sym (ap₂ (λ u v. square_more u v x []) e f));
}

-- ---- the loop
pub collected_more : (a : Fractions) (ks : List Monomial) (n : ℕ) (k d : Monomial) (x : Frac) (o m : Parts) → n < length ks → get_or ks n d ≡ k → x ≡ a k → Collected a (take n ks) o → Takes k.0 k.1 x o m → Collected a (take (n + 1) ks) m
collected_more a ks n k d x o m h e v c t = record {
  linear = t.linear ∙ (ap₂ (λ ts y. ts ++ linear_more k.0 k.1 y []) c.linear v ∙ (sym (linear_part-append a (take n ks) k) ∙ ap (λ ms. linear_part a ms) (sym more)));
  square = t.square ∙ (ap₂ (λ ts y. ts ++ square_more k.0 k.1 y []) c.square v ∙ (sym (square_part-append a (take n ks) k) ∙ ap (λ ms. square_part a ms) (sym more)));
}
  where
    more : take (n + 1) ks ≡ take n ks ++ k ∷ []
    more = take_more ks n d h ∙ ap (λ m. take n ks ++ m ∷ []) e

-- ---- coefficients that stand for a form and are small
pub loosely : (c : Coefficients) (f : Form) → Stands c f → StandsLoosely c f
loosely c f h = record { den = h.den; values = has_fractions c f h; some = some }
  where
    some : (k : Monomial) (x : Frac) → factor c k ≡ Some x → x.num ≢ pos 0
    some k x e = let s : StandsAt (Some x) (coefficient f k.0 k.1) f.den = subst (λ o. StandsAt o (coefficient f k.0 k.1) f.den) e (h.at k) in s.1

-- ---- the keys of coefficients that stand for a form
key_of : (f : Form) (u v : Option ℕ) (x : Frac) (d : ℤ) → pos 0 <ℤ d → IsQuotient x (coefficient f u v) d → x.num ≢ pos 0 → IsKey u v
key_of f None v x d p s some = tt
key_of f (Some i) None x d p s some = absurd (some (cancel_right x.num (pos 0) d (s ∙ (zero-*ℤ x.den ∙ sym (zero-*ℤ d))) p))
key_of f (Some i) (Some j) x d p s some = go (nat_lt j i) refl s
  where
    go : (t : Bool) → nat_lt j i ≡ t → IsQuotient x (cond t (pos 0) (f.square i j)) d → nat_lt j i ≡ false
    go true e s = absurd (some (cancel_right x.num (pos 0) d (s ∙ (zero-*ℤ x.den ∙ sym (zero-*ℤ d))) p))
    go false e s = e

stands_key : (c : Coefficients) (f : Form) → StandsLoosely c f → (k : Monomial) → In k (products_of c) → IsKey k.0 k.1 × ((fractions c k).num ≢ pos 0)
stands_key c f h k i =
    let l = listed_back c k i in
    let some : (fractions c k).num ≢ pos 0 = subst (λ o. (or_zero o).num ≢ pos 0) (sym l.1) (h.some k l.0 l.1) in
    (key_of f k.0 k.1 (fractions c k) f.den h.den (h.values k) some, some)

pub kept_linear : (c : Coefficients) (f : Form) (ks : List Monomial) → StandsLoosely c f → ks ≡ products_of c → IsStrictlySortedBy monomial_cmp ks → is_linear (linear_part (fractions c) ks) ≡ true
kept_linear c f ks h e s = linear_kept (fractions c) ks 0 (rises ks s) (λ k i. (stands_key c f h k (subst (λ xs. In k xs) e i)).1) (λ k i j g. omega arith)

pub kept_square : (c : Coefficients) (f : Form) (ks : List Monomial) → StandsLoosely c f → ks ≡ products_of c → IsStrictlySortedBy monomial_cmp ks → is_square (square_part (fractions c) ks) ≡ true
kept_square c f ks h e s =
    square_kept (fractions c) ks 0 0 (rises ks s) (λ k i. (stands_key c f h k (subst (λ xs. In k xs) e i)).1) (λ k i. (stands_key c f h k (subst (λ xs. In k xs) e i)).0) (λ k i u v g. from u)
  where
    from : {v : ℕ} (u : ℕ) → (0 < u) ⊎ ((0 ≡ u) × (0 ≤ v))
    from zero = inr (refl, omega arith)
    from (suc u) = inl (omega arith)

pub collects : (c : Coefficients) (ks : List Monomial) (q : Quad) → ks ≡ products_of c → q.constant ≡ fractions c (None, None) → q.linear ≡ linear_part (fractions c) ks → q.square ≡ square_part (fractions c) ks → Collects c q
collects c ks q e ec el es = record { form = has; small = small }
  where
    none : (k : Monomial) → (In k ks → ⊥) → fractions c k ≡ whole 0
    none k out = ap or_zero (unlisted c k (λ i. out (subst (λ xs. In k xs) (sym e) i)))

    linear_found : (i : ℕ) → linear_at q.linear i ≡ fractions c (None, Some i)
    linear_found i = ap (λ ts. linear_at ts i) el ∙ linear_is (fractions c) ks i none

    square_found : (i j : ℕ) → square_at q.square i j ≡ fractions c (Some i, Some j)
    square_found i j = ap (λ ts. square_at ts i j) es ∙ square_is (fractions c) ks i j none

    not_before : (i j : ℕ) → i ≤ j → nat_lt j i ≡ false
    not_before i j l = grind arith

    has : (f : Form) → StandsLoosely c f → HasForm q f
    has f h = record {
      den = h.den;
      constant = subst (λ (x : Frac). IsQuotient x f.constant f.den) (sym ec) (h.values (None, None));
      linear = λ i. subst (λ (x : Frac). IsQuotient x (f.linear i) f.den) (sym (linear_found i)) (h.values (None, Some i));
      square = λ i j l. subst (λ (x : Frac). IsQuotient x (f.square i j) f.den) (sym (square_found i j)) (subst (λ t. IsQuotient (fractions c (Some i, Some j)) (cond t (pos 0) (f.square i j)) f.den) (not_before i j l) (h.values (Some i, Some j)));
    }

    small_at : (f : Form) → Stands c f → (k : Monomial) → IsSmall (fractions c k)
    small_at f h k = fraction_small (factor c k) (coefficient f k.0 k.1) f.den (h.at k)

    small : (f : Form) → Stands c f → IsSmallQuad q
    small f h = record {
      constant = subst IsSmall (sym ec) (small_at f h (None, None));
      linear = λ i. subst IsSmall (sym (linear_found i)) (small_at f h (None, Some i));
      square = λ i j l. subst IsSmall (sym (square_found i j)) (small_at f h (Some i, Some j));
    }

-- ---- at the end
pub whole_list : (a : Fractions) (ks : List Monomial) (n : ℕ) (parts : Parts) → length ks ≤ n → Collected a (take n ks) parts → Collected a ks parts
whole_list a ks n parts h c = subst (λ xs. Collected a xs parts) (take_all n ks h) c

pub parts_linear : (c : Coefficients) (ks : List Monomial) (parts : Parts) → ((f : Form) × StandsLoosely c f) → ks ≡ products_of c → IsStrictlySortedBy monomial_cmp ks → Collected (fractions c) ks parts → is_linear parts.linear ≡ true
parts_linear c ks parts f e s k = subst (λ ts. is_linear ts ≡ true) (sym k.linear) (kept_linear c f.0 ks f.1 e s)

pub parts_square : (c : Coefficients) (ks : List Monomial) (parts : Parts) → ((f : Form) × StandsLoosely c f) → ks ≡ products_of c → IsStrictlySortedBy monomial_cmp ks → Collected (fractions c) ks parts → is_square parts.square ≡ true
parts_square c ks parts f e s k = subst (λ ts. is_square ts ≡ true) (sym k.square) (kept_square c f.0 ks f.1 e s)

pub parts_collect : (c : Coefficients) (ks : List Monomial) (parts : Parts) (q : Quad) → ks ≡ products_of c → Collected (fractions c) ks parts → q.constant ≡ fractions c (None, None) → q.linear ≡ parts.linear → q.square ≡ parts.square → Collects c q
parts_collect c ks parts q e w ec el es = collects c ks q e ec (el ∙ w.linear) (es ∙ w.square)
