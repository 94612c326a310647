-- Coefficients at listed products of variables.
use Rattle.std.proofs.Common.{◌≡◌, ◌≢◌, ◌⊎◌, inl, inr, ℕ, ◌+◌, ◌<◌, ◌≤◌, ◌*ℤ◌, List, [], ◌∷◌, ◌++◌, length, get_or, take, Option, Some, None, Bool, true, false, cond, Result, Ok, Err, pos, arith, refl, sym, ap, subst, subst₂, ◌∙◌}
use Rattle.std.specs.Prelude.{nat_lt}
use lib.IntN.{zero-*ℤ}
use borrow.Author.Tests.{ltb-false}
use Rattle.std.specs.Map.{lookup, keys_of}
use Rattle.std.specs.Ordering.{is_eq}
use Rattle.std.specs.declared.cmp.Ordering.{Ordering}
use Rattle.std.specs.declared.cmp.Ordering.TheVariants.{Less, Equal, Greater}
use Rattle.std.specs.BTreeMap.{is_at}
use Rattle.std.proofs.lemmas.List.{take_more, take_all}
use Rattle.emp_algebra.proofs.Order.{cancel_right}
use Rattle.emp_num.specs.Exact.{IsWide}
use Rattle.emp_num.specs.FracSpec.{IsQuotient}
use Rattle.emp_num.specs.Whole.{whole}
use Rattle.emp_num.specs.declared.frac.Frac.{Frac}
use Rattle.emp_ast.specs.declared.tree.Operator.TheVariants.{Times, Over}
use Rattle.emp_form.specs.Form.{Form, Monomial}
use Rattle.emp_form.specs.Calls.{given, divided, HasWideCall}
use Rattle.emp_form.specs.Wide.{product_at}
use Rattle.emp_form.proofs.Vanishing.{zero_left, one_left, Vanishes, OneIsZero, vanishes_product_at}
use Rattle.emp_expand.specs.Factors.{monomial_cmp, factor, or_zero, fractions, products_of, ordered, In}
use Rattle.emp_expand.specs.Stands.{Stands}
use Rattle.emp_expand.specs.Steps.{Ends}
use Rattle.emp_expand.specs.Joins.{result_at, FilledAt, Filled, FillsOne, Fills, WithPairs, Covers, Joined, TimesGives, OverGives, Kept, NodeJoined, QuotientGives}
use Rattle.emp_expand.specs.declared.coefficients.Coefficients.{Coefficients}
use Rattle.emp_expand.specs.declared.sums.PartFault.{PartFault}
use Rattle.emp_expand.specs.declared.sums.PartFault.TheVariants.{NoMemory as PartNoMemory, Wide as PartWide}
use Rattle.emp_expand.specs.declared.products.NodeFault.{NodeFault}
use Rattle.emp_form.specs.Expansion.{JoinFits}
use Rattle.emp_expand.specs.Degrees.{OnlyConstant}
use Rattle.emp_expand.proofs.Degrees.{constant_form}
use Rattle.emp_expand.proofs.Keys.{exact_monomial, same_key, key_cases}
use Rattle.emp_expand.proofs.Listing.{in_left, in_right, in_taken}
use Rattle.emp_expand.proofs.Standing.{has_fractions, zero_ends, joined_stands, joined_wide}

-- ---- the loop
pub filled_none : (over : Bool) (a b : Coefficients) (ks : List Monomial) (o : Option Frac) (q : Monomial) → o ≡ None → FilledAt over a b (take 0 ks) q o
filled_none over a b ks o q e = inr ((λ h. h), e)

pub filled_more : (over : Bool) (a b : Coefficients) (ks : List Monomial) (n : ℕ) (k d : Monomial) (old new : Coefficients) → n < length ks → get_or ks n d ≡ k → ((q : Monomial) → FilledAt over a b (take n ks) q (factor old q)) → Filled over a b k old new → (q : Monomial) → FilledAt over a b (take (n + 1) ks) q (factor new q)
filled_more over a b ks n k d old new h e before x q = go (key_cases k q) (before q)
  where
    grown : (q : Monomial) → In q (take n ks ++ get_or ks n d ∷ []) → In q (take (n + 1) ks)
    grown q i = subst (λ xs. In q xs) (sym (take_more ks n d h)) i

    go : (q ≡ k) ⊎ (q ≢ k) → FilledAt over a b (take n ks) q (factor old q) → FilledAt over a b (take (n + 1) ks) q (factor new q)
    go (inl f) r = inl (grown q (in_right q (take n ks) (get_or ks n d ∷ []) (inl (e ∙ sym f))), subst (λ z. Ends (result_at over (fractions a) (fractions b) z) (factor new z)) (sym f) x.here)
    go (inr ne) (inl r) = inl (grown q (in_left q (take n ks) (get_or ks n d ∷ []) r.0), subst (λ o. Ends (result_at over (fractions a) (fractions b) q) o) (sym (x.others q ne)) r.1)
    go (inr ne) (inr r) = inr ((λ i. out (in_taken q ks n k d h e i)), x.others q ne ∙ r.1)
      where
        out : In q (take n ks) ⊎ (k ≡ q) → ⊥
        out (inl i) = r.0 i
        out (inr f) = ne (sym f)

pub filled_wide : (over : Bool) (a b : Coefficients) (ks : List Monomial) (k : Monomial) (old new : Coefficients) (p : PartFault) → FillsOne {U = Unit {0}} over a b k old (Err p) new → Fills over a b ks (Err p)
filled_wide over a b ks k old new PartWide h = (k, h)
filled_wide over a b ks k old new PartNoMemory h = tt

pub filled_all : (over : Bool) (a b r : Coefficients) (ks : List Monomial) (n : ℕ) → length ks ≤ n → ((q : Monomial) → FilledAt over a b (take n ks) q (factor r q)) → (q : Monomial) → FilledAt over a b ks q (factor r q)
filled_all over a b r ks n h all q = subst (λ xs. FilledAt over a b xs q (factor r q)) (take_all n ks h) (all q)

-- ---- the products that have a coefficient are listed
in_keys : (q : Monomial) (es : List (Monomial × Frac)) (f : Frac) → lookup (is_at (monomial_cmp q)) es ≡ Some f → In q (keys_of es)
in_keys q [] f h = cc
in_keys q (e ∷ es) f h = go (monomial_cmp q e.0) refl (λ k. in_keys q es f k)
  where
    go : (o : Ordering) → monomial_cmp q e.0 ≡ o → (lookup (is_at (monomial_cmp q)) es ≡ Some f → In q (keys_of es)) → In q (keys_of (e ∷ es))
    go Equal s rest = inl (sym (exact_monomial q e.0 s))
    go Less s rest = inr (rest (sym (ap (λ o. cond (is_eq o) (Some e.1) (lookup (is_at (monomial_cmp q)) es)) s) ∙ h))
    go Greater s rest = inr (rest (sym (ap (λ o. cond (is_eq o) (Some e.1) (lookup (is_at (monomial_cmp q)) es)) s) ∙ h))

pub listed : (c : Coefficients) (q : Monomial) (f : Frac) → factor c q ≡ Some f → In q (products_of c)
unfolding factor products_of
listed c q f h = in_keys q c.terms.entries f h

pub unlisted : (c : Coefficients) (q : Monomial) → (In q (products_of c) → ⊥) → factor c q ≡ None
unlisted c q out = go (factor c q) refl
  where
    go : (o : Option Frac) → factor c q ≡ o → o ≡ None
    go None e = refl
    go (Some f) e = absurd (out (listed c q f e))

keys_found : (q : Monomial) (es : List (Monomial × Frac)) → In q (keys_of es) → (x : Frac) × (lookup (is_at (monomial_cmp q)) es ≡ Some x)
keys_found q [] i = absurd i
keys_found q (e ∷ es) i = go (key_cases q e.0) (λ l. keys_found q es l) i
  where
    tested : (o : Ordering) → monomial_cmp q e.0 ≡ o → ((x : Frac) × (lookup (is_at (monomial_cmp q)) es ≡ Some x)) → (x : Frac) × (lookup (is_at (monomial_cmp q)) (e ∷ es) ≡ Some x)
    tested Equal s r = (e.1, ap (λ o. cond (is_eq o) (Some e.1) (lookup (is_at (monomial_cmp q)) es)) s)
    tested Less s r = (r.0, ap (λ o. cond (is_eq o) (Some e.1) (lookup (is_at (monomial_cmp q)) es)) s ∙ r.1)
    tested Greater s r = (r.0, ap (λ o. cond (is_eq o) (Some e.1) (lookup (is_at (monomial_cmp q)) es)) s ∙ r.1)

    go : (e.0 ≡ q) ⊎ (e.0 ≢ q) → (In q (keys_of es) → (x : Frac) × (lookup (is_at (monomial_cmp q)) es ≡ Some x)) → (e.0 ≡ q) ⊎ In q (keys_of es) → (x : Frac) × (lookup (is_at (monomial_cmp q)) (e ∷ es) ≡ Some x)
    go (inl f) rest l = (e.1, ap (λ o. cond (is_eq o) (Some e.1) (lookup (is_at (monomial_cmp q)) es)) (ap (λ k. monomial_cmp q k) f ∙ same_key q))
    go (inr ne) rest (inl f) = absurd (ne f)
    go (inr ne) rest (inr l) = tested (monomial_cmp q e.0) refl (rest l)

pub listed_back : (c : Coefficients) (q : Monomial) → In q (products_of c) → (x : Frac) × (factor c q ≡ Some x)
unfolding factor products_of
listed_back c q i = keys_found q c.terms.entries i

-- ---- all of a product
pub covers : (a b : Coefficients) (ks ms old out : List Monomial) → ks ≡ products_of a → ms ≡ products_of b → old ≡ ks ++ ms → WithPairs ks ms old out → Covers a b out
covers a b ks ms old out ea eb eo w = record {
  first = λ q no_key. unlisted a q (λ i. no_key (w.kept q (subst (λ xs. In q xs) (sym eo) (in_left q ks ms (subst (λ xs. In q xs) (sym ea) i)))));
  second = λ q no_key. unlisted b q (λ i. no_key (w.kept q (subst (λ xs. In q xs) (sym eo) (in_right q ks ms (subst (λ xs. In q xs) (sym eb) i)))));
  pairs = λ i j no_key. go i j no_key (factor a (None, Some i)) (factor b (None, Some j)) refl refl;
}
  where
    go : (i j : ℕ) → (In (ordered i j) out → ⊥) → (o p : Option Frac) → factor a (None, Some i) ≡ o → factor b (None, Some j) ≡ p → (factor a (None, Some i) ≡ None) ⊎ (factor b (None, Some j) ≡ None)
    go i j no_key None p e n = inl e
    go i j no_key (Some x) None e n = inr n
    go i j no_key (Some x) (Some y) e n =
        absurd (no_key (w.each i j (subst (λ xs. In (None, Some i) xs) (sym ea) (listed a (None, Some i) x e)) (subst (λ xs. In (None, Some j) xs) (sym eb) (listed b (None, Some j) y n))))

abbrev pick : Bool → Monomial → Monomial → Monomial
pick t k q = cond t k q

vanishing : (a b : Coefficients) (ks : List Monomial) (q : Monomial) → Covers a b ks → (In q ks → ⊥) → Vanishes (product_at (fractions a) (fractions b) q.0 q.1)
vanishing a b ks q c out = vanishes_product_at (fractions a) (fractions b) q.0 q.1 (ap or_zero (c.first q out)) (ap or_zero (c.second q out)) both
  where
    zero_of : (i j : ℕ) → (factor a (None, Some i) ≡ None) ⊎ (factor b (None, Some j) ≡ None) → OneIsZero (fractions a) (fractions b) i j
    zero_of i j (inl e) = inl (ap or_zero e)
    zero_of i j (inr e) = inr (ap or_zero e)

    straight : (i j : ℕ) → nat_lt j i ≡ false → ordered i j ≡ (Some i, Some j)
    straight i j h = ap (λ t. pick t (Some j, Some i) (Some i, Some j)) h

    across : (i j : ℕ) → nat_lt j i ≡ false → ordered j i ≡ (Some i, Some j)
    across i j h = go (nat_lt i j) refl
      where
        go : (t : Bool) → nat_lt i j ≡ t → pick t (Some i, Some j) (Some j, Some i) ≡ (Some i, Some j)
        go true e = refl
        go false e = let s : i ≡ j = same i j h e in cc
          where
            same : (i j : ℕ) → nat_lt j i ≡ false → nat_lt i j ≡ false → i ≡ j
            same i j h e = grind (arith, ltb-false)

    both : (i j : ℕ) → q.0 ≡ Some i → q.1 ≡ Some j → nat_lt j i ≡ false → OneIsZero (fractions a) (fractions b) i j × OneIsZero (fractions a) (fractions b) j i
    both i j e n h =
        let at_q : (Some i, Some j) ≡ q = λ k. (sym e k, sym n k) in
        (zero_of i j (c.pairs i j (λ l. out (subst (λ k. In k ks) (straight i j h ∙ at_q) l))), zero_of j i (c.pairs j i (λ l. out (subst (λ k. In k ks) (across i j h ∙ at_q) l))))

-- ---- products and quotients
pub times_gives : (a b : Coefficients) (ks : List Monomial) (r : Result Coefficients PartFault) → Covers a b ks → Fills false a b ks r → TimesGives a b r
times_gives a b ks (Ok r) c s f g h k = joined_stands Times a b r f g h k tt (λ q. at q (s q))
  where
    at : (q : Monomial) → FilledAt false a b ks q (factor r q) → Ends (product_at (fractions a) (fractions b) q.0 q.1) (factor r q)
    at q (inl p) = p.1
    at q (inr p) = zero_ends (product_at (fractions a) (fractions b) q.0 q.1) (factor r q) (vanishing a b ks q c p.0) p.1
times_gives a b ks (Err PartWide) c s f g h k = joined_wide Times a b f g h k tt s.0 s.1
times_gives a b ks (Err PartNoMemory) c s f g h k = tt

some_constant : (b : Coefficients) (g : Form) → Stands b g → (fractions b (None, None)).num ≢ pos 0 → g.constant ≢ pos 0
some_constant b g k some e =
    some (cancel_right (fractions b (None, None)).num (pos 0) g.den (has_fractions b g k (None, None) ∙ (ap (λ z. z *ℤ (fractions b (None, None)).den) e ∙ (zero-*ℤ (fractions b (None, None)).den ∙ sym (zero-*ℤ g.den)))) k.den)

divided_zero : (x y : Frac) → x ≡ whole 0 → y.num ≢ pos 0 → Vanishes (divided (given x) (given y))
divided_zero x y e some = (narrow, (x, y, refl, refl, some, subst (λ (x : Frac). IsQuotient (whole 0) (x.num *ℤ y.den) (x.den *ℤ y.num)) (sym e) (zero-*ℤ (pos 1 *ℤ y.num) ∙ sym (ap (λ z. z *ℤ pos 1) (zero-*ℤ y.den)))))
  where
    not_wide : IsWide (pos 0 *ℤ y.den) ⊎ IsWide (pos 1 *ℤ y.num) → ⊥
    not_wide (inl w) = zero_left y.den w
    not_wide (inr w) = one_left y.num y.num_narrow w

    narrow : HasWideCall (divided (given x) (given y)) → ⊥
    narrow (inl w) = w
    narrow (inr (inl w)) = w
    narrow (inr (inr w)) = not_wide (subst₂ (λ (x y : Frac). IsWide (x.num *ℤ y.den) ⊎ IsWide (x.den *ℤ y.num)) (w.2 ∙ e) w.3 w.4)

pub over_gives : (a b : Coefficients) (ks : List Monomial) (r : Result Coefficients PartFault) → ks ≡ products_of a → (fractions b (None, None)).num ≢ pos 0 → Fills true a b ks r → OverGives a b r
over_gives a b ks (Ok r) e some s f g h k = joined_stands Over a b r f g h k (some_constant b g k some) (λ q. at q (s q))
  where
    at : (q : Monomial) → FilledAt true a b ks q (factor r q) → Ends (divided (given (fractions a q)) (given (fractions b (None, None)))) (factor r q)
    at q (inl p) = p.1
    at q (inr p) =
        zero_ends (divided (given (fractions a q)) (given (fractions b (None, None)))) (factor r q) (divided_zero (fractions a q) (fractions b (None, None)) (ap or_zero (unlisted a q (λ i. p.0 (subst (λ xs. In q xs) (sym e) i)))) some) p.1
over_gives a b ks (Err PartWide) e some s f g h k = joined_wide Over a b f g h k (some_constant b g k some) s.0 s.1
over_gives a b ks (Err PartNoMemory) e some s f g h k = tt

-- ---- the outcome as a node's
pub zero_constant : (b : Coefficients) (g : Form) (x : Frac) → Stands b g → x ≡ fractions b (None, None) → x.num ≡ pos 0 → g.constant ≡ pos 0
zero_constant b g x k e z =
    cancel_right g.constant (pos 0) x.den (sym (subst (λ (x : Frac). IsQuotient x g.constant g.den) (sym e) (has_fractions b g k (None, None))) ∙ (ap (λ n. n *ℤ g.den) z ∙ (zero-*ℤ g.den ∙ sym (zero-*ℤ x.den)))) x.positive

pub over_node : (a b : Coefficients) (x : Frac) (r : Result Coefficients PartFault) (m : Result Coefficients NodeFault) → OnlyConstant b → x ≡ fractions b (None, None) → x.num ≢ pos 0 → OverGives a b r → Kept r m → QuotientGives a b m
over_node a b x r m only e some s kept f g h k = go r m kept (s f g h k)
  where
    fits : JoinFits Over f g
    fits = (constant_form b g k only, some_constant b g k (subst (λ (x : Frac). x.num ≢ pos 0) e some))

    go : (r : Result Coefficients PartFault) (m : Result Coefficients NodeFault) → Kept r m → Joined Over f g r → NodeJoined Over f g m
    go (Ok c) (Ok d) kept j = subst (λ d. NodeJoined Over f g (Ok d)) (sym kept) (j.0, fits, j.1)
    go (Ok c) (Err n) kept j = absurd kept
    go (Err p) (Ok d) kept j = absurd kept
    go (Err PartWide) (Err n) kept j = subst (λ n. NodeJoined Over f g (Err n)) (sym kept) (fits, j)
    go (Err PartNoMemory) (Err n) kept j = subst (λ n. NodeJoined Over f g (Err n)) (sym kept) tt
