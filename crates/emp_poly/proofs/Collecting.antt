-- Lists of terms from coefficients in order.
use Rattle.std.proofs.Common.{◌≡◌, ◌≢◌, ◌⊎◌, inl, inr, ℕ, zero, suc, ◌+◌, ◌<◌, ◌≤◌, ℤ, pos, negsuc, Bool, true, false, ◌&&◌, ◌||◌, not, cond, List, [], ◌∷◌, ◌++◌, Option, Some, None, arith, refl, sym, ap, ap₂, subst, subst₂, ◌∙◌}
use Rattle.std.specs.Prelude.{nat_lt, nat_eq}
use Rattle.std.specs.List.{AllByRecursion}
use Rattle.std.specs.List.Sorted.{IsStrictlySortedBy}
use Rattle.std.specs.Ordering.{nat_cmp, ordering_then}
use Rattle.std.specs.declared.cmp.Ordering.TheVariants.{Less, Equal, Greater}
use borrow.Author.Tests.{ltb-true}
use Rattle.emp_num.specs.Whole.{whole}
use Rattle.emp_num.specs.declared.frac.Frac.{Frac}
use Rattle.emp_ast.specs.declared.tree.VarId.{VarId}
use Rattle.emp_form.specs.Form.{Monomial}
use Rattle.emp_form.specs.Wide.{Fractions}
use Rattle.emp_expand.specs.Factors.{monomial_cmp, In}
use Rattle.emp_expand.proofs.Keys.{key_cases}
use Rattle.emp_poly.specs.Terms.{is_not_zero, is_linear_from, comes_from, is_square_from}
use Rattle.emp_poly.specs.Quads.{linear_at, square_at}
use Rattle.emp_poly.specs.Parts.{IsKey, linear_more, linear_part, square_more, square_part}

-- ---- one more at the end
linear_more-append : (u v : Option ℕ) (x : Frac) (ts rs : List (VarId × Frac)) → linear_more u v x ts ++ rs ≡ linear_more u v x (ts ++ rs)
linear_more-append None None x ts rs = refl
linear_more-append None (Some i) x ts rs = refl
linear_more-append (Some i) v x ts rs = refl

pub linear_part-append : (a : Fractions) (ks : List Monomial) (k : Monomial) → linear_part a (ks ++ k ∷ []) ≡ linear_part a ks ++ linear_more k.0 k.1 (a k) []
linear_part-append a [] k = refl
linear_part-append a (m ∷ ks) k = ap (λ ts. linear_more m.0 m.1 (a m) ts) (linear_part-append a ks k) ∙ sym (linear_more-append m.0 m.1 (a m) (linear_part a ks) (linear_more k.0 k.1 (a k) []))

square_more-append : (u v : Option ℕ) (x : Frac) (ts rs : List (VarId × VarId × Frac)) → square_more u v x ts ++ rs ≡ square_more u v x (ts ++ rs)
square_more-append None v x ts rs = refl
square_more-append (Some i) None x ts rs = refl
square_more-append (Some i) (Some j) x ts rs = refl

pub square_part-append : (a : Fractions) (ks : List Monomial) (k : Monomial) → square_part a (ks ++ k ∷ []) ≡ square_part a ks ++ square_more k.0 k.1 (a k) []
square_part-append a [] k = refl
square_part-append a (m ∷ ks) k = ap (λ ts. square_more m.0 m.1 (a m) ts) (square_part-append a ks k) ∙ sym (square_more-append m.0 m.1 (a m) (square_part a ks) (square_more k.0 k.1 (a k) []))

-- ---- order
less_lt : (i j : ℕ) → nat_cmp i j ≡ Less → i < j
less_lt i j e = go (nat_lt i j) refl
  where
    other : (t : Bool) → cond t Equal Greater ≡ Less → ⊥
    other true e = cc
    other false e = cc

    go : (t : Bool) → nat_lt i j ≡ t → i < j
    go true f = ltb-true i j f
    go false f = absurd (other (nat_eq i j) (sym (ap (λ t. cond t Less (cond (nat_eq i j) Equal Greater)) f) ∙ e))

pairs_less : (i j u v : ℕ) → monomial_cmp (Some i, Some j) (Some u, Some v) ≡ Less → (i < u) ⊎ ((i ≡ u) × (j < v))
pairs_less i j u v e = go (nat_lt i u) refl
  where
    ends : (t : Bool) → nat_eq i u ≡ t → ordering_then (cond t Equal Greater) (nat_cmp j v) ≡ Less → (i < u) ⊎ ((i ≡ u) × (j < v))
    ends true f e = inr (same i u f, less_lt j v e)
      where
        same : (i u : ℕ) → nat_eq i u ≡ true → i ≡ u
        same i u f = grind arith
    ends false f e = cc

    go : (t : Bool) → nat_lt i u ≡ t → (i < u) ⊎ ((i ≡ u) × (j < v))
    go true f = inl (ltb-true i u f)
    go false f = ends (nat_eq i u) refl (sym (ap (λ t. ordering_then (cond t Less (cond (nat_eq i u) Equal Greater)) (nat_cmp j v)) f) ∙ e)

-- each key is below those after it
abbrev pub Rises : List Monomial → Type 0
Rises [] = Unit {0}
Rises (k ∷ ks) = ((m : Monomial) → In m ks → monomial_cmp k m ≡ Less) × Rises ks

all_later : (k : Monomial) (ks : List Monomial) → AllByRecursion (λ m. monomial_cmp k m ≡ Less) ks → (m : Monomial) → In m ks → monomial_cmp k m ≡ Less
all_later k [] h m i = absurd i
all_later k (x ∷ ks) h m (inl e) = subst (λ m. monomial_cmp k m ≡ Less) e h.0
all_later k (x ∷ ks) h m (inr i) = all_later k ks h.1 m i

pub rises : (ks : List Monomial) → IsStrictlySortedBy monomial_cmp ks → Rises ks
unfolding IsStrictlySortedBy
rises [] h = tt
rises (k ∷ ks) h = (all_later k ks h.0, rises ks h.1)

not_zero : (z : ℤ) → z ≢ pos 0 → is_not_zero z ≡ true
not_zero (pos zero) h = absurd (h refl)
not_zero (pos (suc n)) h = refl
not_zero (negsuc n) h = refl

at_least : (i least : ℕ) → least ≤ i → not (nat_lt i least) ≡ true
at_least i least h = ap (λ t. not t) (not_below i least h)
  where
    not_below : (i least : ℕ) → least ≤ i → nat_lt i least ≡ false
    not_below i least h = grind arith

all_true : (a b c : Bool) → a ≡ true → b ≡ true → c ≡ true → (a && (b && c)) ≡ true
all_true a b c e f g = ap (λ t. t && (b && c)) e ∙ (ap (λ t. t && c) f ∙ g)

-- ---- linear terms
abbrev or_none : Option ℕ → ℕ
or_none (Some n) = n
or_none None = 0

abbrev single : ℕ → Monomial
single i = (None, Some i)

later_single : (k m : Monomial) (i j : ℕ) → k.0 ≡ None → k.1 ≡ Some i → m ≡ single j → monomial_cmp k m ≡ Less → i < j
later_single k m i j none some e less = less_lt i j (sym (ap₂ (λ u v. monomial_cmp (u, v) (single j)) none some) ∙ (ap (λ m. monomial_cmp k m) (sym e) ∙ less))

pub linear_kept : (a : Fractions) (ks : List Monomial) (least : ℕ) → Rises ks → ((k : Monomial) → In k ks → (a k).num ≢ pos 0) → ((k : Monomial) → In k ks → (i : ℕ) → k ≡ single i → least ≤ i) → is_linear_from least (linear_part a ks) ≡ true
linear_kept a [] least r some low = refl
linear_kept a (k ∷ ks) least r some low = go k.0 k.1 refl refl (λ least low. linear_kept a ks least r.1 (λ m i. some m (inr i)) low)
  where
    go : (u v : Option ℕ) → k.0 ≡ u → k.1 ≡ v → ((least : ℕ) → ((m : Monomial) → In m ks → (i : ℕ) → m ≡ single i → least ≤ i) → is_linear_from least (linear_part a ks) ≡ true) → is_linear_from least (linear_more u v (a k) (linear_part a ks)) ≡ true
    go None None e f rest = rest least (λ m i. low m (inr i))
    go None (Some i) e f rest =
        all_true (not (nat_lt i least)) (is_not_zero (a k).num) (is_linear_from (i + 1) (linear_part a ks)) (at_least i least (low k (inl refl) i (λ n. (e n, f n)))) (not_zero (a k).num (some k (inl refl)))
        (rest (i + 1) (λ m l j p. let less : i < j = later_single k m i j e f p (r.0 m l) in omega arith))
    go (Some i) v e f rest = rest least (λ m i. low m (inr i))

is_same : (i j : ℕ) → nat_eq i j ≡ true → i ≡ j
is_same i j e = grind arith

same_is : (i : ℕ) → nat_eq i i ≡ true
same_is i = grind arith

-- the first term of a variable is its coefficient
linear_there : (a : Fractions) (ks : List Monomial) (i : ℕ) → In (single i) ks → linear_at (linear_part a ks) i ≡ a (single i)
linear_there a [] i h = absurd h
linear_there a (k ∷ ks) i h = go k.0 k.1 refl refl (λ other. later other h (λ l. linear_there a ks i l))
  where
    later : (k ≡ single i → ⊥) → (k ≡ single i) ⊎ In (single i) ks → (In (single i) ks → linear_at (linear_part a ks) i ≡ a (single i)) → linear_at (linear_part a ks) i ≡ a (single i)
    later other (inl e) there = absurd (other e)
    later other (inr l) there = there l

    go : (u v : Option ℕ) → k.0 ≡ u → k.1 ≡ v → ((k ≡ single i → ⊥) → linear_at (linear_part a ks) i ≡ a (single i)) → linear_at (linear_more u v (a k) (linear_part a ks)) i ≡ a (single i)
    go None None e f rest = rest (λ g. let s : None ≡ Some i = sym f ∙ ap (λ (k : Monomial). k.1) g in cc)
    go None (Some j) e f rest = at_test (nat_eq j i) refl
      where
        at_test : (t : Bool) → nat_eq j i ≡ t → cond t (a k) (linear_at (linear_part a ks) i) ≡ a (single i)
        at_test true s = ap a (λ n. (e n, (f ∙ ap (λ (j : ℕ). Some j) (is_same j i s)) n))
        at_test false s = rest (λ g. let s2 : Some j ≡ Some i = sym f ∙ ap (λ (k : Monomial). k.1) g in absurd (apart j i s s2))
          where
            apart : (j i : ℕ) → nat_eq j i ≡ false → Some j ≡ Some i → ⊥
            apart j i s e = let d : j ≡ i = ap or_none e in absurd_bool (sym s ∙ (ap (λ n. nat_eq j n) (sym d) ∙ same_is j))
              where
                absurd_bool : false ≡ true → ⊥
                absurd_bool e = cc
    go (Some j) v e f rest = rest (λ g. let s : Some j ≡ None = sym e ∙ ap (λ (k : Monomial). k.0) g in cc)

linear_gone : (a : Fractions) (ks : List Monomial) (i : ℕ) → (In (single i) ks → ⊥) → linear_at (linear_part a ks) i ≡ whole 0
linear_gone a [] i h = refl
linear_gone a (k ∷ ks) i h = go k.0 k.1 refl refl (linear_gone a ks i (λ l. h (inr l)))
  where
    go : (u v : Option ℕ) → k.0 ≡ u → k.1 ≡ v → linear_at (linear_part a ks) i ≡ whole 0 → linear_at (linear_more u v (a k) (linear_part a ks)) i ≡ whole 0
    go None None e f rest = rest
    go None (Some j) e f rest = at_test (nat_eq j i) refl
      where
        at_test : (t : Bool) → nat_eq j i ≡ t → cond t (a k) (linear_at (linear_part a ks) i) ≡ whole 0
        at_test true s = absurd (h (inl (λ n. (e n, (f ∙ ap (λ (j : ℕ). Some j) (is_same j i s)) n))))
        at_test false s = rest
    go (Some j) v e f rest = rest

pub listed_or : (q : Monomial) (ks : List Monomial) → In q ks ⊎ (In q ks → ⊥)
listed_or q [] = inr (λ h. h)
listed_or q (k ∷ ks) = go (key_cases q k) (listed_or q ks)
  where
    go : (k ≡ q) ⊎ (k ≢ q) → In q ks ⊎ (In q ks → ⊥) → In q (k ∷ ks) ⊎ (In q (k ∷ ks) → ⊥)
    go (inl e) l = inl (inl e)
    go (inr ne) (inl l) = inl (inr l)
    go (inr ne) (inr no_key) = inr out
      where
        out : (k ≡ q) ⊎ In q ks → ⊥
        out (inl e) = ne e
        out (inr l) = no_key l

pub linear_is : (a : Fractions) (ks : List Monomial) (i : ℕ) → ((q : Monomial) → (In q ks → ⊥) → a q ≡ whole 0) → linear_at (linear_part a ks) i ≡ a (single i)
linear_is a ks i none = go (listed_or (single i) ks)
  where
    go : In (single i) ks ⊎ (In (single i) ks → ⊥) → linear_at (linear_part a ks) i ≡ a (single i)
    go (inl l) = linear_there a ks i l
    go (inr l) = linear_gone a ks i l ∙ sym (none (single i) l)

-- ---- quadratic terms
abbrev pair : ℕ → ℕ → Monomial
pair i j = (Some i, Some j)

later_pair : (k m : Monomial) (i j u v : ℕ) → k.0 ≡ Some i → k.1 ≡ Some j → m ≡ pair u v → monomial_cmp k m ≡ Less → (i < u) ⊎ ((i ≡ u) × (j < v))
later_pair k m i j u v first second e less = pairs_less i j u v (sym (ap₂ (λ x y. monomial_cmp (x, y) (pair u v)) first second) ∙ (ap (λ m. monomial_cmp k m) (sym e) ∙ less))

pub comes : (i j u v : ℕ) → nat_lt v u ≡ false → (i < u) ⊎ ((i ≡ u) × (j ≤ v)) → comes_from i j u v ≡ true
comes i j u v h (inl l) = ap₂ (λ s t. not s && (t || (nat_eq i u && not (nat_lt v j)))) h (below i u l)
  where
    below : (i u : ℕ) → i < u → nat_lt i u ≡ true
    below i u l = grind arith
comes i j u v h (inr l) = ap (λ t. not t && (nat_lt i u || (nat_eq i u && not (nat_lt v j)))) h ∙ go (nat_lt i u)
  where
    equal : (i u : ℕ) → i ≡ u → nat_eq i u ≡ true
    equal i u e = grind arith

    go : (t : Bool) → (t || (nat_eq i u && not (nat_lt v j))) ≡ true
    go true = refl
    go false = ap₂ (λ s t. s && t) (equal i u l.0) (at_least v j l.1)

-- at or after a pair
abbrev pub IsFrom : ℕ → ℕ → Monomial → Type 0
IsFrom i j k = (u v : ℕ) → k ≡ pair u v → (i < u) ⊎ ((i ≡ u) × (j ≤ v))

pub square_kept : (a : Fractions) (ks : List Monomial) (i j : ℕ) → Rises ks → ((k : Monomial) → In k ks → (a k).num ≢ pos 0) → ((k : Monomial) → In k ks → IsKey k.0 k.1) → ((k : Monomial) → In k ks → IsFrom i j k) → is_square_from i j (square_part a ks) ≡ true
square_kept a [] i j r some keys low = refl
square_kept a (k ∷ ks) i j r some keys low = go k.0 k.1 refl refl (λ i j low. square_kept a ks i j r.1 (λ m l. some m (inr l)) (λ m l. keys m (inr l)) low)
  where
    go : (u v : Option ℕ) → k.0 ≡ u → k.1 ≡ v → ((i j : ℕ) → ((m : Monomial) → In m ks → IsFrom i j m) → is_square_from i j (square_part a ks) ≡ true) → is_square_from i j (square_more u v (a k) (square_part a ks)) ≡ true
    go None v e f rest = rest i j (λ m l. low m (inr l))
    go (Some u) None e f rest = rest i j (λ m l. low m (inr l))
    go (Some u) (Some v) e f rest =
        all_true (comes_from i j u v) (is_not_zero (a k).num) (is_square_from u (v + 1) (square_part a ks)) (comes i j u v (subst₂ IsKey e f (keys k (inl refl))) (low k (inl refl) u v (λ n. (e n, f n)))) (not_zero (a k).num (some k (inl refl)))
        (rest u (v + 1) (λ m l x y p. after (later_pair k m u v x y e f p (r.0 m l))))
      where
        after : {u v x y : ℕ} → (u < x) ⊎ ((u ≡ x) × (v < y)) → (u < x) ⊎ ((u ≡ x) × (v + 1 ≤ y))
        after (inl h) = inl h
        after (inr h) = inr (h.0, omega (arith, h.1))

both_true : (a b : Bool) → (a && b) ≡ true → (a ≡ true) × (b ≡ true)
both_true true b h = (refl, h)
both_true false b h = absurd (never h)
  where
    never : false ≡ true → ⊥
    never e = cc

square_there : (a : Fractions) (ks : List Monomial) (i j : ℕ) → In (pair i j) ks → square_at (square_part a ks) i j ≡ a (pair i j)
square_there a [] i j h = absurd h
square_there a (k ∷ ks) i j h = go k.0 k.1 refl refl (λ other. later other h (λ l. square_there a ks i j l))
  where
    later : (k ≡ pair i j → ⊥) → (k ≡ pair i j) ⊎ In (pair i j) ks → (In (pair i j) ks → square_at (square_part a ks) i j ≡ a (pair i j)) → square_at (square_part a ks) i j ≡ a (pair i j)
    later other (inl e) there = absurd (other e)
    later other (inr l) there = there l

    go : (u v : Option ℕ) → k.0 ≡ u → k.1 ≡ v → ((k ≡ pair i j → ⊥) → square_at (square_part a ks) i j ≡ a (pair i j)) → square_at (square_more u v (a k) (square_part a ks)) i j ≡ a (pair i j)
    go None v e f rest = rest (λ g. let s : None ≡ Some i = sym e ∙ ap (λ (k : Monomial). k.0) g in cc)
    go (Some u) None e f rest = rest (λ g. let s : None ≡ Some j = sym f ∙ ap (λ (k : Monomial). k.1) g in cc)
    go (Some u) (Some v) e f rest = at_test (nat_eq u i && nat_eq v j) refl
      where
        at_test : (t : Bool) → (nat_eq u i && nat_eq v j) ≡ t → cond t (a k) (square_at (square_part a ks) i j) ≡ a (pair i j)
        at_test true s = let b = both_true (nat_eq u i) (nat_eq v j) s in ap a (λ n. ((e ∙ ap (λ (j : ℕ). Some j) (is_same u i b.0)) n, (f ∙ ap (λ (j : ℕ). Some j) (is_same v j b.1)) n))
        at_test false s = rest (λ g. never (sym s ∙ same (ap or_none (sym e ∙ ap (λ (k : Monomial). k.0) g)) (ap or_none (sym f ∙ ap (λ (k : Monomial). k.1) g))))
          where
            never : false ≡ true → ⊥
            never e = cc

            same : u ≡ i → v ≡ j → (nat_eq u i && nat_eq v j) ≡ true
            same p q = ap₂ (λ x y. nat_eq u x && nat_eq v y) (sym p) (sym q) ∙ ap₂ (λ x y. x && y) (same_is u) (same_is v)

square_gone : (a : Fractions) (ks : List Monomial) (i j : ℕ) → (In (pair i j) ks → ⊥) → square_at (square_part a ks) i j ≡ whole 0
square_gone a [] i j h = refl
square_gone a (k ∷ ks) i j h = go k.0 k.1 refl refl (square_gone a ks i j (λ l. h (inr l)))
  where
    go : (u v : Option ℕ) → k.0 ≡ u → k.1 ≡ v → square_at (square_part a ks) i j ≡ whole 0 → square_at (square_more u v (a k) (square_part a ks)) i j ≡ whole 0
    go None v e f rest = rest
    go (Some u) None e f rest = rest
    go (Some u) (Some v) e f rest = at_test (nat_eq u i && nat_eq v j) refl
      where
        at_test : (t : Bool) → (nat_eq u i && nat_eq v j) ≡ t → cond t (a k) (square_at (square_part a ks) i j) ≡ whole 0
        at_test true s = let b = both_true (nat_eq u i) (nat_eq v j) s in absurd (h (inl (λ n. ((e ∙ ap (λ (j : ℕ). Some j) (is_same u i b.0)) n, (f ∙ ap (λ (j : ℕ). Some j) (is_same v j b.1)) n))))
        at_test false s = rest

pub square_is : (a : Fractions) (ks : List Monomial) (i j : ℕ) → ((q : Monomial) → (In q ks → ⊥) → a q ≡ whole 0) → square_at (square_part a ks) i j ≡ a (pair i j)
square_is a ks i j none = go (listed_or (pair i j) ks)
  where
    go : In (pair i j) ks ⊎ (In (pair i j) ks → ⊥) → square_at (square_part a ks) i j ≡ a (pair i j)
    go (inl l) = square_there a ks i j l
    go (inr l) = square_gone a ks i j l ∙ sym (none (pair i j) l)
