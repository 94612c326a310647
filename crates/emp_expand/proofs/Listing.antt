-- Lists of products of variables.
use Rattle.std.proofs.Common.{◌≡◌, ◌⊎◌, inl, inr, ℕ, ◌+◌, ◌<◌, ◌≤◌, List, [], ◌∷◌, ◌++◌, length, get_or, take, Option, Some, None, sym, ap, subst, ◌∙◌}
use Rattle.std.proofs.lemmas.List.{take_more, take_all}
use Rattle.emp_form.specs.Form.{Monomial}
use Rattle.emp_expand.specs.Factors.{ordered, In}
use Rattle.emp_expand.specs.Joins.{WithOne, WithEach, WithOthers, WithPairs}

pub in_left : (q : Monomial) (ks ms : List Monomial) → In q ks → In q (ks ++ ms)
in_left q [] ms h = absurd h
in_left q (k ∷ ks) ms (inl e) = inl e
in_left q (k ∷ ks) ms (inr h) = inr (in_left q ks ms h)

pub in_right : (q : Monomial) (ks ms : List Monomial) → In q ms → In q (ks ++ ms)
in_right q [] ms h = h
in_right q (k ∷ ks) ms h = inr (in_right q ks ms h)

pub in_either : (q : Monomial) (ks ms : List Monomial) → In q (ks ++ ms) → In q ks ⊎ In q ms
in_either q [] ms h = inr h
in_either q (k ∷ ks) ms (inl e) = inl (inl e)
in_either q (k ∷ ks) ms (inr h) = go (in_either q ks ms h)
  where
    go : In q ks ⊎ In q ms → In q (k ∷ ks) ⊎ In q ms
    go (inl h) = inl (inr h)
    go (inr h) = inr h

-- one more of the list
pub in_taken : (q : Monomial) (ks : List Monomial) (n : ℕ) (k d : Monomial) → n < length ks → get_or ks n d ≡ k → In q (take (n + 1) ks) → In q (take n ks) ⊎ (k ≡ q)
in_taken q ks n k d h e i = go (in_either q (take n ks) (get_or ks n d ∷ []) (subst (λ xs. In q xs) (take_more ks n d h) i))
  where
    go : In q (take n ks) ⊎ In q (get_or ks n d ∷ []) → In q (take n ks) ⊎ (k ≡ q)
    go (inl h) = inl h
    go (inr (inl f)) = inr (sym e ∙ f)
    go (inr (inr f)) = absurd f

-- a variable alone
abbrev pub single : ℕ → Monomial
single i = (None, Some i)

abbrev or_zero_number : Option ℕ → ℕ
or_zero_number (Some k) = k
or_zero_number None = 0

same_some : (i j : ℕ) → Some i ≡ Some j → i ≡ j
same_some i j e = ap or_zero_number e

abbrev is_there : Option ℕ → Type 0
is_there (Some k) = Unit {0}
is_there None = ⊥

some_none : (i : ℕ) → Some i ≡ None → ⊥
some_none i e = subst is_there e tt

-- ---- the product of one variable with another
pub one_pushed : (i j : ℕ) (k : Monomial) (out new : List Monomial) → k.0 ≡ None → k.1 ≡ Some j → new ≡ out ++ ordered i j ∷ [] → WithOne i k out new
one_pushed i j k out new none some p = record {
  kept = λ q l. subst (λ xs. In q xs) (sym p) (in_left q out (ordered i j ∷ []) l);
  each = λ m e. subst (λ xs. In (ordered i m) xs) (sym p) (in_right (ordered i m) out (ordered i j ∷ []) (inl (ap (λ k. ordered i k) (same_some j m (sym some ∙ ap (λ (k : Monomial). k.1) e)))));
}

-- a pair that is no variable alone
pub not_single : (k : Monomial) (i : ℕ) → (k.1 ≡ None) ⊎ ((u : ℕ) × (k.0 ≡ Some u)) → k ≡ single i → ⊥
not_single k i (inl h) e = some_none i (sym (ap (λ (k : Monomial). k.1) e) ∙ h)
not_single k i (inr h) e = some_none h.0 (sym h.1 ∙ ap (λ (k : Monomial). k.0) e)

pub one_other : (i : ℕ) (k : Monomial) (out : List Monomial) → (k.1 ≡ None) ⊎ ((u : ℕ) × (k.0 ≡ Some u)) → WithOne i k out out
one_other i k out h = record { kept = λ q l. l; each = λ j e. absurd (not_single k j h e) }

pub others_each : (i : ℕ) (k : Monomial) (ks out new : List Monomial) → k.0 ≡ None → k.1 ≡ Some i → WithEach i ks out new → WithOthers k ks out new
others_each i k ks out new none some p = record {
  kept = p.kept;
  each = λ m j e l. subst (λ m. In (ordered m j) new) (same_some i m (sym some ∙ ap (λ (k : Monomial). k.1) e)) (p.each j l);
}

pub others_none : (k : Monomial) (ks out : List Monomial) → (k.1 ≡ None) ⊎ ((u : ℕ) × (k.0 ≡ Some u)) → WithOthers k ks out out
others_none k ks out h = record { kept = λ q l. l; each = λ i j e l. absurd (not_single k i h e) }

-- ---- the products of one variable with others
pub each_none : (i : ℕ) (ks out : List Monomial) → WithEach i (take 0 ks) out out
each_none i ks out = record { kept = λ q h. h; each = λ j h. absurd h }

pub each_more : (i : ℕ) (ks old out new : List Monomial) (n : ℕ) (k d : Monomial) → n < length ks → get_or ks n d ≡ k → WithEach i (take n ks) old out → WithOne i k out new → WithEach i (take (n + 1) ks) old new
each_more i ks old out new n k d h e w p = record {
  kept = λ q l. p.kept q (w.kept q l);
  each = λ m l. go m (in_taken (None, Some m) ks n k d h e l);
}
  where
    go : (m : ℕ) → In (None, Some m) (take n ks) ⊎ (k ≡ (None, Some m)) → In (ordered i m) new
    go m (inl l) = p.kept (ordered i m) (w.each m l)
    go m (inr f) = p.each m f

pub each_all : (i : ℕ) (ks old out : List Monomial) (n : ℕ) → length ks ≤ n → WithEach i (take n ks) old out → WithEach i ks old out
each_all i ks old out n h w = subst (λ xs. WithEach i xs old out) (take_all n ks h) w

-- ---- the products of each of some variables with others
pub pairs_none : (is ks out : List Monomial) → WithPairs (take 0 is) ks out out
pairs_none is ks out = record { kept = λ q h. h; each = λ i j h l. absurd h }

pub pairs_more : (is ks old out new : List Monomial) (n : ℕ) (k d : Monomial) → n < length is → get_or is n d ≡ k → WithPairs (take n is) ks old out → WithOthers k ks out new → WithPairs (take (n + 1) is) ks old new
pairs_more is ks old out new n k d h e w p = record {
  kept = λ q l. p.kept q (w.kept q l);
  each = λ m j l r. go m j r (in_taken (None, Some m) is n k d h e l);
}
  where
    go : (m j : ℕ) → In (None, Some j) ks → In (None, Some m) (take n is) ⊎ (k ≡ (None, Some m)) → In (ordered m j) new
    go m j r (inl l) = p.kept (ordered m j) (w.each m j l r)
    go m j r (inr f) = p.each m j f r

pub pairs_all : (is ks old out : List Monomial) (n : ℕ) → length is ≤ n → WithPairs (take n is) ks old out → WithPairs is ks old out
pairs_all is ks old out n h w = subst (λ xs. WithPairs xs ks old out) (take_all n is h) w
