-- Keys of coefficients: the order tells all of them apart.
use Rattle.std.specs.Map.{lookup}
use Rattle.std.proofs.Common.{◌≡◌, ◌≢◌, ◌⊎◌, inl, inr, ℕ, ◌<◌, List, [], ◌∷◌, length, Bool, true, false, Option, Some, None, arith, refl, sym, ap, ◌∙◌}
use Rattle.std.specs.declared.cmp.Ordering.{Ordering}
use Rattle.std.specs.declared.cmp.Ordering.TheVariants.{Less, Equal, Greater}
use Rattle.std.specs.Ordering.{nat_cmp, is_eq, ordering_then}
use Rattle.std.specs.Option.{option_cmp}
use Rattle.std.proofs.lemmas.Map.Lookups.{CmpEqualImpliesEq, exact_unsigned, exact_pairs}
use Rattle.emp_form.specs.Form.{Monomial}
use Rattle.emp_expand.specs.Factors.{monomial_cmp}

exact_option : CmpEqualImpliesEq (option_cmp nat_cmp)
exact_option None None e = refl
exact_option None (Some y) e = cc
exact_option (Some x) None e = cc
exact_option (Some x) (Some y) e = ap (λ (z : ℕ). Some z) (exact_unsigned x y e)

pub exact_monomial : CmpEqualImpliesEq monomial_cmp
exact_monomial = exact_pairs (option_cmp nat_cmp) (option_cmp nat_cmp) exact_option exact_option

same_number : (x : ℕ) → nat_cmp x x ≡ Equal
same_number x = grind arith

same_option : (x : Option ℕ) → option_cmp nat_cmp x x ≡ Equal
same_option None = refl
same_option (Some x) = same_number x

pub same_key : (q : Monomial) → monomial_cmp q q ≡ Equal
same_key q = ap (λ o. ordering_then o (option_cmp nat_cmp q.1 q.1)) (same_option q.0) ∙ same_option q.1

pub apart : (k q : Monomial) → q ≢ k → is_eq (monomial_cmp k q) ≡ false
apart k q ne = go (monomial_cmp k q) refl
  where
    go : (o : Ordering) → monomial_cmp k q ≡ o → is_eq o ≡ false
    go Less e = refl
    go Equal e = absurd (ne (sym (exact_monomial k q e)))
    go Greater e = refl

option_cases : (x y : Option ℕ) → (x ≡ y) ⊎ (x ≢ y)
option_cases None None = inl refl
option_cases None (Some y) = inr (λ e. cc)
option_cases (Some x) None = inr (λ e. cc)
option_cases (Some x) (Some y) = go (nat_cases x y)
  where
    nat_cases : (x y : ℕ) → (x ≡ y) ⊎ (x ≢ y)
    nat_cases x y = grind arith

    go : (x ≡ y) ⊎ (x ≢ y) → (Some x ≡ Some y) ⊎ (Some x ≢ Some y)
    go (inl e) = inl (ap (λ (z : ℕ). Some z) e)
    go (inr h) = inr (λ e. h cc)

-- two products are one or differ
pub key_cases : (k q : Monomial) → (q ≡ k) ⊎ (q ≢ k)
key_cases k q = go (option_cases q.0 k.0) (option_cases q.1 k.1)
  where
    go : (q.0 ≡ k.0) ⊎ (q.0 ≢ k.0) → (q.1 ≡ k.1) ⊎ (q.1 ≢ k.1) → (q ≡ k) ⊎ (q ≢ k)
    go (inl e) (inl f) = inl (λ i. (e i, f i))
    go (inr h) f = inr (λ e. h (ap (λ (m : Monomial). m.0) e))
    go (inl e) (inr h) = inr (λ e. h (ap (λ (m : Monomial). m.1) e))

-- nothing is found where there is no entry
pub lookup_empty : {K X : Type 0} (test : K → Bool) (es : List (K × X)) → (0 < length es → false ≡ true) → lookup test es ≡ None
lookup_empty test [] h = refl
lookup_empty test (e ∷ es) h = let f : false ≡ true = h (omega arith) in cc
