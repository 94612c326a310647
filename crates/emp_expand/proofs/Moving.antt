-- Loops that take coefficients out of one polynomial into another.
use Rattle.std.proofs.Common.{◌≡◌, ◌≢◌, ◌⊎◌, inl, inr, Option, Some, None, sym, subst, subst₂, ◌∙◌}
use Rattle.emp_num.specs.declared.frac.Frac.{Frac}
use Rattle.emp_form.specs.Form.{Monomial}
use Rattle.emp_expand.proofs.Keys.{key_cases}

-- at a key the other's coefficient p was taken into o, or still waits
abbrev pub Moved : (Option Frac → Option Frac → Option Frac → Type 0) → Option Frac → Option Frac → Option Frac → Option Frac → Type 0
Moved Gives o p l r = ((l ≡ o) × (r ≡ p)) ⊎ ((r ≡ None) × Gives o p l)

-- the loop's step
pub moved_more : (Gives : Option Frac → Option Frac → Option Frac → Type 0) (a b l r m s : Monomial → Option Frac) (k : Monomial) (g : Frac) → ((q : Monomial) → Moved Gives (a q) (b q) (l q) (r q)) → r k ≡ Some g → s k ≡ None → ((q : Monomial) → q ≢ k → s q ≡ r q) → ((q : Monomial) → q ≢ k → m q ≡ l q) → Gives (l k) (Some g) (m k) → (q : Monomial) → Moved Gives (a q) (b q) (m q) (s q)
moved_more Gives a b l r m s k g before was gone others_s others_m here q = go (key_cases k q) (before k) (before q)
  where
    at_key : Moved Gives (a k) (b k) (l k) (r k) → Moved Gives (a k) (b k) (m k) (s k)
    at_key (inl h) = inr (gone, subst (λ o. Gives o (b k) (m k)) h.0 (subst (λ p. Gives (l k) p (m k)) (sym was ∙ h.1) here))
    at_key (inr h) = cc (was, h.0)

    go : (q ≡ k) ⊎ (q ≢ k) → Moved Gives (a k) (b k) (l k) (r k) → Moved Gives (a q) (b q) (l q) (r q) → Moved Gives (a q) (b q) (m q) (s q)
    go (inl e) at_k at_q = subst (λ z. Moved Gives (a z) (b z) (m z) (s z)) (sym e) (at_key at_k)
    go (inr ne) at_k at_q = subst₂ (λ l r. Moved Gives (a q) (b q) l r) (sym (others_m q ne)) (sym (others_s q ne)) at_q

-- at the end
pub moved_all : (Gives : Option Frac → Option Frac → Option Frac → Type 0) → (a b l r : Monomial → Option Frac) → ((q : Monomial) → Gives (a q) None (a q)) → ((q : Monomial) → Moved Gives (a q) (b q) (l q) (r q)) → ((q : Monomial) → r q ≡ None) → (q : Monomial) → Gives (a q) (b q) (l q)
moved_all Gives a b l r none all empty q = go (all q)
  where
    go : Moved Gives (a q) (b q) (l q) (r q) → Gives (a q) (b q) (l q)
    go (inl h) = subst₂ (λ p l. Gives (a q) p l) (sym (empty q) ∙ h.1) (sym h.0) (none q)
    go (inr h) = h.1

-- a step that is wide
pub moved_wide : (Gives : Option Frac → Option Frac → Option Frac → Type 0) (Wide : Option Frac → Option Frac → Type 0) (a b l r : Monomial → Option Frac) (k : Monomial) (g : Frac) → ((q : Monomial) → Moved Gives (a q) (b q) (l q) (r q)) → r k ≡ Some g → Wide (l k) (Some g) → (q : Monomial) × Wide (a q) (b q)
moved_wide Gives Wide a b l r k g all was wide = (k, go (all k))
  where
    go : Moved Gives (a k) (b k) (l k) (r k) → Wide (a k) (b k)
    go (inl h) = subst₂ Wide h.0 (sym was ∙ h.1) wide
    go (inr h) = cc (was, h.0)

-- nothing moved yet
pub moved_none : (Gives : Option Frac → Option Frac → Option Frac → Type 0) (a b l r : Monomial → Option Frac) → ((q : Monomial) → l q ≡ a q) → ((q : Monomial) → r q ≡ b q) → (q : Monomial) → Moved Gives (a q) (b q) (l q) (r q)
moved_none Gives a b l r h k q = inl (h q, k q)
