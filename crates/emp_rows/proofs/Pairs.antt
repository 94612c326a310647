-- No quantity is in two pairs, so there are at most half as many pairs as quantities.
use Rattle.std.proofs.Common.{◌≡◌, ℕ, suc, ◌+◌, ◌*◌, ◌<◌, ◌≤◌, Bool, true, false, ◌||◌, eqb, eqb-true, List, [], ◌∷◌, length, get_or, All, arith, refl}
use Rattle.std.specs.List.{IsDistinct, AllByRecursion, list_any}
use Rattle.std.proofs.lemmas.Bool.{ne_eqb}
use Rattle.std.proofs.lemmas.List.Elements.{All-head, All-tail, All-cons, All-nil}
use Rattle.std.proofs.lemmas.Map.Keys.{IsDistinct-cons}
use Rattle.std.proofs.lemmas.Map.Steps.{length-le_from_distinct_below}
use Rattle.emp_rows.specs.declared.system.RowSystem.{RowSystem}
use Rattle.emp_rows.specs.Points.{IsNumber}
use Rattle.emp_rows.specs.Systems.{AllDiffer, members}
use Rattle.emp_rows.proofs.Holding.{firsts, seconds}

-- ---- numbers that differ
differ_rest : (k : ℕ) (ks : List ℕ) → AllDiffer (k ∷ ks) → AllDiffer ks
differ_rest k ks h i j l m e = h (suc i) (suc j) (omega arith) (omega arith) e

none_like : (k : ℕ) (ks : List ℕ) → ((j : ℕ) → j < length ks → k ≡ get_or ks j 0 → ⊥) → AllByRecursion (λ y. eqb k y ≡ false) ks
none_like k [] h = tt
none_like k (y ∷ ks) h = (ne_eqb k y (h 0 (omega arith)), none_like k ks (λ j l. h (suc j) (omega arith)))

nil_distinct : IsDistinct eqb []
unfolding IsDistinct
nil_distinct = tt

pub differ_distinct : (ks : List ℕ) → AllDiffer ks → IsDistinct eqb ks
differ_distinct [] h = nil_distinct
differ_distinct (k ∷ ks) h = IsDistinct-cons eqb k ks (none_like k ks (λ j l e. h 0 (suc j) (omega arith) (omega arith) e)) (differ_distinct ks (differ_rest k ks h))

-- ---- numbers from 1 to n that differ
abbrev Numbers : ℕ → List ℕ → Type 0
Numbers n ks = All (IsNumber n) ks

no_zero : (n : ℕ) (ks : List ℕ) → All (IsNumber n) ks → AllByRecursion (λ y. eqb 0 y ≡ false) ks
no_zero n [] h = tt
no_zero n (k ∷ ks) h = let f = (All-head (IsNumber n) k ks h).0 in (ne_eqb 0 k (omega arith), no_zero n ks (All-tail (IsNumber n) k ks h))

below : (n : ℕ) (ks : List ℕ) (q : ℕ) → All (IsNumber n) ks → list_any (eqb q) ks ≡ true → q < n + 1
below n [] q h e = cc
below n (k ∷ ks) q h e = go (eqb q k) refl e (below n ks q (All-tail (IsNumber n) k ks h))
  where
    go : (b : Bool) → eqb q k ≡ b → (b || list_any (eqb q) ks) ≡ true → (list_any (eqb q) ks ≡ true → q < n + 1) → q < n + 1
    go true f g ih = omega (arith, eqb-true q k f, (All-head (IsNumber n) k ks h).1)
    go false f g ih = ih g

below_all : (n : ℕ) (ks : List ℕ) (q : ℕ) → All (IsNumber n) ks → list_any (eqb q) (0 ∷ ks) ≡ true → q < n + 1
below_all n ks q h e = go (eqb q 0) refl e
  where
    go : (b : Bool) → eqb q 0 ≡ b → (b || list_any (eqb q) ks) ≡ true → q < n + 1
    go true f g = omega (arith, eqb-true q 0 f)
    go false f g = below n ks q h g

pub few_numbers : (n : ℕ) (ks : List ℕ) → All (IsNumber n) ks → IsDistinct eqb ks → length ks ≤ n
few_numbers n ks h d = omega (arith, length-le_from_distinct_below (0 ∷ ks) (n + 1) (IsDistinct-cons eqb 0 ks (no_zero n ks h) d) (λ q e. below_all n ks q h e))

-- ---- the members of pairs
members_numbers : (n : ℕ) (ps : List (ℕ × ℕ)) → All (λ p. IsNumber n p.0) ps → All (λ p. IsNumber n p.1) ps → All (IsNumber n) (members ps)
members_numbers n [] h k = All-nil (IsNumber n)
members_numbers n (p ∷ ps) h k =
    All-cons (IsNumber n) p.0 (p.1 ∷ members ps) (All-head (λ (q : ℕ × ℕ). IsNumber n q.0) p ps h)
    (All-cons (IsNumber n) p.1 (members ps) (All-head (λ (q : ℕ × ℕ). IsNumber n q.1) p ps k) (members_numbers n ps (All-tail (λ (q : ℕ × ℕ). IsNumber n q.0) p ps h) (All-tail (λ (q : ℕ × ℕ). IsNumber n q.1) p ps k)))

pub members_count : (ps : List (ℕ × ℕ)) → length (members ps) ≡ 2 * length ps
members_count [] = refl
members_count (p ∷ ps) = omega (arith, members_count ps)

-- there are at most 256 pairs
pub few_pairs : (s : RowSystem) → length s.pairs ≤ 256
few_pairs s =
    omega (arith, few_numbers (length s.quantities) (members s.pairs) (members_numbers (length s.quantities) s.pairs (firsts s) (seconds s)) (differ_distinct (members s.pairs) s.sound.apart), members_count s.pairs, s.sound.few_quantities)
