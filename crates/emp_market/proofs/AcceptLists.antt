-- Lists whose entries go by their numbers.
use Rattle.std.proofs.Common.{◌≡◌, ◌≢◌, ◌⊎◌, inl, inr, ℕ, zero, suc, ◌+◌, ◌<◌, ◌≤◌, Bool, true, false, cond, List, [], ◌∷◌, length, arith, refl, ap, ap₂, ◌∙◌}
use Rattle.std.specs.Prelude.{slice_get, Some}
use Rattle.std.specs.List.{list_any, count_by, filter}
use Rattle.std.proofs.lemmas.Bool.{or_from, or_left, or_right, cases_eq}
use Rattle.std.proofs.lemmas.Option.{same_Some}
use Rattle.emp_meaning.proofs.TieLists.{one_if, count_cons}

-- as many entries as the last number says, the first of the number before it
abbrev pub listed : {X : Type 0} → (ℕ → X) → ℕ → ℕ → List X
listed f at zero = []
listed f at (suc n) = f at ∷ listed f (suc at) n

pub length-listed : {X : Type 0} (f : ℕ → X) (at n : ℕ) → length (listed f at n) ≡ n
length-listed f at zero = refl
length-listed f at (suc n) = ap suc (length-listed f (suc at) n)

pub get-listed : {X : Type 0} (f : ℕ → X) (at n k : ℕ) → k < n → slice_get (listed f at n) k ≡ Some (f (at + k))
get-listed f at zero k l = absurd (omega arith)
get-listed f at (suc n) zero l =
    let e : at ≡ at + 0 = omega arith in
    ap (λ j. Some (f j)) e
get-listed f at (suc n) (suc k) l =
    let e : suc at + k ≡ at + suc k = omega arith in
    get-listed f (suc at) n k (omega arith) ∙ ap (λ j. Some (f j)) e

pub listed_is : {X : Type 0} (f : ℕ → X) (xs : List X) (at n : ℕ) → length xs ≡ n → ((k : ℕ) → k < n → slice_get xs k ≡ Some (f (at + k))) → xs ≡ listed f at n
listed_is f [] at zero e h = refl
listed_is f [] at (suc n) e h = absurd (omega arith)
listed_is f (x ∷ xs) at zero e h = absurd (omega arith)
listed_is f (x ∷ xs) at (suc n) e h =
    let first : at + 0 ≡ at = omega arith in
    ap₂ (λ y ys. y ∷ ys) (same_Some _ _ (h 0 (omega arith)) ∙ ap f first)
    (listed_is f xs (suc at) n (omega arith) (λ k l. let next : at + suc k ≡ suc at + k = omega arith in h (suc k) (omega arith) ∙ ap (λ j. Some (f j)) next))

-- ---- which pass a test
module _ {X : Type 0} (p : X → Bool) (f : ℕ → X) where
  pub any_none : (at n : ℕ) → ((k : ℕ) → at ≤ k → k < at + n → p (f k) ≡ false) → list_any p (listed f at n) ≡ false
  any_none at zero h = refl
  any_none at (suc n) h = or_from _ _ (h at (omega arith) (omega arith)) (any_none (suc at) n (λ k l m. h k (omega arith) (omega arith)))

  pub any_some : (at n k : ℕ) → at ≤ k → k < at + n → p (f k) ≡ true → list_any p (listed f at n) ≡ true
  any_some at zero k l m h = absurd (omega arith)
  any_some at (suc n) k l m h = go (cases_eq at k) (λ l' m'. any_some (suc at) n k l' m' h)
    where
      go : (at ≡ k) ⊎ (at ≡ k → ⊥) → (suc at ≤ k → k < suc at + n → list_any p (listed f (suc at) n) ≡ true) → list_any p (listed f at (suc n)) ≡ true
      go (inl e) rest = or_left _ _ (ap (λ j. p (f j)) e ∙ h)
      go (inr e) rest = or_right _ _ (rest (omega arith) (omega arith))

  -- ---- and how many
  pub count_none : (at n : ℕ) → ((k : ℕ) → at ≤ k → k < at + n → p (f k) ≡ false) → count_by p (listed f at n) ≡ 0
  count_none at zero h = refl
  count_none at (suc n) h =
      let c = count_cons p (f at) (listed f (suc at) n) in
      let none : one_if (p (f at)) ≡ 0 = ap one_if (h at (omega arith) (omega arith)) in
      let rest = count_none (suc at) n (λ k l m. h k (omega arith) (omega arith)) in
      omega (arith, c, none, rest)

  pub count_one : (at n k : ℕ) → at ≤ k → k < at + n → p (f k) ≡ true → ((j : ℕ) → at ≤ j → j < at + n → j ≢ k → p (f j) ≡ false) → count_by p (listed f at n) ≡ 1
  count_one at zero k l m h others = absurd (omega arith)
  count_one at (suc n) k l m h others = go (cases_eq at k) (λ l' m'. count_one (suc at) n k l' m' h (λ j a b ne. others j (omega arith) (omega arith) ne))
    where
      go : (at ≡ k) ⊎ (at ≡ k → ⊥) → (suc at ≤ k → k < suc at + n → count_by p (listed f (suc at) n) ≡ 1) → count_by p (listed f at (suc n)) ≡ 1
      go (inl e) rest =
          let c = count_cons p (f at) (listed f (suc at) n) in
          let one : one_if (p (f at)) ≡ 1 = ap one_if (ap (λ j. p (f j)) e ∙ h) in
          let none = count_none (suc at) n (λ j a b. others j (omega arith) (omega arith) (λ s. omega arith)) in
          omega (arith, c, one, none)
      go (inr e) rest =
          let c = count_cons p (f at) (listed f (suc at) n) in
          let none : one_if (p (f at)) ≡ 0 = ap one_if (others at (omega arith) (omega arith) e) in
          let r = rest (omega arith) (omega arith) in
          omega (arith, c, none, r)

-- ---- lists
pub found : {X : Type 0} (xs : List X) (i : ℕ) → i < length xs → (x : X) × (slice_get xs i ≡ Some x)
found [] i l = absurd (omega arith)
found (x ∷ xs) zero l = (x, refl)
found (x ∷ xs) (suc i) l = found xs i (omega arith)

pub filter_none : {X : Type 0} (p : X → Bool) (xs : List X) → ((x : X) → p x ≡ false) → filter p xs ≡ []
filter_none p [] h = refl
filter_none p (x ∷ xs) h = ap (λ b. cond b (x ∷ filter p xs) (filter p xs)) (h x) ∙ filter_none p xs h
