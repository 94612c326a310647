-- Lists that are made firm by firm, and what stands in them.
use Rattle.std.proofs.Common.{◌≡◌, ℕ, zero, suc, ◌+◌, ◌<◌, List, [], ◌∷◌, ◌++◌, length, map, Some, append_assoc, sym, ap, subst, ◌∙◌, arith}
use Rattle.std.specs.List.{range_with_len, slice_get}
use Rattle.std.proofs.lemmas.Option.{none-some, same_Some}
use Rattle.std.proofs.lemmas.List.FromFn.{map-range_with_len_more, length-map-range_with_len}

-- ---- made
-- one more
pub made_more : {X : Type 0} (f : ℕ → X) (n : ℕ) → map f (range_with_len 0 (n + 1)) ≡ map f (range_with_len 0 n) ++ f n ∷ []
made_more f n = map-range_with_len_more f 0 n n (omega arith)

pub made_more_behind : {X : Type 0} (f : ℕ → X) (old : List X) (n : ℕ) → old ++ map f (range_with_len 0 (n + 1)) ≡ (old ++ map f (range_with_len 0 n)) ++ f n ∷ []
made_more_behind f old n = ap (λ xs. old ++ xs) (made_more f n) ∙ sym (append_assoc old (map f (range_with_len 0 n)) (f n ∷ []))

-- ---- what stands there
made_from_at : {X : Type 0} (f : ℕ → X) (a n k : ℕ) → k < n → slice_get (map f (range_with_len a n)) k ≡ Some (f (a + k))
made_from_at f a zero k h = absurd (omega (arith, h))
made_from_at f a (suc n) zero h = ap (λ i. Some (f i)) (omega arith)
made_from_at f a (suc n) (suc k) h = made_from_at f (a + 1) n k (omega (arith, h)) ∙ ap (λ i. Some (f i)) (omega arith)

pub made_at : {X : Type 0} (f : ℕ → X) (n k : ℕ) → k < n → slice_get (map f (range_with_len 0 n)) k ≡ Some (f k)
made_at f n k h = made_from_at f 0 n k h ∙ ap (λ i. Some (f i)) (omega arith)

pub made_length : {X : Type 0} (f : ℕ → X) (n : ℕ) → length (map f (range_with_len 0 n)) ≡ n
made_length f n = length-map-range_with_len f 0 n

pub at_before : {X : Type 0} (xs ys : List X) (k : ℕ) (x : X) → slice_get xs k ≡ Some x → slice_get (xs ++ ys) k ≡ Some x
at_before [] ys k x e = absurd (none-some x e)
at_before (y ∷ xs) ys zero x e = e
at_before (y ∷ xs) ys (suc k) x e = at_before xs ys k x e

pub at_behind : {X : Type 0} (xs ys : List X) (n k : ℕ) → length xs ≡ n → slice_get (xs ++ ys) (n + k) ≡ slice_get ys k
at_behind [] ys n k e = ap (λ i. slice_get ys i) (omega (arith, e))
at_behind (x ∷ xs) ys zero k e = absurd (omega (arith, e))
at_behind (x ∷ xs) ys (suc n) k e =
    let next : suc n + k ≡ suc (n + k) = omega arith in
    ap (λ i. slice_get (x ∷ xs ++ ys) i) next ∙ at_behind xs ys n k (omega (arith, e))

-- what is so of each and of one more is so of each when it is pushed
pub each_more : {X : Type 0} (P : ℕ → X → Type 0) (xs : List X) (y : X) → ((k : ℕ) (x : X) → slice_get xs k ≡ Some x → P k x) → P (length xs) y → (k : ℕ) (x : X) → slice_get (xs ++ y ∷ []) k ≡ Some x → P k x
each_more P [] y h one zero x e = subst (P 0) (same_Some y x e) one
each_more P [] y h one (suc k) x e = absurd (none-some x e)
each_more P (z ∷ xs) y h one zero x e = h zero x e
each_more P (z ∷ xs) y h one (suc k) x e = each_more (λ i. P (suc i)) xs y (λ i w q. h (suc i) w q) one k x e
