-- Names of a model by number, and the first bytes of a name.
use Rattle.std.proofs.Common.{◌≡◌, ℕ, zero, suc, ◌<◌, ◌≤◌, List, [], ◌∷◌, length, map, take, slice_index_or, refl, ap, ◌∙◌, arith}
use Prim.Native.Nat.{min}
use Rattle.std.proofs.lemmas.List.{take_min}

pub take_short : (n : ℕ) (xs : List ℕ) → take (min (length xs) n) xs ≡ take n xs
take_short n xs = let e : min (length xs) n ≡ min n (length xs) = omega arith in ap (λ k. take k xs) e ∙ take_min n xs

-- the value of a list's entry, and the default behind the list
pub mapped_at : {X : Type 0} (f : X → List ℕ) (xs : List X) (i : ℕ) (x : X) → i < length xs → x ≡ slice_index_or xs i x → f x ≡ slice_index_or (map f xs) i []
mapped_at f [] i x h e = absurd (omega arith)
mapped_at f (y ∷ ys) zero x h e = ap f e
mapped_at f (y ∷ ys) (suc i) x h e = mapped_at f ys i x (omega arith) e

pub none_at : {X : Type 0} (f : X → List ℕ) (xs : List X) (i : ℕ) → length xs ≤ i → [] ≡ slice_index_or (map f xs) i []
none_at f [] zero h = refl
none_at f [] (suc i) h = refl
none_at f (y ∷ ys) zero h = absurd (omega arith)
none_at f (y ∷ ys) (suc i) h = none_at f ys i (omega arith)

pub ruleset cutting = (take_short)

pub ruleset naming = (mapped_at, none_at)
