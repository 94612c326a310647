-- How often each base variable counts in the numbers over n.
use Rattle.std.proofs.Common.{◌≡◌, ℕ, zero, suc, ◌+◌, ℤ, pos, ◌*ℤ◌, Bool, true, false, cond, ◌&&◌, List, [], ◌∷◌, ◌++◌, take, drop, refl, sym, ap, ◌∙◌, arith, nat_eq}
use lib.IntN.{*ℤ-zero}
use Rattle.emp_algebra.specs.Vector.{cell}
use Rattle.emp_algebra.proofs.Ring.{var, lit, ◌⊗◌, by_ring}
use Rattle.emp_conditions.specs.Base.{Base, range, multiplier, index_base}
use Rattle.emp_quantities.specs.Over.{raised}

-- ---- the numbers of ranges times n
abbrev pub extra_weight : ℤ → List Base → ℕ → ℤ
extra_weight n [] i = pos 1
extra_weight n (range j k ∷ bs) zero = n
extra_weight n (multiplier j e ∷ bs) zero = pos 1
extra_weight n (b ∷ bs) (suc i) = extra_weight n bs i

-- of base variable i, where the extras stand behind c others
abbrev pub weight : ℤ → ℕ → List Base → ℕ → ℤ
weight n zero bs i = extra_weight n bs i
weight n (suc c) bs zero = pos 1
weight n (suc c) bs (suc i) = weight n c bs i

one_times : (z : ℤ) → z ≡ pos 1 *ℤ z
one_times z = by_ring (z ∷ []) (var 0) (lit (pos 1) ⊗ var 0) refl

raised_cell : (n : ℤ) (bs : List Base) (xs : List ℤ) (i : ℕ) → cell (raised n bs xs) i ≡ extra_weight n bs i *ℤ cell xs i
raised_cell n [] xs i = one_times (cell xs i)
raised_cell n (range j k ∷ bs) [] zero = sym (*ℤ-zero n)
raised_cell n (range j k ∷ bs) (x ∷ xs) zero = refl
raised_cell n (multiplier j e ∷ bs) [] zero = refl
raised_cell n (multiplier j e ∷ bs) (x ∷ xs) zero = one_times x
raised_cell n (range j k ∷ bs) [] (suc i) = sym (*ℤ-zero (extra_weight n bs i))
raised_cell n (range j k ∷ bs) (x ∷ xs) (suc i) = raised_cell n bs xs i
raised_cell n (multiplier j e ∷ bs) [] (suc i) = sym (*ℤ-zero (extra_weight n bs i))
raised_cell n (multiplier j e ∷ bs) (x ∷ xs) (suc i) = raised_cell n bs xs i

pub over_cell : (n : ℤ) (c : ℕ) (bs : List Base) (xs : List ℤ) (i : ℕ) → cell (take c xs ++ raised n bs (drop c xs)) i ≡ weight n c bs i *ℤ cell xs i
over_cell n zero bs xs i = raised_cell n bs xs i
over_cell n (suc c) bs [] zero = none_left bs 0
  where
    none_left : (bs : List Base) (i : ℕ) → cell (raised n bs []) i ≡ pos 0
    none_left [] i = refl
    none_left (b ∷ bs) i = refl
over_cell n (suc c) bs [] (suc i) = none_left bs (suc i) ∙ sym (*ℤ-zero (weight n c bs i))
  where
    none_left : (bs : List Base) (i : ℕ) → cell (raised n bs []) i ≡ pos 0
    none_left [] i = refl
    none_left (b ∷ bs) i = refl
over_cell n (suc c) bs (x ∷ xs) zero = one_times x
over_cell n (suc c) bs (x ∷ xs) (suc i) = over_cell n c bs xs i

pub weight_high : (n : ℤ) (c : ℕ) (bs : List Base) (m : ℕ) → weight n c bs (c + m) ≡ extra_weight n bs m
weight_high n zero bs m = ap (extra_weight n bs) (let z : 0 + m ≡ m = omega arith in z)
weight_high n (suc c) bs m = ap (weight n (suc c) bs) (let z : suc c + m ≡ suc (c + m) = omega arith in z) ∙ weight_high n c bs m

pub multiplier_weight : (n : ℤ) (h e : ℕ) (bs : List Base) → extra_weight n bs (index_base (multiplier h e) bs) ≡ pos 1
multiplier_weight n h e [] = refl
multiplier_weight n h e (range j k ∷ bs) = multiplier_weight n h e bs
multiplier_weight n h e (multiplier i f ∷ bs) = go (multiplier_weight n h e bs) (nat_eq i h && nat_eq f e)
  where
    go : extra_weight n bs (index_base (multiplier h e) bs) ≡ pos 1 → (t : Bool) → extra_weight n (multiplier i f ∷ bs) (cond t 0 (suc (index_base (multiplier h e) bs))) ≡ pos 1
    go rest true = refl
    go rest false = rest
