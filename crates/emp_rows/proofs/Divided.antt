-- A row divided by what its numbers have in common: its numbers are narrow, and it is 0 at the same points.
use Rattle.std.proofs.Common.{ℕ, zero, suc, ◌<◌, ◌≡◌, ◌↔◌, ℤ, pos, ◌+ℤ◌, ◌*ℤ◌, ◌<ℤ◌, unsigned_abs, int_div, List, [], ◌∷◌, Result, Ok, Err, IfOk, length, arith, refl, ap, sym, ◌∙◌}
use Prim.Native.Nat.{◌∣◌}
use native.Mathlib.Nat.{one-dvd}
use lib.IntN.{zero-*ℤ}
use Rattle.std.specs.List.{All}
use Rattle.std.proofs.lemmas.Int.{ints}
use Rattle.std.proofs.lemmas.Nat.Gcd.{dvd_refl, dvd_trans}
use Rattle.std.proofs.lemmas.List.Elements.{All-nil, All-cons, All-head, All-tail}
use Rattle.emp_algebra.specs.Vector.{dot, quotients}
use Rattle.emp_algebra.proofs.Order.{cancel_right}
use Rattle.emp_algebra.proofs.Ring.{var, ◌⊕◌, ◌⊗◌, by_ring}
use Rattle.emp_num.specs.Exact.{IsNarrow}
use Rattle.emp_num.specs.Gcd.{gcd_of, content_from, content_of}
use Rattle.emp_num.proofs.Gcds.{gcd_below, quot_exact}
use Rattle.emp_num.proofs.Divisors.{IsGcd-gcd_of}
use Rattle.emp_rows.specs.Affine.{IsRow, value_times, divisor_of, primitive_of}
use Rattle.emp_rows.proofs.Quotients.{quotient_narrow}

pub if_ok_weaker : {X E : Type 0} (r : Result X E) (P Q : X → Type 0) → ((x : X) → P x → Q x) → IfOk r P → IfOk r Q
if_ok_weaker (Ok x) P Q f h = f x h
if_ok_weaker (Err e) P Q f h = h

pub content_below : (g m : ℕ) (zs : List ℤ) → g < m → All (λ z. unsigned_abs z < m) zs → content_from g zs < m
content_below g m [] h a = h
content_below g m (z ∷ zs) h a =
    content_below (gcd_of g (unsigned_abs z)) m zs (gcd_below g (unsigned_abs z) m (gcd_of g (unsigned_abs z)) (IsGcd-gcd_of g (unsigned_abs z)) h (All-head (λ z. unsigned_abs z < m) z zs a)) (All-tail (λ z. unsigned_abs z < m) z zs a)

-- n divides all of them
abbrev DividesAll : ℕ → List ℤ → Type 0
DividesAll n [] = Unit {0}
DividesAll n (z ∷ zs) = (n ∣ unsigned_abs z) × DividesAll n zs

content_divides : (g : ℕ) (zs : List ℤ) → (content_from g zs ∣ g) × DividesAll (content_from g zs) zs
content_divides g [] = (dvd_refl g, tt)
content_divides g (z ∷ zs) =
    let h = content_divides (gcd_of g (unsigned_abs z)) zs in
    let k = IsGcd-gcd_of g (unsigned_abs z) in
    (dvd_trans (content_from (gcd_of g (unsigned_abs z)) zs) h.0 k.0, (dvd_trans (content_from (gcd_of g (unsigned_abs z)) zs) h.0 k.1, h.1))

pub exact : (n : ℕ) (z : ℤ) → n ∣ unsigned_abs z → int_div z (divisor_of n) *ℤ divisor_of n ≡ z
exact zero z h = quot_exact z (pos 1) (one-dvd (unsigned_abs z))
exact (suc n) z h = quot_exact z (pos (suc n)) h

pub divisor_above : (n : ℕ) → pos 0 <ℤ divisor_of n
divisor_above zero = omega (arith, ints)
divisor_above (suc n) = omega (arith, ints)

dot_quotients : (n : ℕ) (r xs : List ℤ) → DividesAll n r → dot (quotients r (divisor_of n)) xs *ℤ divisor_of n ≡ dot r xs
dot_quotients n [] xs h = zero-*ℤ (divisor_of n)
dot_quotients n (z ∷ r) [] h = zero-*ℤ (divisor_of n)
dot_quotients n (z ∷ r) (x ∷ xs) h =
    by_ring (int_div z (divisor_of n) ∷ x ∷ dot (quotients r (divisor_of n)) xs ∷ divisor_of n ∷ []) ((var 0 ⊗ var 1 ⊕ var 2) ⊗ var 3) (var 0 ⊗ var 3 ⊗ var 1 ⊕ var 2 ⊗ var 3) refl
    ∙ (ap (λ y. y *ℤ x +ℤ dot (quotients r (divisor_of n)) xs *ℤ divisor_of n) (exact n z h.0) ∙ ap (λ y. z *ℤ x +ℤ y) (dot_quotients n r xs h.1))

-- the row's value times the divisor is the value of the numbers given
pub value_is : (cells : List ℤ) (constant d : ℤ) (xs : List ℤ) → value_times (primitive_of cells constant) d xs *ℤ divisor_of (content_of (constant ∷ cells)) ≡ constant *ℤ d +ℤ dot cells xs
value_is cells constant d xs =
    let n : ℕ = content_of (constant ∷ cells) in
    let h = content_divides 0 (constant ∷ cells) in
    by_ring (int_div constant (divisor_of (content_of (constant ∷ cells))) ∷ d ∷ dot (quotients cells (divisor_of (content_of (constant ∷ cells)))) xs ∷ divisor_of (content_of (constant ∷ cells)) ∷ []) ((var 0 ⊗ var 1 ⊕ var 2) ⊗ var 3) (var 0 ⊗ var 3 ⊗ var 1 ⊕ var 2 ⊗ var 3) refl
    ∙ (ap (λ y. y *ℤ d +ℤ dot (quotients cells (divisor_of (content_of (constant ∷ cells)))) xs *ℤ divisor_of (content_of (constant ∷ cells))) (exact (content_of (constant ∷ cells)) constant h.1.0) ∙ ap (λ y. constant *ℤ d +ℤ y) (dot_quotients (content_of (constant ∷ cells)) cells xs h.1.1))

pub primitive_zeros : (cells : List ℤ) (constant d : ℤ) (xs : List ℤ) → (value_times (primitive_of cells constant) d xs ≡ pos 0) ↔ (constant *ℤ d +ℤ dot cells xs ≡ pos 0)
primitive_zeros cells constant d xs =
    let g : ℤ = divisor_of (content_of (constant ∷ cells)) in (
      λ e. sym (value_is cells constant d xs) ∙ (ap (λ v. v *ℤ divisor_of (content_of (constant ∷ cells))) e ∙ zero-*ℤ (divisor_of (content_of (constant ∷ cells)))),
      λ e. cancel_right (value_times (primitive_of cells constant) d xs) (pos 0) (divisor_of (content_of (constant ∷ cells))) (value_is cells constant d xs ∙ (e ∙ sym (zero-*ℤ (divisor_of (content_of (constant ∷ cells)))))) (divisor_above (content_of (constant ∷ cells))),
    )

narrow_part : (n : ℕ) (z : ℤ) → IsNarrow z → IsNarrow (int_div z (divisor_of n))
narrow_part zero z h = quotient_narrow z 1 h
narrow_part (suc n) z h = quotient_narrow z (suc n) h

narrow_parts : (n : ℕ) (r : List ℤ) → All IsNarrow r → All IsNarrow (quotients r (divisor_of n))
narrow_parts n [] h = All-nil IsNarrow
narrow_parts n (z ∷ r) h = All-cons IsNarrow (int_div z (divisor_of n)) (quotients r (divisor_of n)) (narrow_part n z (All-head IsNarrow z r h)) (narrow_parts n r (All-tail IsNarrow z r h))

length_parts : (r : List ℤ) (g : ℤ) → length (quotients r g) ≡ length r
length_parts [] g = refl
length_parts (z ∷ r) g = ap suc (length_parts r g)

pub primitive_row : (cells : List ℤ) (constant : ℤ) → All IsNarrow cells → IsNarrow constant → IsRow (length cells) (primitive_of cells constant)
primitive_row cells constant h k = record {
  width = length_parts cells (divisor_of (content_of (constant ∷ cells)));
  constant = narrow_part (content_of (constant ∷ cells)) constant k;
  cells = narrow_parts (content_of (constant ∷ cells)) cells h;
}
