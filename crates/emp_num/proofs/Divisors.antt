-- The greatest common divisor as a function is the greatest common divisor.
use Rattle.std.proofs.Common.{ℕ, zero, suc, ◌+◌, ◌%◌, ◌<◌, ◌≤◌, ◌≡◌, ℤ, pos, List, drop, get_or, length, unsigned_abs, arith, refl, ap, sym, mod-lt, mod-eq_of_lt, zero-lt-suc, to_z-of_z}
use Rattle.std.specs.Int.{IsGcd}
use Rattle.std.proofs.lemmas.List.{drop_more, drop_all}
use Rattle.std.proofs.lemmas.Nat.Gcd.{IsGcd-from_zero, IsGcd-from_mod, same_from_IsGcd}
use Rattle.emp_num.specs.Gcd.{gcd_within, gcd_of, content_from}

-- enough of Euclid's steps give the greatest common divisor
pub IsGcd-within : (steps a b : ℕ) → b < steps → IsGcd a b (gcd_within steps a b)
IsGcd-within zero a b l = absurd (omega arith)
IsGcd-within (suc steps) a zero l = IsGcd-from_zero a zero refl
IsGcd-within (suc steps) a (suc b) l =
    let r : a % suc b < suc b = mod-lt a (omega arith) in
    IsGcd-from_mod a (suc b) (gcd_within steps (suc b) (a % suc b)) (IsGcd-within steps (suc b) (a % suc b) (omega arith))

pub IsGcd-gcd_of : (a b : ℕ) → IsGcd a b (gcd_of a b)
IsGcd-gcd_of a b = IsGcd-within (suc b) a b (omega arith)

-- a number that is the greatest common divisor is the function's
pub gcd_of_is : (a b g : ℕ) → IsGcd a b g → g ≡ gcd_of a b
gcd_of_is a b g h = same_from_IsGcd a b g (gcd_of a b) h (IsGcd-gcd_of a b)

-- 0 has every number as a divisor
pub gcd_of_zero : (b : ℕ) → gcd_of 0 b ≡ b
gcd_of_zero zero = refl
gcd_of_zero (suc b) = sym (gcd_of_is 0 (suc b) (suc b) (IsGcd-from_mod 0 (suc b) (suc b) (IsGcd-from_zero (suc b) (0 % suc b) (mod-eq_of_lt (zero-lt-suc b)))))

-- one more number of the row
pub content_from-more : (g h : ℕ) (r : List ℤ) (i : ℕ) → i < length r → IsGcd g (unsigned_abs (get_or r i (pos 0))) h → content_from h (drop (i + 1) r) ≡ content_from g (drop i r)
content_from-more g h r i l d =
    rw (drop_more r i (pos 0) l) (ap (λ n. content_from n (drop (i + 1) r)) (gcd_of_is g (unsigned_abs (get_or r i (pos 0))) h d))

pub content_from-none : (g : ℕ) (r : List ℤ) (i : ℕ) → length r ≤ i → content_from g (drop i r) ≡ g
content_from-none g r i l = rw (drop_all i r l) refl

pub ruleset folding = (to_z-of_z, content_from-more, content_from-none)
