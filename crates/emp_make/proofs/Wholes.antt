-- Whole numbers as fractions.
use Rattle.std.proofs.Common.{◌≡◌, ℕ, ◌<◌, ◌^◌, ℤ, pos, Bool, true, false, ltb, refl, sym, subst, arith}
use Rattle.std.proofs.lemmas.Bool.{true≢false, lt-ltb}
use Rattle.std.proofs.lemmas.Int.{ints}
use Rattle.emp_num.specs.declared.frac.Frac.{Frac}
use Rattle.emp_num.specs.FracSpec.{IsQuotient}
use Rattle.emp_num.specs.Whole.{whole, whole_by}
use Rattle.emp_num.proofs.FracOrder.{one_value}

whole_quotient : (n : ℕ) → n < 2 ^ 126 → IsQuotient (whole n) (pos n) (pos 1)
whole_quotient n small = go (ltb n (2 ^ 126)) refl (lt-ltb n (2 ^ 126) small)
  where
    go : (b : Bool) (e : ltb n (2 ^ 126) ≡ b) → b ≡ true → IsQuotient (whole_by n b e) (pos n) (pos 1)
    go true e t = refl
    go false e t = absurd (true≢false (sym t))

-- a quotient by 1 is the whole number
pub is_whole : (n : ℕ) (z : ℤ) (f : Frac) → n < 2 ^ 126 → z ≡ pos n → IsQuotient f z (pos 1) → f ≡ whole n
is_whole n z f small e q = one_value (pos n) (pos 1) f (whole n) (omega (arith, ints)) (subst (λ x. IsQuotient f x (pos 1)) e q) (whole_quotient n small)
