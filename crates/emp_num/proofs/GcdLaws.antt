-- The greatest common divisor as a function divides what it is taken of.
use Rattle.std.proofs.Common.{ℕ, ℤ, List, [], ◌∷◌, All, unsigned_abs}
use Prim.Native.Nat.{◌∣◌}
use Rattle.std.proofs.lemmas.Nat.Gcd.{dvd_refl, dvd_trans}
use Rattle.std.proofs.lemmas.List.Elements.{All-nil, All-cons}
use Rattle.emp_num.specs.Gcd.{gcd_of, content_from}
use Rattle.emp_num.proofs.Divisors.{IsGcd-gcd_of}

-- what a list's content, begun with g, divides
pub record Divides (c g : ℕ) (zs : List ℤ) : Type 0 where
  pub first : c ∣ g
  pub all : All (λ z. c ∣ unsigned_abs z) zs

pub content_divides : (g : ℕ) (zs : List ℤ) → Divides (content_from g zs) g zs
content_divides g [] = record { first = dvd_refl g; all = All-nil (λ z. g ∣ unsigned_abs z) }
content_divides g (z ∷ zs) =
    let h = content_divides (gcd_of g (unsigned_abs z)) zs in
    let e = IsGcd-gcd_of g (unsigned_abs z) in
    record { first = dvd_trans (content_from g (z ∷ zs)) h.first e.0; all = All-cons (λ w. content_from g (z ∷ zs) ∣ unsigned_abs w) z zs (dvd_trans (content_from g (z ∷ zs)) h.first e.1) h.all }
