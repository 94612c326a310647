-- Sums over a tree in which no path is longer than u.
use Rattle.std.proofs.Math.Nat.{pow-suc}
use Rattle.std.proofs.Common.{◌≡◌, ℕ, zero, suc, ◌+◌, ◌*◌, ◌^◌, arith, sym, ap, ◌∙◌}

-- what n things of u units take
abbrev pub times : ℕ → ℕ → ℕ
times zero u = 0
times (suc n) u = u + times n u

pub times_is : (n u : ℕ) → times n u ≡ n * u
times_is zero u = omega arith
times_is (suc n) u = let h = times_is n u in omega arith

-- what the nodes below one take, where each takes b and no path down from it is longer than u
abbrev pub lower : ℕ → ℕ → ℕ
lower b zero = 0
lower b (suc u) = (b + lower b u) + (b + lower b u)

twice : (x b l : ℕ) → b + l + b ≡ x * b → b + ((b + l) + (b + l)) + b ≡ (x * 2) * b
twice x b l h = grind arith

-- with the node itself, and once more
pub lower_is : (b u : ℕ) → b + lower b u + b ≡ 2 ^ (u + 1) * b
lower_is b zero = omega arith
lower_is b (suc u) = let e : suc (u + 1) ≡ suc u + 1 = omega arith in twice (2 ^ (u + 1)) b (lower b u) (lower_is b u) ∙ ap (λ n. n * b) (sym (pow-suc 2 (u + 1)) ∙ ap (λ n. 2 ^ n) e)
