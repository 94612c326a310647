-- Counts of names, of which 2 stands for more.
use Rattle.std.proofs.Common.{◌≡◌, ℕ, ◌+◌, min, nat_eq, arith, ap, ◌∙◌}
use Rattle.emp_owner.specs.Rules.{is_twice}
use Rattle.emp_owner.proofs.Lists.{capped_is_twice}

-- the three counts, each for itself and then all together
pub twice_in_three : (l o d a b n : ℕ) → min a 2 ≡ min l 2 → b ≡ min (a + o) 2 → n ≡ min (b + d) 2 → nat_eq n 2 ≡ is_twice (l + o + d)
twice_in_three l o d a b n h k j =
    let same : n ≡ min (l + o + d) 2 = omega arith in
    ap (λ x. nat_eq x 2) same ∙ capped_is_twice (l + o + d)

pub ruleset naming = (twice_in_three, capped_is_twice)
