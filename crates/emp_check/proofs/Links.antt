-- The comparison of the pairs.
use Rattle.std.proofs.Common.{◌≡◌, ℕ, ◌+◌, ◌<◌, ◌≤◌, true, ◌&&◌, nat_eq, List, length, get_or, drop, arith, refl}
use Rattle.std.proofs.lemmas.Bool.{ne_eqb}
use Rattle.std.proofs.lemmas.List.{drop_more, drop_all}
use Rattle.emp_check.specs.Checks.{same_pairs}

pub same-drop : (ps qs : List (ℕ × ℕ)) (i : ℕ) (d e : ℕ × ℕ) → i < length ps → length ps ≡ length qs → same_pairs (drop i ps) (drop i qs) ≡ ((nat_eq (get_or ps i d).0 (get_or qs i e).0 && nat_eq (get_or ps i d).1 (get_or qs i e).1) && same_pairs (drop (i + 1) ps) (drop (i + 1) qs))
same-drop ps qs i d e h l =
    let k : i < length qs = omega arith in
    rw (drop_more ps i d h, drop_more qs i e k) refl

pub same-all : (ps qs : List (ℕ × ℕ)) (i : ℕ) → length ps ≤ i → length ps ≡ length qs → same_pairs (drop i ps) (drop i qs) ≡ true
same-all ps qs i h l = let k : length qs ≤ i = omega arith in rw (drop_all i ps h, drop_all i qs k) refl

pub ruleset linking = (same-drop, same-all, ne_eqb)
