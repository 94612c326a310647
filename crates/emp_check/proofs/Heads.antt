-- The tests of a ray's pairs.
use Rattle.std.proofs.Common.{◌≡◌, ℕ, ◌+◌, ◌<◌, ◌≤◌, true, List, length, get_or, drop, Some, refl}
use Rattle.std.proofs.lemmas.List.{drop_more, drop_all}
use Rattle.std.proofs.lemmas.Int.{to_z-of_z}
use Rattle.emp_num.specs.declared.frac.Frac.{Frac}
use Rattle.emp_rows.specs.declared.system.RowSystem.{RowSystem}
use Rattle.emp_rows.specs.Values.{both}
use Rattle.emp_rows.proofs.Tests.{both_true, both_false, both_none}
use Rattle.emp_check.specs.Heads.{still_holds, stills_hold}

pub stills-drop : (s : RowSystem) (fs gs : List Frac) (ps : List (ℕ × ℕ)) (i : ℕ) (d : ℕ × ℕ) → i < length ps → stills_hold s fs gs (drop i ps) ≡ both (still_holds s fs gs (get_or ps i d)) (stills_hold s fs gs (drop (i + 1) ps))
stills-drop s fs gs ps i d h = rw (drop_more ps i d h) refl

pub stills-all : (s : RowSystem) (fs gs : List Frac) (ps : List (ℕ × ℕ)) (i : ℕ) → length ps ≤ i → stills_hold s fs gs (drop i ps) ≡ Some true
stills-all s fs gs ps i h = rw (drop_all i ps h) refl

pub ruleset pairing = (to_z-of_z, both_true, both_false, both_none, stills-drop, stills-all)
