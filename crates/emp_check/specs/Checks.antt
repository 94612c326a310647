-- The order of the checker's tests.
use Rattle.std.specs.Prelude.{◌≡◌, ℕ, Bool, true, false, cond, ◌&&◌, nat_eq, List, [], ◌∷◌, length, Option, Some, None}
use Rattle.emp_num.specs.Ratio.{Ratio}
use Rattle.emp_rows.specs.declared.affine.Affine.{Affine}
use Rattle.emp_rows.specs.declared.system.RowSystem.{RowSystem}
use Rattle.emp_rows.specs.Values.{measured}
use Rattle.emp_cert.specs.declared.cert.Cert.{Cert}
use Rattle.emp_cert.specs.declared.cert.Verdict.{Verdict}
use Rattle.emp_cert.specs.declared.cert.Verdict.TheVariants.{Point, Missing, Best, Unbounded}
use Rattle.emp_check.specs.declared.outcome.Checked.{Checked}
use Rattle.emp_check.specs.declared.outcome.Checked.TheVariants.{Accepted, Rejected}
use Rattle.emp_check.specs.declared.outcome.Why.TheVariants.{Sizes, Pairs, Kind}
use Rattle.emp_check.specs.Levels.{Level, nothing, value, too_wide}
use Rattle.emp_check.specs.Tests.{and_then}
use Rattle.emp_check.specs.Trees.{at_node, nodes_test}
use Rattle.emp_check.specs.Heads.{point_test, ray_test}

abbrev pub sizes_fit : RowSystem → Cert → Bool
sizes_fit s c = nat_eq c.base s.base && (nat_eq c.quantities (length s.quantities) && nat_eq c.pairs (length s.pairs))

-- the same pairs in order
abbrev pub same_pairs : List (ℕ × ℕ) → List (ℕ × ℕ) → Bool
same_pairs [] [] = true
same_pairs [] (q ∷ qs) = false
same_pairs (p ∷ ps) [] = false
same_pairs (p ∷ ps) (q ∷ qs) = (nat_eq p.0 q.0 && nat_eq p.1 q.1) && same_pairs ps qs

abbrev pub links_fit : RowSystem → Option (List (ℕ × ℕ)) → Bool
links_fit s None = true
links_fit s (Some ps) = same_pairs ps s.pairs

-- what bounds are held against, by the objective's value
abbrev pub level_by : Option Ratio → Level
level_by None = too_wide
level_by (Some v) = value v

abbrev pub verdict_checked : RowSystem → Option Affine → Verdict → Checked
verdict_checked s None (Point fs) = at_node 0 (point_test s fs) Accepted
verdict_checked s (Some r) (Point fs) = Rejected 0 Kind
verdict_checked s o (Missing t) = nodes_test s nothing 1 (Some []) t.nodes
verdict_checked s None (Best fs t) = Rejected 0 Kind
verdict_checked s (Some r) (Best fs t) = at_node 0 (point_test s fs) (nodes_test s (level_by (measured false r fs)) 1 (Some []) t.nodes)
verdict_checked s None (Unbounded fs gs) = Rejected 0 Kind
verdict_checked s (Some r) (Unbounded fs gs) = at_node 0 (and_then (point_test s fs) (ray_test s r fs gs)) Accepted

-- the sizes, the pairs that are named, and then the verdict
abbrev pub checked : RowSystem → Cert → Checked
checked s c = cond (sizes_fit s c) (cond (links_fit s c.links) (verdict_checked s s.objective c.verdict) (Rejected 0 Pairs)) (Rejected 0 Sizes)

-- ---- what an accepted certificate names
-- the pairs that are named, where some are, are the system's
abbrev pub LinksAre : RowSystem → Option (List (ℕ × ℕ)) → Type 0
LinksAre s None = Unit {0}
LinksAre s (Some ps) = ps ≡ s.pairs

pub record SizesAre (s : RowSystem) (c : Cert) : Type 0 where
  pub base : c.base ≡ s.base
  pub quantities : c.quantities ≡ length s.quantities
  pub pairs : c.pairs ≡ length s.pairs
