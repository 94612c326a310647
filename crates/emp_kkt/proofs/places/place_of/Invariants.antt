use Rattle.std.proofs.Common.{◌≡◌, ◌+◌, drop, map}
use Rattle.emp_problem.specs.Left.{place_in}
use Rattle.emp_kkt.proofs.places.place_of.Given as goal

abbrev pub invariant-loop-at : goal.invariant-loop-at
invariant-loop-at l = place_in (map (λ v. v.variable.at) l.variables) l.of.at ≡ l.at + place_in (map (λ v. v.variable.at) (drop l.at l.variables)) l.of.at
