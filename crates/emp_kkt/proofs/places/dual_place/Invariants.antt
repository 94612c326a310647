use Rattle.std.proofs.Common.{◌≡◌, drop, map}
use Rattle.emp_split.specs.Games.{dual_of}
use Rattle.emp_kkt.specs.Items.{shape}
use Rattle.emp_problem.specs.Problem.{place_of}
use Rattle.emp_kkt.proofs.places.dual_place.Given as goal

abbrev pub invariant-loop-at : goal.invariant-loop-at
invariant-loop-at l = dual_of (map (λ d. (place_of l.problem d.0, d.1.at)) (drop l.at l.problem.duals)) l.equation ≡ dual_of (shape l.problem).duals l.equation
