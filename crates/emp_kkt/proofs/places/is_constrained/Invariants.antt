use Rattle.std.proofs.Common.{◌≡◌, drop, map, pos}
use Rattle.emp_split.specs.Games.{has_rule}
use Rattle.emp_problem.specs.Problem.{left_of, game_rule}
use Rattle.emp_kkt.proofs.places.is_constrained.Given as goal

abbrev pub invariant-loop-at : goal.invariant-loop-at
invariant-loop-at l = has_rule (map (game_rule (pos 1) (left_of l.problem)) (drop l.at l.rules)) l.equation ≡ has_rule (map (game_rule (pos 1) (left_of l.problem)) l.rules) l.equation
