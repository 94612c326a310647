use Rattle.std.proofs.Common.{◌≡◌, drop, map}
use Rattle.emp_game.specs.Game.{names}
use Rattle.emp_kkt.specs.Items.{shape}
use Rattle.emp_kkt.proofs.places.is_visol.Given as goal

abbrev pub invariant-loop-at : goal.invariant-loop-at
invariant-loop-at l = names (map (λ e. e.at) (drop l.at l.problem.visols)) l.equation ≡ names (shape l.problem).visols l.equation
