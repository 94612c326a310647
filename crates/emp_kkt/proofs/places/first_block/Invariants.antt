use Rattle.std.proofs.Common.{◌≡◌}
use Rattle.emp_split.specs.Numbers.{first_with}
use Rattle.emp_kkt.specs.Items.{shape}
use Rattle.emp_kkt.proofs.Placing.{rest_with}
use Rattle.emp_kkt.proofs.places.first_block.Given as goal

abbrev pub invariant-loop-at : goal.invariant-loop-at
invariant-loop-at l = rest_with l.problem l.at l.equation ≡ first_with 0 (shape l.problem).players l.equation
