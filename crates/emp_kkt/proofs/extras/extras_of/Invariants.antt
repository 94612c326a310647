use Rattle.std.proofs.Common.{◌≡◌, ◌++◌, drop, map}
use Rattle.emp_conditions.specs.Base.{base_slots}
use Rattle.emp_kkt.specs.Items.{shape, base_of}
use Rattle.emp_kkt.proofs.Placing.{rest_base}
use Rattle.emp_kkt.proofs.extras.extras_of.Given as goal

abbrev pub invariant-loop-at : goal.invariant-loop-at
invariant-loop-at l = map base_of l.out ++ rest_base l.problem l.at (drop l.at l.problem.blocks) ≡ base_slots (shape l.problem)
