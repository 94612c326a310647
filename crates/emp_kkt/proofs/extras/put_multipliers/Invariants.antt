use Rattle.std.proofs.Common.{◌≡◌, ◌++◌, drop, map}
use Rattle.emp_kkt.specs.Items.{base_of}
use Rattle.emp_kkt.proofs.Placing.{own_multipliers}
use Rattle.emp_kkt.proofs.extras.put_multipliers.Given as goal

abbrev pub invariant-loop-at : goal.invariant-loop-at
invariant-loop-at l = map base_of l.out ++ own_multipliers l.problem l.block (drop l.at l.part.rules) ≡ map base_of l.fn.out ++ own_multipliers l.problem l.block l.part.rules
