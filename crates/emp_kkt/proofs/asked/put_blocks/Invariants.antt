use Rattle.std.proofs.Common.{◌≡◌, ◌++◌, drop}
use Rattle.emp_kkt.specs.Items.{blocks_asked}
use Rattle.emp_kkt.proofs.asked.put_blocks.Given as goal

abbrev pub invariant-loop-at : goal.invariant-loop-at
invariant-loop-at l = l.out ++ blocks_asked l.problem l.at (drop l.at l.problem.blocks) ≡ l.fn.out ++ blocks_asked l.problem 0 l.problem.blocks
