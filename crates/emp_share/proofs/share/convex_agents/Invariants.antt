use Rattle.std.proofs.Common.{All, take}
use Rattle.emp_share.specs.Share.{BlockPasses}
use Rattle.emp_share.proofs.share.convex_agents.Given as goal

abbrev pub invariant-loop-at : goal.invariant-loop-at
invariant-loop-at l = All BlockPasses (take l.at l.problem.blocks)
