use Rattle.std.proofs.Common.{All, arith, subst}
use Rattle.std.proofs.lemmas.List.{take_all}
use Rattle.std.proofs.lemmas.List.Elements.{All-more}
use Rattle.emp_share.specs.Share.{BlockPasses}
use Rattle.emp_share.proofs.share.convex_agents.Goals as goal

pub loop-at-preserved : goal.loop-at-preserved
loop-at-preserved c = All-more BlockPasses c.args.problem.now.blocks c.loop-at.at c.get.result.now (omega arith) c.loop-at.invariant (subst BlockPasses c.get.ensures c.in_default.ensures)

pub returns : goal.returns
returns c = subst (All BlockPasses) (take_all c.loop-at.at c.args.problem.now.blocks (omega arith)) c.loop-at.invariant
