use Rattle.std.proofs.Common.{arith}
use Rattle.emp_subst.proofs.LeftLists.{own_done}
use Rattle.emp_subst.proofs.lefts.leader_own.Goals as goal

pub returns : goal.returns
returns c = own_done c.args.model.now c.args.annot.now c.loop-at.list c.args.variables.now c.loop-at.at c.requires.variables (omega arith) c.loop-at.invariant
