use Rattle.std.proofs.Common.{arith, sym, ◌∙◌}
use Rattle.emp_subst.proofs.Defined.{none_defines}
use Rattle.emp_subst.proofs.Senses.{block_solves, block_solves_not}
use Rattle.emp_subst.proofs.fill.block_of.Goals as goal

pub returns-in-Some : goal.returns-in-Some
returns-in-Some c =
    (omega arith, block_solves c.args.model.now c.args.annot.now c.args.defined.now c.loop-at.at c.get.result.now c.get-in-loop-at.result.now c.args.v.at c.in-Some.sense c.requires.defined (omega arith) c.get.ensures c.get-in-loop-at.ensures (sym c.solved_sense.ensures ∙ c.in-Some.is))

pub loop-at-preserved : goal.loop-at-preserved
loop-at-preserved c =
    none_defines c.args.model.now c.args.annot.now c.args.v.at c.loop-at.at (block_solves_not c.args.model.now c.args.annot.now c.args.defined.now c.loop-at.at c.get.result.now c.get-in-loop-at.result.now c.args.v.at c.requires.defined (omega arith) c.get.ensures c.get-in-loop-at.ensures (sym c.solved_sense.ensures ∙ c.in_default.is)) c.loop-at.invariant
