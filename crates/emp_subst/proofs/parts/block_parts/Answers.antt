use Rattle.std.proofs.Common.{◌+◌, take, arith, subst, sym}
use Rattle.emp_ast.specs.Parties.{block}
use Rattle.emp_owner.proofs.Lists.{get_is}
use Rattle.emp_problem.specs.ProblemOf.{AreBlocksFor}
use Rattle.emp_subst.proofs.Defined.{definition_fits, definition_at}
use Rattle.emp_subst.proofs.BlockLists.{blocks_more}
use Rattle.emp_subst.proofs.parts.block_parts.Goals as goal

pub block_part-requires-clause-entry : goal.block_part-requires-clause-entry
block_part-requires-clause-entry c =
    definition_fits c.args.model.now c.args.annot.now (block c.loop-at.at) c.get.result.now (definition_at c.args.model.now c.args.annot.now c.args.defined.now c.loop-at.at c.get.result.now c.requires.defined (omega arith) c.get.ensures)

pub loop-at-preserved : goal.loop-at-preserved
loop-at-preserved c =
    let m = c.args.model.now in
    let a = c.args.annot.now in
    let n = c.loop-at.at in
    let b = c.get-block.result.now in
    subst (λ ps. AreBlocksFor m a 0 (take (n + 1) a.blocks) ps) (sym c.in_ok-push.ensures.ok) (blocks_more m a c.loop-at.list n b c.in_ok-block_part.field-0 (omega arith) c.get-block.ensures c.loop-at.invariant (c.in_ok-block_part.ensures n (get_is a.blocks n b (omega arith) c.get-block.ensures) (definition_at m a c.args.defined.now n c.get.result.now c.requires.defined (omega arith) c.get.ensures)))
