use Rattle.std.proofs.Common.{◌++◌, ◌∙◌, ap, flat_map}
use Rattle.info_print.specs.Canonical.{block_line}
use Rattle.info_print.proofs.Flat.{flat_more, flat_end}
use Rattle.info_print.proofs.lines.write_blocks.Goals as goal

pub loop-block-preserved : goal.loop-block-preserved
loop-block-preserved c =
    flat_more (block_line c.args.model.now) c.args.blocks.now c.loop-block.block-index c.loop-block.out.items (c.args.out.now.items ++ flat_map (block_line c.args.model.now) c.args.blocks.now) c.block-item.result c.write_block.new.out.items c.loop-block-test.true
    (c.in_ok-write_block.ensures ∙ ap (λ b. c.loop-block.out.items ++ block_line c.args.model.now b) c.block-item.is)
    c.loop-block.invariant

pub returns : goal.returns
returns c = flat_end (block_line c.args.model.now) c.args.blocks.now c.loop-block.block-index c.loop-block.out.items (c.args.out.now.items ++ flat_map (block_line c.args.model.now) c.args.blocks.now) c.loop-block-test.false c.loop-block.invariant
