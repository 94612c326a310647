use Rattle.std.proofs.Common.{◌≡◌, ◌++◌, drop, flat_map}
use Rattle.info_print.specs.Canonical.{block_line}
use Rattle.info_print.proofs.lines.write_blocks.Given as goal

abbrev pub invariant-loop-block : goal.invariant-loop-block
invariant-loop-block l = l.out.items ++ flat_map (block_line l.model) (drop l.block-index l.blocks) ≡ l.fn.out.items ++ flat_map (block_line l.model) l.blocks
