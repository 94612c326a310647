use Rattle.std.proofs.Common.{◌++◌, flat_map}
use Rattle.info_print.specs.Canonical.{pair_words}
use Rattle.info_print.proofs.Flat.{flat_more, flat_end}
use Rattle.info_print.proofs.names.write_pairs.Goals as goal

pub loop-pair-preserved : goal.loop-pair-preserved
loop-pair-preserved c =
    flat_more (pair_words c.args.model.now) c.args.pairs.now c.loop-pair.pair-index c.loop-pair.out.items (c.args.out.now.items ++ flat_map (pair_words c.args.model.now) c.args.pairs.now) _ c.write_pair.new.out.items c.loop-pair-test.true c.in_ok-write_pair.ensures c.loop-pair.invariant

pub returns : goal.returns
returns c = flat_end (pair_words c.args.model.now) c.args.pairs.now c.loop-pair.pair-index c.loop-pair.out.items (c.args.out.now.items ++ flat_map (pair_words c.args.model.now) c.args.pairs.now) c.loop-pair-test.false c.loop-pair.invariant
