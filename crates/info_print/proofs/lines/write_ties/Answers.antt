use Rattle.std.proofs.Common.{◌++◌, flat_map}
use Rattle.info_print.specs.Canonical.{tie_line}
use Rattle.info_print.proofs.Flat.{flat_more, flat_end}
use Rattle.info_print.proofs.lines.write_ties.Goals as goal

pub loop-tie-preserved : goal.loop-tie-preserved
loop-tie-preserved c =
    flat_more (tie_line c.args.word.now c.args.model.now) c.args.ties.now c.loop-tie.tie-index c.loop-tie.out.items (c.args.out.now.items ++ flat_map (tie_line c.args.word.now c.args.model.now) c.args.ties.now) _ c.write_tie.new.out.items c.loop-tie-test.true c.in_ok-write_tie.ensures c.loop-tie.invariant

pub returns : goal.returns
returns c = flat_end (tie_line c.args.word.now c.args.model.now) c.args.ties.now c.loop-tie.tie-index c.loop-tie.out.items (c.args.out.now.items ++ flat_map (tie_line c.args.word.now c.args.model.now) c.args.ties.now) c.loop-tie-test.false c.loop-tie.invariant
