use Rattle.std.proofs.Common.{◌++◌, flat_map}
use Rattle.info_print.specs.Canonical.{visol_line}
use Rattle.info_print.proofs.Flat.{flat_more, flat_end}
use Rattle.info_print.proofs.lines.write_visols.Goals as goal

pub loop-equation-preserved : goal.loop-equation-preserved
loop-equation-preserved c =
    flat_more (visol_line c.args.model.now) c.args.equations.now c.loop-equation.equation-index c.loop-equation.out.items (c.args.out.now.items ++ flat_map (visol_line c.args.model.now) c.args.equations.now) _ c.write_visol.new.out.items c.loop-equation-test.true c.in_ok-write_visol.ensures c.loop-equation.invariant

pub returns : goal.returns
returns c = flat_end (visol_line c.args.model.now) c.args.equations.now c.loop-equation.equation-index c.loop-equation.out.items (c.args.out.now.items ++ flat_map (visol_line c.args.model.now) c.args.equations.now) c.loop-equation-test.false c.loop-equation.invariant
