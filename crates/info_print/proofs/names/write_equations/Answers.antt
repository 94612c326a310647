use Rattle.std.proofs.Common.{◌++◌, flat_map}
use Rattle.info_print.specs.Canonical.{equation_word}
use Rattle.info_print.proofs.Flat.{flat_more, flat_end}
use Rattle.info_print.proofs.names.write_equations.Goals as goal

pub loop-equation-preserved : goal.loop-equation-preserved
loop-equation-preserved c =
    flat_more (equation_word c.args.model.now) c.args.equations.now c.loop-equation.equation-index c.loop-equation.out.items (c.args.out.now.items ++ flat_map (equation_word c.args.model.now) c.args.equations.now) _ c.write_equation.new.out.items c.loop-equation-test.true c.in_ok-write_equation.ensures c.loop-equation.invariant

pub returns : goal.returns
returns c = flat_end (equation_word c.args.model.now) c.args.equations.now c.loop-equation.equation-index c.loop-equation.out.items (c.args.out.now.items ++ flat_map (equation_word c.args.model.now) c.args.equations.now) c.loop-equation-test.false c.loop-equation.invariant
