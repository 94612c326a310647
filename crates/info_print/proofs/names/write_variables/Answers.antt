use Rattle.std.proofs.Common.{◌++◌, flat_map}
use Rattle.info_print.specs.Canonical.{variable_word}
use Rattle.info_print.proofs.Flat.{flat_more, flat_end}
use Rattle.info_print.proofs.names.write_variables.Goals as goal

pub loop-variable-preserved : goal.loop-variable-preserved
loop-variable-preserved c =
    flat_more (variable_word c.args.model.now) c.args.variables.now c.loop-variable.variable-index c.loop-variable.out.items (c.args.out.now.items ++ flat_map (variable_word c.args.model.now) c.args.variables.now) _ c.write_variable.new.out.items c.loop-variable-test.true c.in_ok-write_variable.ensures c.loop-variable.invariant

pub returns : goal.returns
returns c = flat_end (variable_word c.args.model.now) c.args.variables.now c.loop-variable.variable-index c.loop-variable.out.items (c.args.out.now.items ++ flat_map (variable_word c.args.model.now) c.args.variables.now) c.loop-variable-test.false c.loop-variable.invariant
