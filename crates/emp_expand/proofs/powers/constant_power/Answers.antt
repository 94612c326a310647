use Rattle.emp_expand.proofs.Powering.{constant_raised, constant_wide}
use Rattle.emp_expand.proofs.powers.constant_power.Goals as goal

pub returns-in_default : goal.returns-in_default
returns-in_default c = constant_wide c.args.base.now c.args.exponent c.fraction.result c.in_default.field-0 c.requires.only c.fraction.ensures c.in_default.ensures

pub returns : goal.returns
returns c =
    constant_raised c.args.base.now c.args.exponent c.fraction.result c.in-Ok.value c.constant-found.result c.node_result.result c.requires.only c.fraction.ensures c.in-Ok.ensures c.constant-found.ensures c.node_result.ensures
