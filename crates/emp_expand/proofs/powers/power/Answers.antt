use Rattle.emp_expand.proofs.Powering.{power_zero, power_one, power_two, power_linear, power_quadratic}
use Rattle.emp_expand.proofs.powers.power.Goals as goal

pub returns-then-exponent-eq0 : goal.returns-then-exponent-eq0
returns-then-exponent-eq0 c = power_zero c.args.base c.args.exponent c.unit.result c.if-exponent-eq0.true c.unit.ensures

pub returns-then-exponent-eq1 : goal.returns-then-exponent-eq1
returns-then-exponent-eq1 c = power_one c.args.base c.args.exponent c.if-exponent-eq1.true

pub returns-then-exponent-eq2 : goal.returns-then-exponent-eq2
returns-then-exponent-eq2 c = power_two c.args.base c.args.exponent c.square.result c.if-exponent-eq2.true c.square.ensures

pub returns-in-Linear : goal.returns-in-Linear
returns-in-Linear c = power_linear c.args.base c.args.exponent c.in-Linear.ensures c.if-exponent-eq0.false c.if-exponent-eq1.false c.if-exponent-eq2.false

pub returns : goal.returns
returns c = power_quadratic c.args.base c.args.exponent c.in-Quadratic.ensures c.if-exponent-eq0.false c.if-exponent-eq1.false
