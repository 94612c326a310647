use Rattle.std.proofs.Common.{◌+◌, Ok, Err, arith}
use Rattle.emp_expand.proofs.Powering.{power_next, power_wide}
use Rattle.emp_expand.proofs.powers.power_of.Goals as goal

pub returns-in_default : goal.returns-in_default
returns-in_default c = λ f h.
    power_wide f (c.loop-i.i + 1) c.args.exponent (omega arith) (omega arith) (power_next c.loop-i.value c.args.base f c.loop-i.i (Err c.in_default.field-0) c.loop-i.invariant.one h (c.loop-i.invariant.power f h) c.in_default.ensures)

pub loop-i-preserved : goal.loop-i-preserved
loop-i-preserved c = record {
  one = omega arith;
  power = λ f h. power_next c.loop-i.value c.args.base f c.loop-i.i (Ok c.in-Ok.next) c.loop-i.invariant.one h (c.loop-i.invariant.power f h) c.in-Ok.ensures;
}
