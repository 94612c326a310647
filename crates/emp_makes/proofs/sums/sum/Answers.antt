use Rattle.std.proofs.Common.{◌+◌, Ok, arith, refl}
use Rattle.emp_makes.proofs.Adding.{one_added, one_wide}
use Rattle.emp_makes.proofs.sums.sum.Goals as goal

pub returns-in_default : goal.returns-in_default
returns-in_default c =
    one_wide c.args.values.now c.args.first c.args.count c.loop-k.k (c.args.first + c.loop-k.k) c.loop-k.sum c.index-values-at.result c.in_default.field-0 refl (omega arith) (omega arith) c.index-values-at.is c.loop-k.invariant c.in_default.ensures

pub loop-k-preserved : goal.loop-k-preserved
loop-k-preserved c = one_added c.args.values.now c.args.first c.loop-k.k (c.args.first + c.loop-k.k) c.loop-k.sum c.index-values-at.result (Ok c.in-Ok.next) refl (omega arith) c.index-values-at.is c.loop-k.invariant c.in-Ok.ensures
