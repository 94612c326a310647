use Rattle.std.proofs.Common.{None, get_or, arith, refl}
use Rattle.emp_expand.proofs.Filling.{filled_more, filled_wide}
use Rattle.emp_expand.proofs.products.filled.Goals as goal

pub returns-in-Err : goal.returns-in-Err
returns-in-Err c =
    filled_wide c.args.over c.args.left.now c.args.right.now c.args.listed.now (get_or c.args.listed.now c.loop-at.at (None, None)) c.loop-at.all c.fill.new.all c.in-Err.fault c.in-Err.ensures

pub loop-at-preserved : goal.loop-at-preserved
loop-at-preserved c =
    filled_more c.args.over c.args.left.now c.args.right.now c.args.listed.now c.loop-at.at (get_or c.args.listed.now c.loop-at.at (None, None)) (None, None) c.loop-at.all c.fill.new.all (omega arith) refl c.loop-at.invariant c.in_default.ensures
