use Rattle.std.proofs.Common.{arith, ap}
use Rattle.emp_subst.proofs.Folding.{linear_more}
use Rattle.emp_subst.proofs.fill.linear_reach.Goals as goal

pub loop-k-preserved : goal.loop-k-preserved
loop-k-preserved c =
    let reached = c.max-reach.ensures in
    let same = ap (λ t. t.0.at) c.index-terms-k.is in
    (linear_more c.args.terms.now c.loop-k.reach c.max-reach.result c.loop-k.k c.index-terms-k.result (omega arith) c.index-terms-k.is (omega arith) (omega arith) c.loop-k.invariant.0, omega (arith, c.loop-k.invariant.1))
