use Rattle.std.proofs.Common.{arith, ap, ◌∙◌}
use Rattle.emp_subst.proofs.Folding.{square_more}
use Rattle.emp_subst.proofs.LeftLists.{same_default}
use Rattle.emp_subst.proofs.fill.square_reach.Goals as goal

pub loop-k-preserved : goal.loop-k-preserved
loop-k-preserved c =
    let first = c.max.ensures in
    let reached = c.max-reach.ensures in
    let same = ap (λ t. t.0.at) c.index-terms-k.is in
    let other = ap (λ t. t.1.at) (c.index-terms-k.is ∙ same_default c.args.terms.now c.loop-k.k c.index-terms-k.result c.index-terms-k-in-loop-k.result (omega arith)) in
    (square_more c.args.terms.now c.loop-k.reach c.max-reach.result c.loop-k.k c.index-terms-k.result (omega arith) c.index-terms-k.is (omega arith) (omega arith) (omega arith) c.loop-k.invariant.0, omega (arith, c.loop-k.invariant.1))
