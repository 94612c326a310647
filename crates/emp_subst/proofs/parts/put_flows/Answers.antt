use Rattle.std.proofs.Common.{◌<◌, length, take, ◌+◌, arith, subst, sym}
use Rattle.emp_subst.proofs.Constraints.{all_at}
use Rattle.emp_subst.proofs.Flows.{PairsOn, pairs_more}
use Rattle.emp_subst.proofs.parts.put_flows.Goals as goal

pub loop-at-preserved : goal.loop-at-preserved
loop-at-preserved c =
    let ds = c.args.differences.now in
    let more : PairsOn ds (take (c.loop-at.at + 1) c.args.pairs.now) c.args.list.now _ =
    pairs_more ds c.args.pairs.now c.args.list.now c.loop-at.list c.loop-at.at c.get.result.now c.index-differences-e.result c.in_ok-linear_part.field-0 (omega arith) c.get.ensures (all_at (λ q. q.0.at < length ds) c.args.pairs.now c.loop-at.at c.get.result.now c.requires.within (omega arith) c.get.ensures) c.index-differences-e.is c.in_ok-linear_part.ensures c.loop-at.invariant in
    subst (λ ys. PairsOn ds (take (c.loop-at.at + 1) c.args.pairs.now) c.args.list.now ys) (sym c.in_ok-push.ensures.ok) more
