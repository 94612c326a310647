use Rattle.std.proofs.Common.{None, get_or, arith, refl}
use Rattle.emp_expand.proofs.Listing.{pairs_more}
use Rattle.emp_expand.proofs.products.with_pairs.Goals as goal

pub loop-at-preserved : goal.loop-at-preserved
loop-at-preserved c =
    pairs_more c.args.firsts.now c.args.others.now c.args.out.now.items c.loop-at.out.items c.with_others.new.out.items c.loop-at.at (get_or c.args.firsts.now c.loop-at.at (None, None)) (None, None) (omega arith) refl c.loop-at.invariant c.in_ok-with_others.ensures
