use Rattle.std.proofs.Common.{None, get_or, arith, refl}
use Rattle.emp_expand.proofs.Listing.{each_more}
use Rattle.emp_expand.proofs.products.with_each.Goals as goal

pub loop-at-preserved : goal.loop-at-preserved
loop-at-preserved c =
    each_more c.args.first c.args.others.now c.args.out.now.items c.loop-at.out.items c.with_one.new.out.items c.loop-at.at (get_or c.args.others.now c.loop-at.at (None, None)) (None, None) (omega arith) refl c.loop-at.invariant c.in_ok-with_one.ensures
