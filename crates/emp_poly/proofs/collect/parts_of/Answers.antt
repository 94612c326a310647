use Rattle.std.proofs.Common.{None, get_or, arith, refl}
use Rattle.emp_expand.specs.Factors.{fractions}
use Rattle.emp_poly.proofs.Gatherings.{collected_more, whole_list}
use Rattle.emp_poly.proofs.collect.parts_of.Goals as goal

pub loop-at-preserved : goal.loop-at-preserved
loop-at-preserved c =
    collected_more (fractions c.args.all.now) c.args.listed.now c.loop-at.at (get_or c.args.listed.now c.loop-at.at (None, None)) (None, None) c.fraction-value.result c.loop-at.parts c.take.new.self (omega arith) refl c.fraction-value.ensures c.loop-at.invariant c.in_ok-take.ensures

pub returns : goal.returns
returns c = whole_list (fractions c.args.all.now) c.args.listed.now c.loop-at.at c.loop-at.parts (omega arith) c.loop-at.invariant
