use Rattle.emp_expand.specs.Factors.{factor}
use Rattle.emp_expand.proofs.Moving.{moved_more}
use Rattle.emp_poly.specs.Spread.{LessAt}
use Rattle.emp_poly.proofs.Lessening.{less_of}
use Rattle.emp_poly.proofs.difference.take_away.Goals as goal

pub loop-at-preserved : goal.loop-at-preserved
loop-at-preserved c =
    moved_more LessAt (factor c.args.all.now) (factor c.args.other) (factor c.loop-at.all) (factor c.loop-at.rest) (factor c.set.new.self) (factor c.pop.new.self) c.in-Some.at c.in-Some.value c.loop-at.invariant c.in-Some.ensures.was c.in-Some.ensures.gone c.in-Some.ensures.others c.in_ok-set.ensures.others
    (less_of c.fraction.result c.in-Some.value (factor c.loop-at.all c.in-Some.at) c.less-found.result (factor c.set.new.self c.in-Some.at) c.fraction.ensures c.in_ok-set.ensures.here c.less-found.ensures)
