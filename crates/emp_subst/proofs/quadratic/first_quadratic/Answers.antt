use Rattle.std.proofs.Common.{◌≡◌, length, arith}
use Rattle.emp_subst.proofs.Expanding.{linear_more, quadratic_here}
use Rattle.emp_subst.proofs.quadratic.first_quadratic.Goals as goal

pub returns-in-Some : goal.returns-in-Some
returns-in-Some c = quadratic_here c.args.model.now c.args.annot.now c.args.differences.now c.loop-at.at c.index-differences-at.result c.in-Some.u c.in-Some.v (omega arith) c.requires.expand c.requires.differences c.index-differences-at.is c.loop-at.invariant c.in-Some.ensures.some.0 c.in-Some.ensures.some.1

pub loop-at-preserved : goal.loop-at-preserved
loop-at-preserved c = linear_more c.args.model.now c.args.annot.now c.args.differences.now c.loop-at.at c.index-differences-at.result (let n : length c.args.differences.now ≡ length c.args.model.now.equations = c.requires.differences.count in omega arith) c.requires.differences c.index-differences-at.is c.loop-at.invariant c.in_default.ensures.none
