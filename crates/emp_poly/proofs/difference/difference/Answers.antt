use Rattle.emp_poly.proofs.Spreading.{quad_small}
use Rattle.emp_poly.proofs.Lessening.{some_form, difference_is}
use Rattle.emp_poly.proofs.difference.difference.Goals as goal

pub take_away-requires-clause-left : goal.take_away-requires-clause-left
take_away-requires-clause-left c = quad_small c.args.left.now c.in_ok-all.all c.in_ok-all.ensures c.requires.left

pub take_away-requires-clause-right : goal.take_away-requires-clause-right
take_away-requires-clause-right c = quad_small c.args.right.now c.in_ok-other.other c.in_ok-other.ensures c.requires.right

pub collected-requires : goal.collected-requires
collected-requires c = some_form c.args.left.now c.args.right.now c.in_ok-all.all c.in_ok-other.other c.take_away.new.all c.in_ok-all.ensures c.in_ok-other.ensures c.in_ok-take_away.ensures

pub returns : goal.returns
returns c =
    difference_is c.args.left.now c.args.right.now c.in_ok-quad.quad c.in_ok-all.all c.in_ok-other.other c.take_away.new.all c.in_ok-all.ensures c.in_ok-other.ensures c.in_ok-take_away.ensures c.in_ok-quad.ensures
