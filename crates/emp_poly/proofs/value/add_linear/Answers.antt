use Rattle.emp_poly.proofs.Writing.{linear_term_runs, linear_term_wide}
use Rattle.emp_poly.proofs.value.add_linear.Goals as goal

pub returns-in_default : goal.returns-in_default
returns-in_default c = linear_term_wide c.args.sum c.coordinate-factor.result c.args.term c.args.point.now c.in_default.field-0 c.coordinate-factor.ensures c.in_default.ensures

pub returns : goal.returns
returns c = linear_term_runs c.args.sum c.coordinate-factor.result c.in-Ok.product c.args.term c.args.point.now c.add.result c.coordinate-factor.ensures c.in-Ok.ensures c.add.ensures
