use Rattle.emp_poly.proofs.Writing.{square_term_runs, square_first_wide, square_second_wide}
use Rattle.emp_poly.proofs.value.add_square.Goals as goal

pub returns-in_default : goal.returns-in_default
returns-in_default c =
    square_first_wide c.args.sum c.coordinate-first.result c.coordinate-second.result c.args.term c.args.point.now c.in_default.field-0 c.coordinate-first.ensures c.coordinate-second.ensures c.in_default.ensures

pub returns-in_default-mul : goal.returns-in_default-mul
returns-in_default-mul c =
    square_second_wide c.args.sum c.coordinate-first.result c.coordinate-second.result c.in-Ok.coordinates c.args.term c.args.point.now c.in_default-mul.field-0 c.coordinate-first.ensures c.coordinate-second.ensures c.in-Ok.ensures c.in_default-mul.ensures

pub returns : goal.returns
returns c =
    square_term_runs c.args.sum c.coordinate-first.result c.coordinate-second.result c.in-Ok.coordinates c.in-Ok-mul.product c.args.term c.args.point.now c.add.result c.coordinate-first.ensures c.coordinate-second.ensures c.in-Ok.ensures c.in-Ok-mul.ensures c.add.ensures
