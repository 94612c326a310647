use Rattle.emp_rows.proofs.Multiples.{multiple_formed, sign_formed}
use Rattle.emp_rows.proofs.primitive.primitive.Goals as goal

pub returns-clause-multiple : goal.returns-clause-multiple
returns-clause-multiple c = multiple_formed c.args.cells.now c.args.constant c.primitive_formed.result c.primitive_formed.ensures.made

pub returns-clause-sign : goal.returns-clause-sign
returns-clause-sign c = sign_formed c.args.cells.now c.args.constant c.primitive_formed.result c.primitive_formed.ensures.made
