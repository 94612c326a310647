use Rattle.emp_quantities.proofs.Over as Over
use Rattle.emp_quantities.proofs.laws.over_keeps.Goals as goal

pub returns : goal.returns
returns c = λ n g xs. (Over.take_over n g xs, Over.split_over n g xs)
