use Rattle.emp_left.proofs.Sums as Sums
use Rattle.emp_left.proofs.laws.linear_left.Goals as goal

pub returns : goal.returns
returns c = Sums.linear_left
