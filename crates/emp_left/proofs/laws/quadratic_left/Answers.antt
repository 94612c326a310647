use Rattle.emp_left.proofs.Sums.{quadratic_left_is}
use Rattle.emp_left.proofs.laws.quadratic_left.Goals as goal

pub returns : goal.returns
returns c = quadratic_left_is
