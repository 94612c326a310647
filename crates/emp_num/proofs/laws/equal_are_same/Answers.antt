use Rattle.emp_num.proofs.FracOrder.{one_value}
use Rattle.emp_num.proofs.Same.{frac_eq, same_value}
use Rattle.emp_num.proofs.laws.equal_are_same.Goals as goal

pub returns : goal.returns
returns c = record { cross = same_value; numbers = frac_eq; one_value = one_value }
