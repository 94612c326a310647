use Rattle.emp_expand.specs.Factors.{factor}
use Rattle.emp_expand.proofs.coefficients.Coefficients.get.Goals as goal

pub returns : goal.returns
unfolding factor
returns c = cc
