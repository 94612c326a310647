use Rattle.emp_expand.specs.Factors.{factor}
use Rattle.std.proofs.lemmas.Grind.{common_steps}
use Rattle.std.proofs.Common.{arith}
use Rattle.emp_expand.proofs.coefficients.Coefficients.new.Goals as goal

pub returns : goal.returns
unfolding factor
returns c = λ q. grind (arith, common_steps, c.new.ensures.empty)
