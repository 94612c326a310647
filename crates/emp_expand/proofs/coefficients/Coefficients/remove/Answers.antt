use Rattle.emp_expand.specs.Factors.{factor}
use Rattle.emp_expand.proofs.Keys.{apart}
use Rattle.emp_expand.proofs.coefficients.Coefficients.remove.Goals as goal

pub returns-clause-here : goal.returns-clause-here
unfolding factor
returns-clause-here c = c.remove.ensures.updates.1

pub returns-clause-others : goal.returns-clause-others
unfolding factor
returns-clause-others c = λ q ne. c.remove.ensures.updates.2 q (apart c.args.at q ne)
