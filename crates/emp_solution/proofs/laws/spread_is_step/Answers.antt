use Rattle.emp_solution.proofs.Back as Back
use Rattle.emp_solution.proofs.laws.spread_is_step.Goals as goal

pub returns : goal.returns
returns c = Back.spread_is_step
