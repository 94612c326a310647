use Rattle.emp_least.proofs.TwoSystems as TwoSystems
use Rattle.emp_least.proofs.laws.least_is_optimum.Goals as goal

pub returns : goal.returns
returns c = TwoSystems.least_is_optimum
