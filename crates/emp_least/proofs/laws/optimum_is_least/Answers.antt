use Rattle.emp_least.proofs.TwoSystems as TwoSystems
use Rattle.emp_least.proofs.laws.optimum_is_least.Goals as goal

pub returns : goal.returns
returns c = TwoSystems.optimum_least
