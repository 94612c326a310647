use Rattle.emp_systems.proofs.Least as Least
use Rattle.emp_systems.proofs.laws.least_has_multipliers.Goals as goal

pub returns : goal.returns
returns c = Least.least_has_multipliers
