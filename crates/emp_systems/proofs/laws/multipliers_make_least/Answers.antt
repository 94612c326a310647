use Rattle.emp_systems.proofs.Sufficient as Sufficient
use Rattle.emp_systems.proofs.laws.multipliers_make_least.Goals as goal

pub returns : goal.returns
returns c = Sufficient.multipliers_make_least
