use Rattle.emp_systems.proofs.Own as Own
use Rattle.emp_systems.proofs.laws.own_least_has_multipliers.Goals as goal

pub returns : goal.returns
returns c = Own.own_least_has_multipliers
