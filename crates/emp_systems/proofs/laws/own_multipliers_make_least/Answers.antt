use Rattle.emp_systems.proofs.Own as Own
use Rattle.emp_systems.proofs.laws.own_multipliers_make_least.Goals as goal

pub returns : goal.returns
returns c = Own.own_multipliers_make_least
