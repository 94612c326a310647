use Rattle.emp_systems.proofs.Lagrangian as Lagrangian
use Rattle.emp_systems.proofs.laws.least_left_is_least.Goals as goal

pub returns : goal.returns
returns c = Lagrangian.least_left_is_least
