use Rattle.emp_systems.proofs.Lagrangian as Lagrangian
use Rattle.emp_systems.proofs.laws.rules_apart.Goals as goal

pub returns : goal.returns
returns c = Lagrangian.rules_apart
