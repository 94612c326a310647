use Rattle.emp_systems.proofs.Lagrangian as Lagrangian
use Rattle.emp_systems.proofs.laws.own_rules_apart.Goals as goal

pub returns : goal.returns
returns c = Lagrangian.own_rules_apart
