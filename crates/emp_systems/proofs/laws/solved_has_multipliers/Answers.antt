use Rattle.emp_systems.proofs.Lagrange as Lagrange
use Rattle.emp_systems.proofs.laws.solved_has_multipliers.Goals as goal

pub returns : goal.returns
returns c = Lagrange.solved_has_multipliers
