use Rattle.emp_systems.proofs.Lagrange as Lagrange
use Rattle.emp_systems.proofs.laws.multipliers_solve.Goals as goal

pub returns : goal.returns
returns c = Lagrange.multipliers_solve
