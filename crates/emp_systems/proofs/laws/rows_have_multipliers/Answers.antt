use Rattle.emp_systems.proofs.Lagrange as Lagrange
use Rattle.emp_systems.proofs.laws.rows_have_multipliers.Goals as goal

pub returns : goal.returns
returns c = Lagrange.rows_have_multipliers
