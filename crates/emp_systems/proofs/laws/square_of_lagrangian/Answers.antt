use Rattle.emp_systems.proofs.Lagrangian as Lagrangian
use Rattle.emp_systems.proofs.laws.square_of_lagrangian.Goals as goal

pub returns : goal.returns
returns c = Lagrangian.square_of_lagrangian
