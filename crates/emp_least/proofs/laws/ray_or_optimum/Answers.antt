use Rattle.emp_least.proofs.TwoSystems as TwoSystems
use Rattle.emp_least.proofs.laws.ray_or_optimum.Goals as goal

pub returns : goal.returns
returns c = TwoSystems.ray_or_optimum
