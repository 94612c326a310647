use Rattle.emp_least.proofs.TwoSystems as TwoSystems
use Rattle.emp_least.proofs.laws.ray_falls.Goals as goal

pub returns : goal.returns
returns c = TwoSystems.ray_falls
