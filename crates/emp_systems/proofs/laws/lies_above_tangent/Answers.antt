use Rattle.emp_systems.proofs.Steps as Steps
use Rattle.emp_systems.proofs.laws.lies_above_tangent.Goals as goal

pub returns : goal.returns
returns c = Steps.lies_above_tangent
