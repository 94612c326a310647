use Rattle.emp_systems.proofs.Steps as Steps
use Rattle.emp_systems.proofs.laws.steps_keep.Goals as goal

pub returns : goal.returns
returns c = Steps.steps_keep
