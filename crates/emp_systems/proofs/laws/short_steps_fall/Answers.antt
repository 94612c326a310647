use Rattle.emp_systems.proofs.Steps as Steps
use Rattle.emp_systems.proofs.laws.short_steps_fall.Goals as goal

pub returns : goal.returns
returns c = Steps.short_steps_fall
