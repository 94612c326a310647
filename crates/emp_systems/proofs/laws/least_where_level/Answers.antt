use Rattle.emp_systems.proofs.Steps as Steps
use Rattle.emp_systems.proofs.laws.least_where_level.Goals as goal

pub returns : goal.returns
returns c = Steps.least_where_level
