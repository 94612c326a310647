use Rattle.emp_layers.proofs.Systems as Systems
use Rattle.emp_layers.proofs.laws.rows_lift.Goals as goal

pub returns : goal.returns
returns c = Systems.rows_lift
