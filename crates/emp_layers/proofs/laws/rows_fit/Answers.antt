use Rattle.emp_layers.proofs.Systems as Systems
use Rattle.emp_layers.proofs.laws.rows_fit.Goals as goal

pub returns : goal.returns
returns c = Systems.rows_fit
