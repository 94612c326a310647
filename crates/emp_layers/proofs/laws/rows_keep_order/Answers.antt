use Rattle.emp_layers.proofs.Systems as Systems
use Rattle.emp_layers.proofs.laws.rows_keep_order.Goals as goal

pub returns : goal.returns
returns c = Systems.rows_keep_order
