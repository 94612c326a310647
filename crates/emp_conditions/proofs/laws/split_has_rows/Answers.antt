use Rattle.emp_conditions.proofs.Lifting as Lifting
use Rattle.emp_conditions.proofs.laws.split_has_rows.Goals as goal

pub returns : goal.returns
returns c = Lifting.split_has_rows
