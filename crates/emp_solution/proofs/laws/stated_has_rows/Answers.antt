use Rattle.emp_solution.proofs.Rows as Rows
use Rattle.emp_solution.proofs.laws.stated_has_rows.Goals as goal

pub returns : goal.returns
returns c = Rows.stated_has_rows
