use Rattle.emp_solution.proofs.Tells as Tells
use Rattle.emp_solution.proofs.laws.stated_tells.Goals as goal

pub returns : goal.returns
returns c = Tells.stated_tells
