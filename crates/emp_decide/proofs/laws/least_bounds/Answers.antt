use Rattle.emp_decide.proofs.Decides as Decides
use Rattle.emp_decide.proofs.laws.least_bounds.Goals as goal

pub returns : goal.returns
returns c = Decides.least_bounds
