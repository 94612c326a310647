use Rattle.emp_outcome_laws.proofs.Checking as Checking
use Rattle.emp_outcome_laws.proofs.laws.one_check.Goals as goal

pub returns : goal.returns
returns c = Checking.one_check
