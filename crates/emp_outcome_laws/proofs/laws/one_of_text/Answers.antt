use Rattle.emp_outcome_laws.proofs.Checking as Checking
use Rattle.emp_outcome_laws.proofs.laws.one_of_text.Goals as goal

pub returns : goal.returns
returns c = Checking.one_of_text
