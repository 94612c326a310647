use Rattle.emp_outcome_laws.proofs.Founds as Founds
use Rattle.emp_outcome_laws.proofs.laws.one_end.Goals as goal

pub returns : goal.returns
returns c = Founds.one_end
