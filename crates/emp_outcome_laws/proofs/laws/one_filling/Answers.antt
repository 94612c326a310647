use Rattle.emp_outcome_laws.proofs.Fillings as Fillings
use Rattle.emp_outcome_laws.proofs.laws.one_filling.Goals as goal

pub returns : goal.returns
returns c = Fillings.one_filling
