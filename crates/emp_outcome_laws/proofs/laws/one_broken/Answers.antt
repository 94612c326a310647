use Rattle.emp_outcome_laws.proofs.Broken as Broken
use Rattle.emp_outcome_laws.proofs.laws.one_broken.Goals as goal

pub returns : goal.returns
returns c = Broken.one_broken
