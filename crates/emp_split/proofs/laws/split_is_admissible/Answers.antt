use Rattle.emp_split.proofs.Lifting as Lifting
use Rattle.emp_split.proofs.laws.split_is_admissible.Goals as goal

pub returns : goal.returns
returns c = Lifting.split_is_admissible
