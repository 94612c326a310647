use Rattle.emp_split.proofs.Lifting as Lifting
use Rattle.emp_split.proofs.laws.admissible_lifts.Goals as goal

pub returns : goal.returns
returns c = Lifting.admissible_lifts
