use Rattle.emp_outcome_laws.proofs.Images as Images
use Rattle.emp_outcome_laws.proofs.laws.accepted_stands.Goals as goal

pub returns : goal.returns
returns c = Images.accepted_stands
