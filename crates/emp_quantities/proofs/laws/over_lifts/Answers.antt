use Rattle.emp_quantities.proofs.Numbering as Numbering
use Rattle.emp_quantities.proofs.laws.over_lifts.Goals as goal

pub returns : goal.returns
returns c = Numbering.over_lifts
