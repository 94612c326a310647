use Rattle.emp_quantities.proofs.Numbering as Numbering
use Rattle.emp_quantities.proofs.laws.system_lifts.Goals as goal

pub returns : goal.returns
returns c = Numbering.system_lifts
