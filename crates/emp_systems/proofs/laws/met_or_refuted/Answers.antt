use Rattle.emp_systems.proofs.Law as Law
use Rattle.emp_systems.proofs.laws.met_or_refuted.Goals as goal

pub returns : goal.returns
returns c = Law.met_or_refuted
