use Rattle.emp_systems.proofs.Law as Law
use Rattle.emp_systems.proofs.laws.refuted_nowhere_met.Goals as goal

pub returns : goal.returns
returns c = Law.refuted_nowhere_met
