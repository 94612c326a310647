use Rattle.emp_unique.proofs.Systems as Systems
use Rattle.emp_unique.proofs.laws.one_system.Goals as goal

pub returns : goal.returns
returns c = Systems.one_system
