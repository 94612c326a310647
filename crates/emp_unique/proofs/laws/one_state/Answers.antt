use Rattle.emp_unique.proofs.States as States
use Rattle.emp_unique.proofs.laws.one_state.Goals as goal

pub returns : goal.returns
returns c = States.one_state
