use Rattle.emp_unique.proofs.States as States
use Rattle.emp_unique.proofs.laws.stated_has_no_fault.Goals as goal

pub returns : goal.returns
returns c = States.stated_has_no_fault
