use Rattle.emp_accepted.proofs.Faults as Faults
use Rattle.emp_accepted.proofs.laws.accepted_break_none.Goals as goal

pub returns : goal.returns
returns c = Faults.accepted_break_none
