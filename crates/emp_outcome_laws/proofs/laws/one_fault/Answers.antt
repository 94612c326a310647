use Rattle.emp_outcome_laws.proofs.Faults as Faults
use Rattle.emp_outcome_laws.proofs.laws.one_fault.Goals as goal

pub returns : goal.returns
returns c = Faults.one_fault
