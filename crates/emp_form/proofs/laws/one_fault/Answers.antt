use Rattle.emp_form.proofs.OneFault as Law
use Rattle.emp_form.proofs.laws.one_fault.Goals as goal

pub returns : goal.returns
returns c = Law.one_fault
