use Rattle.emp_form.proofs.Vanishing as Law
use Rattle.emp_form.proofs.laws.zero_makes_no_call.Goals as goal

pub returns : goal.returns
returns c = Law.zero_makes_no_call
