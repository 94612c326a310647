use Rattle.emp_form.proofs.Steps as Law
use Rattle.emp_form.proofs.laws.step_expands.Goals as goal

pub returns : goal.returns
returns c = Law.step_expands
