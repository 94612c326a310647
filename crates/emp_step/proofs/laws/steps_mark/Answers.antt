use Rattle.emp_step.proofs.Whole as Whole
use Rattle.emp_step.proofs.laws.steps_mark.Goals as goal

pub returns : goal.returns
returns c = Whole.steps_mark
