use Rattle.emp_answers.proofs.Fitting.{annotations_fit}
use Rattle.emp_answers.proofs.laws.annotations_fit.Goals as goal

pub returns : goal.returns
returns c = annotations_fit
