use Rattle.emp_answers.proofs.Fitting.{goals_fit}
use Rattle.emp_answers.proofs.laws.goals_fit.Goals as goal

pub returns : goal.returns
returns c = goals_fit
