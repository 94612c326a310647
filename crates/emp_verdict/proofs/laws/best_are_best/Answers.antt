use Rattle.emp_verdict.proofs.Verdicts as Law
use Rattle.emp_verdict.proofs.Meaning.{file_is_game}
use Rattle.emp_verdict.proofs.laws.best_are_best.Goals as goal

pub returns : goal.returns
returns c = Law.best_are_best file_is_game
