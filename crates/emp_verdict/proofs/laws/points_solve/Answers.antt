use Rattle.emp_verdict.proofs.Verdicts as Law
use Rattle.emp_verdict.proofs.Meaning.{file_is_game}
use Rattle.emp_verdict.proofs.laws.points_solve.Goals as goal

pub returns : goal.returns
returns c = Law.points_solve file_is_game
