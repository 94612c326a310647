use Rattle.emp_verdict.proofs.Verdicts as Law
use Rattle.emp_verdict.proofs.Meaning.{file_is_game}
use Rattle.emp_verdict.proofs.laws.missing_have_none.Goals as goal

pub returns : goal.returns
returns c = Law.missing_have_none file_is_game
