use Rattle.emp_lex.proofs.Longest.{only_nothing_is_passed}
use Rattle.emp_lex.proofs.laws.only_nothing_is_passed.Goals as goal

pub returns : goal.returns
returns c = only_nothing_is_passed
