use Rattle.emp_lex.proofs.Longest.{tokens_are_longest}
use Rattle.emp_lex.proofs.laws.tokens_are_longest.Goals as goal

pub returns : goal.returns
returns c = tokens_are_longest
