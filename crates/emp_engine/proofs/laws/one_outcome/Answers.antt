use Rattle.emp_engine.proofs.OneOutcome as OneOutcome
use Rattle.emp_engine.proofs.laws.one_outcome.Goals as goal

pub returns : goal.returns
returns c = OneOutcome.one_outcome
