use Rattle.emp_outcome_laws.proofs.Answering as Answering
use Rattle.emp_outcome_laws.proofs.laws.one_answer.Goals as goal

pub returns : goal.returns
returns c = Answering.one_answer
