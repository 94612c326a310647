use Rattle.emp_agents.proofs.Given as Given
use Rattle.emp_agents.proofs.laws.absent_stands_nowhere.Goals as goal

pub returns : goal.returns
returns c = Given.absent_stands_nowhere
