use Rattle.emp_agents.proofs.Given as Given
use Rattle.emp_agents.proofs.laws.objective_stands_once.Goals as goal

pub returns : goal.returns
returns c = Given.objective_stands_once
