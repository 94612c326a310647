use Rattle.emp_agents.proofs.Given as Given
use Rattle.emp_agents.proofs.laws.given_is_form.Goals as goal

pub returns : goal.returns
returns c = Given.given_is_form
