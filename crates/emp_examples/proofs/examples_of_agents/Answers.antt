use Rattle.emp_examples.proofs.Agents.{examples_of_agents as law}
use Rattle.emp_examples.proofs.examples_of_agents.Goals as goal

pub returns : goal.returns
returns c = law
