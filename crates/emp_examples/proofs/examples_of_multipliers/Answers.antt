use Rattle.emp_examples.proofs.Multipliers.{examples_of_multipliers as law}
use Rattle.emp_examples.proofs.examples_of_multipliers.Goals as goal

pub returns : goal.returns
returns c = law
