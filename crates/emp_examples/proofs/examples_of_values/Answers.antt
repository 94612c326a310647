use Rattle.emp_examples.proofs.Values.{examples_of_values as law}
use Rattle.emp_examples.proofs.examples_of_values.Goals as goal

pub returns : goal.returns
returns c = law
