use Rattle.emp_examples.proofs.Rivals.{examples_of_given_values as law}
use Rattle.emp_examples.proofs.examples_of_given_values.Goals as goal

pub returns : goal.returns
returns c = law
