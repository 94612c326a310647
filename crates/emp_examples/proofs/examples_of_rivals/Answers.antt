use Rattle.emp_examples.proofs.Rivals.{examples_of_rivals as law}
use Rattle.emp_examples.proofs.examples_of_rivals.Goals as goal

pub returns : goal.returns
returns c = law
