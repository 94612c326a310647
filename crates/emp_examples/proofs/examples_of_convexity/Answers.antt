use Rattle.emp_examples.proofs.Convexity.{examples_of_convexity as law}
use Rattle.emp_examples.proofs.examples_of_convexity.Goals as goal

pub returns : goal.returns
returns c = law
