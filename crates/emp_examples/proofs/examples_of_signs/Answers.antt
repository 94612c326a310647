use Rattle.emp_examples.proofs.Signs.{examples_of_signs as law}
use Rattle.emp_examples.proofs.examples_of_signs.Goals as goal

pub returns : goal.returns
returns c = law
