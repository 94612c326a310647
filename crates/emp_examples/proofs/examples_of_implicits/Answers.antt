use Rattle.emp_examples.proofs.Parties.{examples_of_implicits as law}
use Rattle.emp_examples.proofs.examples_of_implicits.Goals as goal

pub returns : goal.returns
returns c = law
