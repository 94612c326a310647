use Rattle.emp_examples.proofs.Sharing.{examples_of_sharing as law}
use Rattle.emp_examples.proofs.examples_of_sharing.Goals as goal

pub returns : goal.returns
returns c = law
