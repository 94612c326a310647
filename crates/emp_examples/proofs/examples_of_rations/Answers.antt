use Rattle.emp_examples.proofs.Rations.{examples_of_rations as law}
use Rattle.emp_examples.proofs.examples_of_rations.Goals as goal

pub returns : goal.returns
returns c = law
