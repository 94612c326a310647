use Rattle.emp_examples.proofs.Complementary.{examples_of_targets as law}
use Rattle.emp_examples.proofs.examples_of_targets.Goals as goal

pub returns : goal.returns
returns c = law
