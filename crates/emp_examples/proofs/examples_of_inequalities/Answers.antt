use Rattle.emp_examples.proofs.Inequalities.{examples_of_inequalities as law}
use Rattle.emp_examples.proofs.examples_of_inequalities.Goals as goal

pub returns : goal.returns
returns c = law
