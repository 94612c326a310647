use Rattle.emp_examples.proofs.Bilevel.{examples_of_bilevel as law}
use Rattle.emp_examples.proofs.examples_of_bilevel.Goals as goal

pub returns : goal.returns
returns c = law
