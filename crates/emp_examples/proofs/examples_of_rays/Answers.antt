use Rattle.emp_examples.proofs.Bilevel.{examples_of_rays as law}
use Rattle.emp_examples.proofs.examples_of_rays.Goals as goal

pub returns : goal.returns
returns c = law
