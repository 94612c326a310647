use Rattle.emp_least.proofs.Small.{examples_of_two_systems as law}
use Rattle.emp_least.proofs.examples.examples_of_two_systems.Goals as goal

pub returns : goal.returns
returns c = law
