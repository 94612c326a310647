use Rattle.emp_least.proofs.Small.{examples_of_least_points as law}
use Rattle.emp_least.proofs.examples.examples_of_least_points.Goals as goal

pub returns : goal.returns
returns c = law
