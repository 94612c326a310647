use Rattle.emp_examples.proofs.Points.{examples_of_points as law}
use Rattle.emp_examples.proofs.examples_of_points.Goals as goal

pub returns : goal.returns
returns c = law
