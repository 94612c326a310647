use Rattle.emp_sp.proofs.Small.{examples_of_plans as law}
use Rattle.emp_sp.proofs.examples.examples_of_plans.Goals as goal

pub returns : goal.returns
returns c = law
