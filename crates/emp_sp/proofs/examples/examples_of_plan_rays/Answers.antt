use Rattle.emp_sp.proofs.Small.{examples_of_plan_rays as law}
use Rattle.emp_sp.proofs.examples.examples_of_plan_rays.Goals as goal

pub returns : goal.returns
returns c = law
