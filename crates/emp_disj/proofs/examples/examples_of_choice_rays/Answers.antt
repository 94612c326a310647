use Rattle.emp_disj.proofs.Small.{examples_of_choice_rays as law}
use Rattle.emp_disj.proofs.examples.examples_of_choice_rays.Goals as goal

pub returns : goal.returns
returns c = law
