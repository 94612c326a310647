use Rattle.emp_disj.proofs.Small.{examples_of_choices as law}
use Rattle.emp_disj.proofs.examples.examples_of_choices.Goals as goal

pub returns : goal.returns
returns c = law
