use Rattle.emp_examples.proofs.Rules.{examples_of_rules as law}
use Rattle.emp_examples.proofs.examples_of_rules.Goals as goal

pub returns : goal.returns
returns c = law
