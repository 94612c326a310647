use Rattle.emp_conditions.proofs.Examples as Examples
use Rattle.emp_conditions.proofs.laws.examples_of_rows.Goals as goal

pub returns : goal.returns
returns c = Examples.examples
