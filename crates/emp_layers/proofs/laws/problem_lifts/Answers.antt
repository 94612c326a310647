use Rattle.emp_layers.proofs.Files as Files
use Rattle.emp_layers.proofs.laws.problem_lifts.Goals as goal

pub returns : goal.returns
returns c = Files.problem_lifts
