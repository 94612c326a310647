use Rattle.emp_solution.proofs.Back as Back
use Rattle.emp_solution.proofs.laws.filled_is_file.Goals as goal

pub returns : goal.returns
returns c = Back.filled_is_file
