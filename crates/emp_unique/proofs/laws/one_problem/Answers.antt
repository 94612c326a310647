use Rattle.emp_unique.proofs.Problems as Problems
use Rattle.emp_unique.proofs.laws.one_problem.Goals as goal

pub returns : goal.returns
returns c = Problems.one_problem
