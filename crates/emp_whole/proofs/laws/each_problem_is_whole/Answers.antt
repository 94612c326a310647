use Rattle.emp_whole.proofs.Multiples as Multiples
use Rattle.emp_whole.proofs.laws.each_problem_is_whole.Goals as goal

pub returns : goal.returns
returns c = Multiples.each_problem_is_whole
