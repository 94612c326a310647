use Rattle.emp_ends.proofs.Counting as Counting
use Rattle.emp_ends.proofs.laws.searches_end.Goals as goal

pub returns : goal.returns
returns c = Counting.searches_end
