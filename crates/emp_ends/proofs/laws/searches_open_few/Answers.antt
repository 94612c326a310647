use Rattle.emp_ends.proofs.Counting as Counting
use Rattle.emp_ends.proofs.laws.searches_open_few.Goals as goal

pub returns : goal.returns
returns c = Counting.searches_open_few
