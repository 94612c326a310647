use Rattle.emp_makes.proofs.Ends as Ends
use Rattle.emp_makes.proofs.laws.makes_end.Goals as goal

pub returns : goal.returns
returns c = Ends.makes_end
