use Rattle.emp_makes.proofs.Ends as Ends
use Rattle.emp_makes.proofs.laws.made_shows.Goals as goal

pub returns : goal.returns
returns c = Ends.made_shows
