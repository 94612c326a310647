use Rattle.emp_search.proofs.Rooted as Rooted
use Rattle.emp_search.proofs.laws.searches_from_show.Goals as goal

pub returns : goal.returns
returns c = Rooted.searches_from_show
