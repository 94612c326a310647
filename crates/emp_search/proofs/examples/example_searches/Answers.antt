use Rattle.emp_search.proofs.Searches.{example_searches as law}
use Rattle.emp_search.proofs.examples.example_searches.Goals as goal

pub returns : goal.returns
returns c = law
