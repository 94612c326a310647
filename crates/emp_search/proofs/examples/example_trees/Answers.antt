use Rattle.emp_search.proofs.Searches.{example_trees as law}
use Rattle.emp_search.proofs.examples.example_trees.Goals as goal

pub returns : goal.returns
returns c = law
