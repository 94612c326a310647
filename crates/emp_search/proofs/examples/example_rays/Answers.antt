use Rattle.emp_search.proofs.Rays.{example_rays as law}
use Rattle.emp_search.proofs.examples.example_rays.Goals as goal

pub returns : goal.returns
returns c = law
