use Rattle.emp_meaning.proofs.Assembly as Assembly
use Rattle.emp_meaning.proofs.laws.games_are_well_made.Goals as goal

pub returns : goal.returns
returns c = Assembly.games_are_well_made
