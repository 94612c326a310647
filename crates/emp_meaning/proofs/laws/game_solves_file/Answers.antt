use Rattle.emp_meaning.proofs.Assembly as Assembly
use Rattle.emp_meaning.proofs.laws.game_solves_file.Goals as goal

pub returns : goal.returns
returns c = Assembly.game_solves_file
