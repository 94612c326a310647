use Rattle.emp_meaning.proofs.Assembly as Assembly
use Rattle.emp_meaning.proofs.laws.file_solves_game.Goals as goal

pub returns : goal.returns
returns c = Assembly.file_solves_game
