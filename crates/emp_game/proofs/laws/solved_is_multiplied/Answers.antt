use Rattle.emp_game.proofs.Multiplied.{solved_has_multiplied}
use Rattle.emp_game.proofs.laws.solved_is_multiplied.Goals as goal

pub returns : goal.returns
returns c = solved_has_multiplied
