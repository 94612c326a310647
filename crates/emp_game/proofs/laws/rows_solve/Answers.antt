use Rattle.emp_game.proofs.Sound as Sound
use Rattle.emp_game.proofs.laws.rows_solve.Goals as goal

pub returns : goal.returns
returns c = Sound.rows_solve
