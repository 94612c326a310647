use Rattle.emp_whole.proofs.Games as Games
use Rattle.emp_whole.proofs.laws.problems_have_games.Goals as goal

pub returns : goal.returns
returns c = Games.problems_have_games
