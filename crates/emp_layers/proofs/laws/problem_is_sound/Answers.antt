use Rattle.emp_layers.proofs.Files as Files
use Rattle.emp_layers.proofs.laws.problem_is_sound.Goals as goal

pub returns : goal.returns
returns c = Files.problem_is_sound
