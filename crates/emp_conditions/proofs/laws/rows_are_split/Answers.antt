use Rattle.emp_conditions.proofs.Sound as Sound
use Rattle.emp_conditions.proofs.laws.rows_are_split.Goals as goal

pub returns : goal.returns
returns c = Sound.rows_are_split
