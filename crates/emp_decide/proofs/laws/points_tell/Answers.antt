use Rattle.emp_decide.proofs.Points as Points
use Rattle.emp_decide.proofs.laws.points_tell.Goals as goal

pub returns : goal.returns
returns c = Points.points_tell
