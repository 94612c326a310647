use Rattle.emp_num.proofs.SamePoints.{halves, thirds, missing}
use Rattle.emp_num.proofs.laws.same_point_examples.Goals as goal

pub returns : goal.returns
returns c = record { halves = halves; thirds = thirds; missing = missing }
