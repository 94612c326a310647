use Rattle.emp_num.proofs.SamePoints.{same_itself, same_back, same_on}
use Rattle.emp_num.proofs.laws.same_is_equivalence.Goals as goal

pub returns : goal.returns
returns c = record { itself = same_itself; back = same_back; on = same_on }
