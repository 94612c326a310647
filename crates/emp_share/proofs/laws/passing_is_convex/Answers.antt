use Rattle.emp_share.proofs.Passing as Passing
use Rattle.emp_share.proofs.laws.passing_is_convex.Goals as goal

pub returns : goal.returns
returns c = Passing.passing_is_convex
