use Rattle.emp_algebra.proofs.Deciding as Deciding
use Rattle.emp_algebra.proofs.bound_holds.Goals as goal

pub returns : goal.returns
returns c = Deciding.bound_holds
