use Rattle.emp_algebra.proofs.Deciding as Deciding
use Rattle.emp_algebra.proofs.refutation_leaves_none.Goals as goal

pub returns : goal.returns
returns c = Deciding.refutation_leaves_none
