use Rattle.emp_accepted.proofs.Sizes as Sizes
use Rattle.emp_accepted.proofs.laws.stated_are_accepted.Goals as goal

pub returns : goal.returns
returns c = Sizes.stated_are_accepted
