use Rattle.emp_makes.proofs.OneMake as OneMake
use Rattle.emp_makes.proofs.laws.one_make.Goals as goal

pub returns : goal.returns
returns c = OneMake.one_make
