use Rattle.emp_disj.proofs.Owned as Owned
use Rattle.emp_disj.proofs.laws.owners_are_two.Goals as goal

pub returns : goal.returns
returns c = Owned.owners_are_two
