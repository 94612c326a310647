use Rattle.emp_disj.proofs.Owned as Owned
use Rattle.emp_disj.proofs.laws.all_but_definition.Goals as goal

pub returns : goal.returns
returns c = Owned.all_but_definition
