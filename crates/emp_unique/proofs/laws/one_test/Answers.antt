use Rattle.emp_unique.proofs.Folds as Folds
use Rattle.emp_unique.proofs.laws.one_test.Goals as goal

pub returns : goal.returns
returns c = Folds.one_test
