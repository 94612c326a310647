use Rattle.emp_dict.proofs.Solutions as Solutions
use Rattle.emp_dict.proofs.laws.exchanges_keep.Goals as goal

pub returns : goal.returns
returns c = Solutions.exchanges_keep
