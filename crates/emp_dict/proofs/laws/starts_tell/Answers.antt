use Rattle.emp_dict.proofs.Starts as Starts
use Rattle.emp_dict.proofs.laws.starts_tell.Goals as goal

pub returns : goal.returns
returns c = Starts.starts_tell
