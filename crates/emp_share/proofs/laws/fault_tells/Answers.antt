use Rattle.emp_share.proofs.Files as Files
use Rattle.emp_share.proofs.laws.fault_tells.Goals as goal

pub returns : goal.returns
returns c = Files.fault_tells
