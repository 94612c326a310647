use Rattle.emp_share.proofs.Files as Files
use Rattle.emp_share.proofs.laws.passing_tells.Goals as goal

pub returns : goal.returns
returns c = Files.passing_tells
