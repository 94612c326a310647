use Rattle.emp_makes.proofs.OneSummary as OneSummary
use Rattle.emp_makes.proofs.laws.one_summary.Goals as goal

pub returns : goal.returns
returns c = OneSummary.one_summary
