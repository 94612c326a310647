use Rattle.emp_mcp.proofs.Kept.{targets_are_kept}
use Rattle.emp_mcp.proofs.laws.targets_are_kept.Goals as goal

pub returns : goal.returns
returns c = targets_are_kept
