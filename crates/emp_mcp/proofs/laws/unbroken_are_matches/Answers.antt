use Rattle.emp_mcp.proofs.Unbroken.{unbroken_are_matches}
use Rattle.emp_mcp.proofs.laws.unbroken_are_matches.Goals as goal

pub returns : goal.returns
returns c = unbroken_are_matches
