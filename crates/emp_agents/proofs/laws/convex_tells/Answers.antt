use Rattle.emp_agents.proofs.Convex as Convex
use Rattle.emp_agents.proofs.laws.convex_tells.Goals as goal

pub returns : goal.returns
returns c = Convex.convex_tells
