use Rattle.emp_agents.proofs.Convex as Convex
use Rattle.emp_agents.proofs.laws.curvature_is_convex.Goals as goal

pub returns : goal.returns
returns c = Convex.curvature_is_convex
