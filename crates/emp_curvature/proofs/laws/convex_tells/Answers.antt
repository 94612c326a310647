use Rattle.emp_curvature.proofs.Curvature as Curvature
use Rattle.emp_curvature.proofs.laws.convex_tells.Goals as goal

pub returns : goal.returns
returns c = Curvature.convex_tells
