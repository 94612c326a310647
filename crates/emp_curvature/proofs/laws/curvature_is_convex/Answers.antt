use Rattle.emp_curvature.proofs.Curvature as Curvature
use Rattle.emp_curvature.proofs.laws.curvature_is_convex.Goals as goal

pub returns : goal.returns
returns c = Curvature.curvature_is_convex
