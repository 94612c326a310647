use Rattle.std.proofs.Common.{[], map, None, subst, sym}
use Rattle.emp_problem.specs.ProblemOf.{AreFlowsFor}
use Rattle.emp_subst.proofs.parts.flow.Goals as goal

pub returns : goal.returns
returns c =
    λ m are. c.in_ok-put_flows.ensures m (map (λ z. None) c.args.zeros.now) are (c.in_ok-put_zeros.ensures m [] (subst (λ ys. AreFlowsFor m [] ys) (sym c.new-list.ensures) tt))
