use Rattle.std.proofs.Common.{ap, ◌∙◌}
use Rattle.emp_poly.specs.Quads.{linear_at}
use Rattle.emp_owner.proofs.Lists.{if_ok}
use Rattle.emp_subst.proofs.Givens.{is_solved}
use Rattle.emp_subst.proofs.goals.solved.Goals as goal

pub returns : goal.returns
returns c =
    if_ok _ _ c.times.result (λ q h. is_solved c.args.w.at c.args.difference.now c.in_ok-rest.rest q c.linear_of-sign.result c.is_positive.result (c.linear_of-sign.ensures ∙ ap (λ ts. linear_at ts c.args.w.at) c.as_slice.ensures) c.is_positive.ensures.above c.is_positive.ensures.not_above c.in_ok-rest.ensures h) c.times.ensures
