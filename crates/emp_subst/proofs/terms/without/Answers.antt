use Rattle.std.proofs.Common.{◌∙◌, ap}
use Rattle.std.specs.Prelude.{filter, not, nat_eq}
use Rattle.emp_subst.proofs.Signs.{without_linear, is_without}
use Rattle.emp_subst.proofs.terms.without.Goals as goal

pub quad_of-requires-clause-linear : goal.quad_of-requires-clause-linear
quad_of-requires-clause-linear c = without_linear c.args.quad.now c.args.w.at c.in_ok-linear.linear c.as_slice.result.now c.as_slice.ensures c.in_ok-linear.ensures

pub returns : goal.returns
returns c =
    is_without c.args.w.at c.args.quad.now c.quad_of.result c.quad_of.ensures.constant (c.quad_of.ensures.linear ∙ (c.in_ok-linear.ensures ∙ ap (filter (λ t. not (nat_eq t.0.at c.args.w.at))) c.as_slice.ensures)) (c.quad_of.ensures.square ∙ c.in_ok-square.ensures)
