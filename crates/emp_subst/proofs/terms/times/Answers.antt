use Rattle.std.proofs.Common.{sym, subst₂, ◌∙◌, ap}
use Rattle.emp_subst.specs.Stages.{sign_of, LinearTimes, SquareTimes}
use Rattle.emp_subst.proofs.Signs.{times_linear, times_square, is_times}
use Rattle.emp_subst.proofs.terms.times.Goals as goal

pub quad_of-requires-clause-linear : goal.quad_of-requires-clause-linear
quad_of-requires-clause-linear c = times_linear c.args.quad.now c.args.negate c.in_ok-linear.linear c.as_slice.result.now c.as_slice.ensures c.in_ok-linear.ensures

pub quad_of-requires-clause-square : goal.quad_of-requires-clause-square
quad_of-requires-clause-square c = times_square c.args.quad.now c.args.negate c.in_ok-square.square c.as_slice-2.result.now c.as_slice-2.ensures c.in_ok-square.ensures

pub returns : goal.returns
returns c =
    let s = sign_of c.args.negate in
    is_times s c.args.quad.now c.quad_of.result (record { num = ap (λ x. x.num) c.quad_of.ensures.constant ∙ c.signed.ensures.num; den = ap (λ x. x.den) c.quad_of.ensures.constant ∙ c.signed.ensures.den })
    (subst₂ (λ ts xs. LinearTimes s ts xs) c.as_slice.ensures (sym c.quad_of.ensures.linear) c.in_ok-linear.ensures)
    (subst₂ (λ ts xs. SquareTimes s ts xs) c.as_slice-2.ensures (sym c.quad_of.ensures.square) c.in_ok-square.ensures)
