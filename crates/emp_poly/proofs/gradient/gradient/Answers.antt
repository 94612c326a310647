use Rattle.std.proofs.Common.{arith, sym, ◌∙◌}
use Rattle.emp_poly.proofs.Deriving.{derived_more, is_double, double_narrow, gradient_kept, gradient_is}
use Rattle.emp_poly.proofs.gradient.gradient.Goals as goal

pub loop-k-preserved : goal.loop-k-preserved
loop-k-preserved c =
    derived_more c.args.var.at c.in-Ok.double c.args.quad.now.square c.loop-k.k c.get.result.now c.get.result.now c.loop-k.linear c.derive.new.linear (omega arith) (sym c.get.ensures) c.loop-k.invariant c.in-Ok-derive.ensures

pub lin_of-lin-requires : goal.lin_of-lin-requires
lin_of-lin-requires c =
    gradient_kept c.args.quad.now c.args.var.at c.in-Ok.double c.loop-k.k c.loop-k.linear (is_double c.in-Ok.double c.two.result c.square_of-own.result c.as_slice.result.now c.args.quad.now c.args.var.at c.two.ensures c.square_of-own.ensures c.as_slice.ensures c.in-Ok.ensures.1) (omega arith) c.loop-k.invariant

pub returns : goal.returns
returns c =
    gradient_is c.args.quad.now c.args.var.at c.in-Ok.double c.loop-k.k c.loop-k.linear c.as_slice-2.result.now c.lin_of-lin.result
    (is_double c.in-Ok.double c.two.result c.square_of-own.result c.as_slice.result.now c.args.quad.now c.args.var.at c.two.ensures c.square_of-own.ensures c.as_slice.ensures c.in-Ok.ensures.1)
    (double_narrow c.two.result c.square_of-own.result c.as_slice.result.now c.args.quad.now c.args.var.at c.two.ensures c.square_of-own.ensures c.as_slice.ensures c.in-Ok.ensures.0)
    (omega arith) c.loop-k.invariant c.as_slice-2.ensures (c.lin_of-lin.ensures.constant ∙ c.linear_of-constant.ensures) c.lin_of-lin.ensures.linear
