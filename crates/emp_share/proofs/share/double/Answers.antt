use Rattle.std.proofs.Common.{pos, arith, refl}
use Rattle.std.proofs.lemmas.Int.{ints}
use Rattle.emp_num.specs.Whole.{whole}
use Rattle.emp_num.proofs.FracOrder.{one_value}
use Rattle.emp_share.proofs.Cells.{double_gives}
use Rattle.emp_share.proofs.share.double.Goals as goal

pub returns : goal.returns
returns c =
    double_gives c.reduced.result c.product_of-own.result c.as_slice.result.now c.args.quad.now c.args.v.at c.mul.result (one_value (pos 2) (pos 1) c.reduced.result (whole 2) (omega (arith, ints)) c.reduced.ensures refl) c.product_of-own.ensures c.as_slice.ensures c.mul.ensures
