use Rattle.std.proofs.Common.{pos, arith, refl}
use Rattle.std.proofs.lemmas.Int.{ints}
use Rattle.emp_num.specs.Whole.{whole}
use Rattle.emp_num.proofs.FracOrder.{one_value}
use Rattle.emp_kkt.proofs.cells.one.Goals as goal

pub returns : goal.returns
returns c = one_value (pos 1) (pos 1) c.reduced.result (whole 1) (omega (arith, ints)) c.reduced.ensures refl
