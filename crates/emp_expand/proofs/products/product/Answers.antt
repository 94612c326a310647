use Rattle.emp_form.specs.Calls.{given}
use Rattle.emp_form.proofs.Running.{runs_multiplied}
use Rattle.emp_expand.specs.Factors.{fractions}
use Rattle.emp_expand.proofs.products.product.Goals as goal

pub returns : goal.returns
returns c =
    runs_multiplied (given (fractions c.args.left.now c.args.p)) (given (fractions c.args.right.now c.args.q)) c.fraction-first.result c.fraction-second.result c.mul.result (c.fraction-first.ensures, λ w. w) (c.fraction-second.ensures, λ w. w) c.mul.ensures
