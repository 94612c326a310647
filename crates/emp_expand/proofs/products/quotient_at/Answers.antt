use Rattle.emp_form.specs.Calls.{given}
use Rattle.emp_form.proofs.Running.{runs_divided}
use Rattle.emp_expand.specs.Factors.{fractions}
use Rattle.std.proofs.Common.{None}
use Rattle.emp_expand.proofs.Cells.{quotient_wide}
use Rattle.emp_expand.proofs.products.quotient_at.Goals as goal

pub returns-in-Ok : goal.returns-in-Ok
returns-in-Ok c =
    runs_divided (given (fractions c.args.left.now c.args.at)) (given (fractions c.args.right.now (None, None))) c.fraction-dividend.result c.fraction-divisor.result c.in-Ok.quotient (c.fraction-dividend.ensures, λ w. w) (c.fraction-divisor.ensures, λ w. w) c.in-Ok.ensures

pub returns-in-Err : goal.returns-in-Err
returns-in-Err c =
    quotient_wide (fractions c.args.left.now c.args.at) (fractions c.args.right.now (None, None)) c.fraction-dividend.result c.fraction-divisor.result c.in-Err.field-0 c.fraction-dividend.ensures c.fraction-divisor.ensures c.requires c.in-Err.ensures
