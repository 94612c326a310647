use Rattle.std.proofs.lemmas.Result.{err_from_is_err_and}
use Rattle.emp_subst.proofs.Expanding.{fault_of_right}
use Rattle.emp_subst.proofs.expand.one_difference.Goals as goal

pub returns-in_err-right : goal.returns-in_err-right
returns-in_err-right c =
    let p = err_from_is_err_and c.from_residual-in_err-right.result c.from_residual-in_err-right.ensures.1 in
    rw (p.1, p.2) (fault_of_right c.args.equation.now.left c.args.equation.now.right c.in_ok-left.left c.in_err-right.field-0.0 c.in_ok-left.ensures.cause c.in_err-right.ensures.cause)
