use Rattle.std.proofs.Common.{inr}
use Rattle.std.proofs.lemmas.Result.{err_from_is_err_and}
use Rattle.emp_makes.proofs.sums.total.Goals as goal

pub returns-in_err-profit : goal.returns-in_err-profit
returns-in_err-profit c =
    let p = err_from_is_err_and c.from_residual-in_err-profit.result c.from_residual-in_err-profit.ensures.1 in
    rw (p.1, p.2) (inr (c.in_ok-output.output, c.in_ok-output.ensures, c.in_err-profit.ensures))
