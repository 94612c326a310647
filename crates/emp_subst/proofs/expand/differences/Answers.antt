use Rattle.std.proofs.Common.{arith}
use Rattle.std.proofs.lemmas.Result.{err_from_is_err_and}
use Rattle.emp_subst.proofs.Expanding.{first_fault, so_far_more, all_so_far}
use Rattle.emp_subst.proofs.expand.differences.Goals as goal

pub returns-in_err-quad : goal.returns-in_err-quad
returns-in_err-quad c =
    let p = err_from_is_err_and c.from_residual.result c.from_residual.ensures.1 in
    rw (p.1, p.2) (first_fault c.args.model.now c.loop-at.list c.loop-at.at c.get.result.now c.in_err-quad.field-0.0 (omega arith) c.get.ensures c.loop-at.invariant c.in_err-quad.ensures)

pub loop-at-preserved : goal.loop-at-preserved
loop-at-preserved c = so_far_more c.args.model.now c.loop-at.list c.push.new.self c.loop-at.at c.get.result.now c.in_ok-quad.quad (omega arith) c.get.ensures c.loop-at.invariant c.in_ok-quad.ensures c.in-Ok.ensures.ok

pub returns : goal.returns
returns c = all_so_far c.args.model.now c.loop-at.list c.loop-at.at (omega arith) (omega arith) c.loop-at.invariant
