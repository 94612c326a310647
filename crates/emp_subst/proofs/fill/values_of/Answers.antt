use Rattle.std.proofs.Common.{arith, refl}
use Rattle.std.proofs.lemmas.Result.{err_from_is_err_and}
use Rattle.emp_subst.proofs.Turning.{so_far_first, so_far_more, so_far_all}
use Rattle.emp_subst.proofs.fill.values_of.Goals as goal

pub returns-in_err-value_of : goal.returns-in_err-value_of
returns-in_err-value_of c =
    let p = err_from_is_err_and c.from_residual.result c.from_residual.ensures.1 in
    rw (p.1, p.2) (so_far_first c.args.model.now c.args.annot.now c.args.problem.now c.args.values.now c.loop-at.list c.loop-at.at (record { at = c.loop-at.at }) c.in_err-value_of.field-0.0 (omega arith) refl c.loop-at.invariant c.in_err-value_of.ensures)

pub loop-at-preserved : goal.loop-at-preserved
loop-at-preserved c =
    so_far_more c.args.model.now c.args.annot.now c.args.problem.now c.args.values.now c.loop-at.list c.push.new.self c.loop-at.at c.in_ok-value_of.field-0 c.loop-at.invariant c.in_ok-value_of.ensures c.in_ok-push.ensures.ok

pub returns : goal.returns
returns c =
    so_far_all c.args.model.now c.args.annot.now c.args.problem.now c.args.values.now c.loop-at.list c.loop-at.at (omega arith) (omega arith) c.loop-at.invariant
