use Rattle.std.proofs.Common.{Ok, Err}
use Rattle.emp_poly.proofs.Writing.{fold_runs, fold_wide, written_means}
use Rattle.emp_poly.proofs.value.at.Goals as goal

pub returns-clause-value : goal.returns-clause-value
returns-clause-value c = λ p h.
    written_means c.args.point.now p h c.args.quad.now c.requires.within c.in-Ok-with_square.value
    (fold_runs c.args.quad.now c.as_slice.result.now c.as_slice-2.result.now c.args.point.now c.in-Ok.sum (Ok c.in-Ok-with_square.value) c.as_slice.ensures c.as_slice-2.ensures c.in-Ok.ensures c.in-Ok-with_square.ensures).0

pub returns-clause-fold : goal.returns-clause-fold
returns-clause-fold c =
    fold_runs c.args.quad.now c.as_slice.result.now c.as_slice-2.result.now c.args.point.now c.in-Ok.sum (Ok c.in-Ok-with_square.value) c.as_slice.ensures c.as_slice-2.ensures c.in-Ok.ensures c.in-Ok-with_square.ensures

pub returns-in_default-clause-fold : goal.returns-in_default-clause-fold
returns-in_default-clause-fold c = fold_wide c.args.quad.now c.as_slice.result.now c.args.point.now c.in_default.field-0 c.as_slice.ensures c.in_default.ensures

pub returns-in_default-with_square-clause-fold : goal.returns-in_default-with_square-clause-fold
returns-in_default-with_square-clause-fold c =
    fold_runs c.args.quad.now c.as_slice.result.now c.as_slice-2.result.now c.args.point.now c.in-Ok.sum (Err c.in_default-with_square.field-0) c.as_slice.ensures c.as_slice-2.ensures c.in-Ok.ensures c.in_default-with_square.ensures
