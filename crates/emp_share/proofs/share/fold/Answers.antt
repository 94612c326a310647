use Rattle.std.proofs.Common.{inr, length, arith}
use Rattle.emp_share.proofs.Cells.{seconds_are, ends_give, fold_passes, double_ends}
use Rattle.emp_share.proofs.share.fold.Goals as goal

pub convex-requires : goal.convex-requires
convex-requires c = (seconds_are c.args.quad.now c.args.own.now c.in-Ok.list c.as_slice.result.now c.len-side.result c.in-Ok-cells_of.cells c.in-Ok.ensures c.as_slice.ensures c.len-side.ensures c.in-Ok-cells_of.ensures).matrix.symmetric

pub returns-in-Err : goal.returns-in-Err
returns-in-Err c =
    ends_give c.args.quad.now c.args.own.now c.len-side.result c.in-Ok-cells_of.cells c.in-Err.end
    (seconds_are c.args.quad.now c.args.own.now c.in-Ok.list c.as_slice.result.now c.len-side.result c.in-Ok-cells_of.cells c.in-Ok.ensures c.as_slice.ensures c.len-side.ensures c.in-Ok-cells_of.ensures)
    c.in-Err.ensures

pub returns-then-side-own : goal.returns-then-side-own
returns-then-side-own c =
    inr (double_ends c.args.quad.now c.args.own.now c.len-side.result c.in-Ok.list c.in-Ok-cells_of.cells c.in_default-convex.field-0
    (seconds_are c.args.quad.now c.args.own.now c.in-Ok.list c.as_slice.result.now c.len-side.result c.in-Ok-cells_of.cells c.in-Ok.ensures c.as_slice.ensures c.len-side.ensures c.in-Ok-cells_of.ensures)
    c.in_default-convex.ensures c.in-Ok.ensures c.len-side.ensures c.if-side-own.true)

pub returns : goal.returns
returns c =
    let s = seconds_are c.args.quad.now c.args.own.now c.in-Ok.list c.as_slice.result.now c.len-side.result c.in-Ok-cells_of.cells c.in-Ok.ensures c.as_slice.ensures c.len-side.ensures c.in-Ok-cells_of.ensures in
    fold_passes c.args.quad.now c.args.own.now c.len-side.result (length c.args.own.now) c.in-Ok-cells_of.cells c.in_default-convex.field-0 s c.in_default-convex.ensures (let h = s.within in let k = c.if-side-own.false in omega arith)
