use Rattle.std.proofs.Common.{◌<◌, length, arith}
use Rattle.emp_command.specs.Deliveries.{stored_of}
use Rattle.emp_command.proofs.Storing.{one_stored, one_cut}
use Rattle.emp_command.proofs.delivery.store_all.Goals as goal

pub returns-in-Err-clause-cut : goal.returns-in-Err-clause-cut
returns-in-Err-clause-cut g c =
    let below : c.loop-at.at < length c.args.files.now = omega arith in
    one_cut stored_of c.args.files.now c.loop-at.at _ below c.index-files-at.is _ _ _ _ _ c.as_str.ensures.value c.as_slice.ensures.value c.loop-at.invariant.stored c.in-Err.ensures.cut

pub loop-at-preserved : goal.loop-at-preserved
loop-at-preserved g c =
    let below : c.loop-at.at < length c.args.files.now = omega arith in
    record {
      stored = one_stored stored_of c.args.files.now c.loop-at.at _ below c.index-files-at.is _ _ _ _ _ c.as_str.ensures.value c.as_slice.ensures.value c.loop-at.invariant.stored c.in-Ok.ensures.stored;
      none_falls = λ at. let a = c.loop-at.invariant.none_falls at in let b = c.store.ensures.none_falls at in omega arith;
    }
