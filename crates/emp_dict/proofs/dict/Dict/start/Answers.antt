use Rattle.std.proofs.Common.{refl}
use Rattle.emp_dict.proofs.Starts.{parts_sound}
use Rattle.emp_dict.proofs.dict.Dict.start.Goals as goal

pub invariant_of-result : goal.invariant_of-result
invariant_of-result c =
    let s = c.args.system.now in
    record {
      sound = parts_sound s.base s.quantities s.kinds s.pairs s.objective c.len-count.result s.quantities c.in_ok-start_table.field-0 c.in_ok-start_labels.field-0 c.in_ok-bases.field-0 c.in_ok-unasked.field-0 s.sound refl c.len-count.ensures c.in_ok-start_table.ensures c.in_ok-start_labels.ensures c.in_ok-bases.ensures c.in_ok-unasked.ensures;
    }
