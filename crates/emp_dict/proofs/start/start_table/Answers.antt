use Rattle.emp_dict.proofs.Starts.{start_widths}
use Rattle.emp_dict.proofs.start.start_table.Goals as goal

pub of-requires : goal.of-requires
of-requires c =
    let s = c.args.system.now in
    start_widths s.base s.quantities s.kinds s.pairs s.objective c.as_slice.result.now c.in_ok-lines.lines s.sound c.as_slice.ensures c.in_ok-lines.ensures
