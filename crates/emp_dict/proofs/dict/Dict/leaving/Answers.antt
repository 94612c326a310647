use Rattle.std.proofs.Common.{ap, ◌∙◌}
use Rattle.emp_turns.specs.Chooses.{better_row}
use Rattle.emp_dict.specs.Dicts.{dictionary_of}
use Rattle.emp_dict.specs.Chosen.{layout_of, way_by}
use Rattle.emp_dict.specs.Places.{stopping_at}
use Rattle.emp_dict.proofs.Choosing.{nearest_next}
use Rattle.emp_dict.proofs.dict.Dict.leaving.Goals as goal

pub loop-row-preserved : goal.loop-row-preserved
loop-row-preserved c =
    let d = dictionary_of c.args.self.now in
    record {
      found = c.better_row-best.ensures.value ∙ (ap (better_row (layout_of d) c.args.entry.column c.loop-row.row (stopping_at d c.args.aim c.args.entry.column (way_by c.args.entry.up) c.loop-row.row)) c.loop-row.invariant.found ∙ nearest_next d c.args.aim c.args.entry.column (way_by c.args.entry.up) c.loop-row.row);
      kept = c.better_row-best.ensures.kept;
    }
