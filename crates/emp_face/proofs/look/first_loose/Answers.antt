use Rattle.std.proofs.Common.{ap₂, ◌∙◌}
use Rattle.emp_dict.specs.Dicts.{dictionary_of}
use Rattle.emp_step.specs.Steps.{lesser}
use Rattle.emp_face.proofs.Goings.{loose_next}
use Rattle.emp_face.proofs.look.first_loose.Goals as goal

pub loop-column-preserved : goal.loop-column-preserved
loop-column-preserved c =
    let d = dictionary_of c.args.dict.now in
    record {
      found = c.lesser-best.ensures.value ∙ (ap₂ (lesser d c.loop-column.column) c.is_loose.ensures c.loop-column.invariant.found ∙ loose_next d c.args.row c.loop-column.column);
      kept = c.lesser-best.ensures.kept;
    }
