use Rattle.std.proofs.Common.{◌≡◌, arith, to_z-of_z, FitsSigned}
use Rattle.std.specs.Int.{w128}
use Rattle.std.proofs.lemmas.Int.{ints}
use Rattle.emp_dict.specs.Dicts.{dictionary_of}
use Rattle.emp_decide.specs.Reads.{put, way}
use Rattle.emp_decide.proofs.Reading.{spread_place, spread_more, put_all_narrow}
use Rattle.emp_decide.proofs.row.factors.Goals as goal

pub put-requires-in-loop-column : goal.put-requires-in-loop-column
put-requires-in-loop-column c =
    let d = dictionary_of c.args.dict.now in
    spread_place d c.args.row (way c.args.up) _ c.loop-column.column c.loop-column.out c.column_label.result c.args.dict.now.sound c.loop-column.invariant.made (omega (arith, c.loop-column-test.true, c.columns-column-end.ensures)) c.column_label.ensures

pub loop-column-preserved : goal.loop-column-preserved
loop-column-preserved c =
    let d = dictionary_of c.args.dict.now in
    let fits : FitsSigned w128 c.signed_cell.result = omega (arith, ints, c.signed_cell.ensures.narrow) in
    let set : c.put-in-loop-column.new.factors ≡ put c.column_label.result c.signed_cell.result c.loop-column.out = simp (to_z-of_z, fits) at c.put-in-loop-column.ensures in
    record {
      made = spread_more d c.args.row (way c.args.up) c.loop-column.column _ c.loop-column.out c.put-in-loop-column.new.factors c.column_label.result c.signed_cell.result c.loop-column.invariant.made set c.column_label.ensures c.signed_cell.ensures.value;
      narrow = put_all_narrow c.column_label.result c.signed_cell.result c.loop-column.out c.put-in-loop-column.new.factors c.loop-column.invariant.narrow c.signed_cell.ensures.narrow set;
    }
