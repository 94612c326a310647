use Rattle.std.proofs.Common.{rules}
use mir.Syntax.{w128}
use mir.Val.{SFits}
use Rattle.std.proofs.lemmas.Int.{to_z-of_z}
use Rattle.emp_line.specs.Place.{factors_of}
use Rattle.emp_line.proofs.Parts.{sum_gives}
use Rattle.emp_line.proofs.step.step.Goals as goal

pub returns : goal.returns
returns c =
    let fits_a : SFits w128 c.args.pair.own = search rules in
    let fits_b : SFits w128 c.args.pair.other = search rules in
    let fits_own : SFits w128 c.args.multipliers.own = search rules in
    let fits_other : SFits w128 c.args.multipliers.other = search rules in
    let fits_left : SFits w128 c.in_ok-left.left = search rules in
    let fits_right : SFits w128 c.in_ok-right.right = search rules in
    let l = simp to_z-of_z at c.in_ok-left.ensures in
    let r = simp to_z-of_z at c.in_ok-right.ensures in
    sum_gives (factors_of c.args.multipliers) c.args.pair.own c.args.pair.other c.in_ok-left.left c.in_ok-right.right c.sum.result l.0 l.1 r.0 r.1 (simp to_z-of_z at c.sum.ensures)
