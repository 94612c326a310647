use Rattle.std.proofs.Common.{◌*ℤ◌, ◌+ℤ◌, rules}
use mir.Syntax.{w128}
use mir.Val.{SFits}
use Rattle.std.proofs.lemmas.Int.{to_z-of_z}
use Rattle.emp_line.specs.Place.{factors_of}
use Rattle.emp_line.proofs.Parts.{left_narrow, right_narrow, sum_narrow, fits_narrow}
use Rattle.emp_line.proofs.step.sum_of.Goals as goal

pub overflow_add-result : goal.overflow_add-result
overflow_add-result c =
    let fits_own : SFits w128 c.args.multipliers.own = search rules in
    let fits_other : SFits w128 c.args.multipliers.other = search rules in
    let fits_a : SFits w128 c.args.pair.own = search rules in
    let fits_b : SFits w128 c.args.pair.other = search rules in
    let a = c.args.pair.own in
    let b = c.args.pair.other in
    let fits_left : SFits w128 (c.args.multipliers.own *ℤ c.args.pair.own) = fits_narrow _ (left_narrow (factors_of c.args.multipliers) a b c.requires) in
    let fits_right : SFits w128 (c.args.multipliers.other *ℤ c.args.pair.other) = fits_narrow _ (right_narrow (factors_of c.args.multipliers) a b c.requires) in
    let fits_sum : SFits w128 (c.args.multipliers.own *ℤ c.args.pair.own +ℤ c.args.multipliers.other *ℤ c.args.pair.other) = fits_narrow _ (sum_narrow (factors_of c.args.multipliers) a b c.requires) in
    simp to_z-of_z fits_sum

pub returns : goal.returns
returns c =
    let fits_own : SFits w128 c.args.multipliers.own = search rules in
    let fits_other : SFits w128 c.args.multipliers.other = search rules in
    let fits_a : SFits w128 c.args.pair.own = search rules in
    let fits_b : SFits w128 c.args.pair.other = search rules in
    let a = c.args.pair.own in
    let b = c.args.pair.other in
    let fits_left : SFits w128 (c.args.multipliers.own *ℤ c.args.pair.own) = fits_narrow _ (left_narrow (factors_of c.args.multipliers) a b c.requires) in
    let fits_right : SFits w128 (c.args.multipliers.other *ℤ c.args.pair.other) = fits_narrow _ (right_narrow (factors_of c.args.multipliers) a b c.requires) in
    let fits_sum : SFits w128 (c.args.multipliers.own *ℤ c.args.pair.own +ℤ c.args.multipliers.other *ℤ c.args.pair.other) = fits_narrow _ (sum_narrow (factors_of c.args.multipliers) a b c.requires) in
    simp to_z-of_z
